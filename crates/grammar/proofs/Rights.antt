-- What the bounds of a book say of the sides of each numbered rule, and what stands behind a place of a right side.
use Rattle.std.proofs.Common.{◌≡◌, ℕ, zero, suc, ◌<◌, ◌≤◌, true, List, [], ◌∷◌, length, get_or, drop, sym, ap, ◌∙◌, subst, inl, inr, arith, drop-cons}
use Rattle.std.proofs.lemmas.List.{get_or_past}
use Rattle.std.proofs.lemmas.Bool.{cases_lt}
use Rattle.book.specs.Rules.{Production, all_bounded}
use Rattle.book.specs.Symbols.{longest_right}
use Rattle.grammar.specs.Sets.{symbol_count}
use Rattle.grammar.specs.Numbered.{outer}
use Rattle.grammar.specs.Meaning.{rule_of, InBook}
use Rattle.grammar.specs.Bounded.{left_in, size_in, symbol_in}

-- Sides. What is true of the right side of a rule in the book is true of the outer rule's too, and so of every number's.

-- at most six symbols, none of them the end mark
pub record Fits (p : Production) : Type 0 where
  pub size : length p.rhs ≤ longest_right
  pub symbols : (d : ℕ) → d < length p.rhs → (1 ≤ get_or p.rhs d 0) × (get_or p.rhs d 0 < symbol_count)

outer_fits : Fits outer
outer_fits = record { size = omega arith; symbols = go }
  where
    go : (d : ℕ) → d < 1 → (1 ≤ get_or outer.rhs d 0) × (get_or outer.rhs d 0 < symbol_count)
    go zero h = (omega arith, omega arith)
    go (suc d) h = absurd (omega arith)

in_book_fits : (rules : List Production) → all_bounded rules ≡ true → (r : ℕ) → InBook rules r → Fits (rule_of rules r)
in_book_fits rules b r i = record {
  size = (size_in rules b r i).1;
  symbols = λ d h. let p = symbol_in rules b r i d h in (p.0, omega (arith, p.1));
}

pub rule_fits : (rules : List Production) → all_bounded rules ≡ true → (r : ℕ) → Fits (rule_of rules r)
rule_fits rules b zero = outer_fits
rule_fits rules b (suc k) =
    elim (cases_lt k (length rules)) [
      | inl h ↦ in_book_fits rules b (suc k) record { low = omega arith; high = omega arith }
      | inr h ↦ subst Fits (sym (get_or_past rules k outer h)) outer_fits
    ]

pub left_is_symbol : (rules : List Production) → all_bounded rules ≡ true → (r : ℕ) → InBook rules r → (rule_of rules r).lhs < symbol_count
left_is_symbol rules b r i = omega (arith, (left_in rules b r i).1)

-- Behind a place.

pub behind_at : (xs : List ℕ) (d x : ℕ) (ws : List ℕ) → drop d xs ≡ x ∷ ws → (d < length xs) × (get_or xs d 0 ≡ x)
behind_at [] zero x ws e = let z : ◌≡◌ {A = ℕ} 0 1 = cc in absurd (omega arith)
behind_at [] (suc d) x ws e = let z : ◌≡◌ {A = ℕ} 0 1 = cc in absurd (omega arith)
behind_at (y ∷ ys) zero x ws e = (omega arith, cc)
behind_at (y ∷ ys) (suc d) x ws e = let h = behind_at ys d x ws e in (omega (arith, h.0), h.1)

-- the other way: a symbol at a place stands behind it, with the rest
pub at_behind : (xs : List ℕ) (d x : ℕ) → d < length xs → get_or xs d 0 ≡ x → drop d xs ≡ x ∷ drop (suc d) xs
at_behind xs d x h e = drop-cons xs d 0 h ∙ ap (λ y. y ∷ drop (suc d) xs) e

pub nothing_behind : (xs : List ℕ) (d : ℕ) → drop d xs ≡ [] → length xs ≤ d
nothing_behind [] d e = omega arith
nothing_behind (y ∷ ys) zero e = let z : ◌≡◌ {A = ℕ} 0 1 = cc in absurd (omega arith)
nothing_behind (y ∷ ys) (suc d) e = omega (arith, nothing_behind ys d e)
