-- The test of the rules that a book can have is true of just those.
use Rattle.std.proofs.Common.{◌≡◌, ℕ, zero, suc, ◌<◌, ◌≤◌, Bool, true, false, not, ◌&&◌, leb, List, [], ◌∷◌, length, get_or, sym, refl, subst, inl, inr, arith}
use Rattle.std.proofs.lemmas.Bool.{and_parts, and_from, or_left, or_right, or_cases, both_ways, not-true, not_from_false, leb-true, le-leb}
use Rattle.book.specs.Symbols.{first_nonterminal, last_symbol, longest_right, within, is_nonterminal, is_symbol}
use Rattle.book.specs.Rules.{Production, Bounded, rule_in, all_symbols, is_bounded, all_bounded, distinct, same_rule, holds, TestIsExact}
use Rattle.book.proofs.Equal.{same_equal, same_self}
use Rattle.book.proofs.Admission.{few, bounded, apart, well_formed}

within_parts : (low high x : ℕ) → within low high x ≡ true → (low ≤ x) × (x ≤ high)
within_parts low high x w = let p = and_parts (leb low x) (leb x high) w in (leb-true low x p.0, leb-true x high p.1)

within_from : (low high x : ℕ) → (low ≤ x) × (x ≤ high) → within low high x ≡ true
within_from low high x h = and_from _ _ (le-leb low x h.0) (le-leb x high h.1)

-- Rules within their bounds.

pub symbols_at : (xs : List ℕ) → all_symbols xs ≡ true → (i : ℕ) → i < length xs → (1 ≤ get_or xs i 0) × (get_or xs i 0 ≤ last_symbol)
symbols_at [] a i h = absurd (omega arith)
symbols_at (x ∷ xs) a zero h = within_parts 1 last_symbol x (and_parts (is_symbol x) (all_symbols xs) a).0
symbols_at (x ∷ xs) a (suc i) h = symbols_at xs (and_parts (is_symbol x) (all_symbols xs) a).1 i (omega arith)

symbols_from : (xs : List ℕ) → ((i : ℕ) → i < length xs → (1 ≤ get_or xs i 0) × (get_or xs i 0 ≤ last_symbol)) → all_symbols xs ≡ true
symbols_from [] f = refl
symbols_from (x ∷ xs) f = and_from _ _ (within_from 1 last_symbol x (f 0 (omega arith))) (symbols_from xs (λ i h. f (suc i) (omega arith)))

pub rule_bounded : (p : Production) → is_bounded p ≡ true → Bounded p
rule_bounded p b =
    let l = and_parts (is_nonterminal p.lhs) (within 1 longest_right (length p.rhs) && all_symbols p.rhs) b in
    let r = and_parts (within 1 longest_right (length p.rhs)) (all_symbols p.rhs) l.1 in
    record { left_in = within_parts first_nonterminal last_symbol p.lhs l.0; size_in = within_parts 1 longest_right (length p.rhs) r.0; codes_in = symbols_at p.rhs r.1 }

bounded_rule : (p : Production) → Bounded p → is_bounded p ≡ true
bounded_rule p b =
    and_from _ _ (within_from first_nonterminal last_symbol p.lhs b.left_in)
    (and_from _ _ (within_from 1 longest_right (length p.rhs) b.size_in) (symbols_from p.rhs b.codes_in))

bounded_at : (ps : List Production) → all_bounded ps ≡ true → (k : ℕ) → k < length ps → Bounded (rule_in ps k)
bounded_at [] a k h = absurd (omega arith)
bounded_at (p ∷ ps) a zero h = rule_bounded p (and_parts (is_bounded p) (all_bounded ps) a).0
bounded_at (p ∷ ps) a (suc k) h = bounded_at ps (and_parts (is_bounded p) (all_bounded ps) a).1 k (omega arith)

bounded_from : (ps : List Production) → ((k : ℕ) → k < length ps → Bounded (rule_in ps k)) → all_bounded ps ≡ true
bounded_from [] f = refl
bounded_from (p ∷ ps) f = and_from _ _ (bounded_rule p (f 0 (omega arith))) (bounded_from ps (λ k h. f (suc k) (omega arith)))

-- Distinct rules.

holds_at : (ps : List Production) (p : Production) (j : ℕ) → j < length ps → p ≡ rule_in ps j → holds ps p ≡ true
holds_at [] p j h e = absurd (omega arith)
holds_at (q ∷ ps) p zero h e = or_left (same_rule q p) (holds ps p) (subst (λ r. same_rule q r ≡ true) (sym e) (same_self q))
holds_at (q ∷ ps) p (suc j) h e = or_right (same_rule q p) (holds ps p) (holds_at ps p j (omega arith) e)

holds_some : (ps : List Production) (p : Production) → holds ps p ≡ true → (j : ℕ) × (j < length ps) × (p ≡ rule_in ps j)
holds_some [] p h = absurd (both_ways false refl h)
holds_some (q ∷ ps) p h =
    elim (or_cases (same_rule q p) (holds ps p) h) [
      | inl s ↦ (0, omega arith, sym (same_equal q p s))
      | inr t ↦ let r = holds_some ps p t in (suc r.0, omega (arith, r.1), r.2)
    ]

distinct_apart : (ps : List Production) → distinct ps ≡ true → (i j : ℕ) → i < j → j < length ps → rule_in ps i ≡ rule_in ps j → ⊥
distinct_apart [] d i j l h e = omega arith
distinct_apart (p ∷ ps) d i zero l h e = omega arith
distinct_apart (p ∷ ps) d zero (suc j) l h e =
    both_ways (holds ps p) (not-true (holds ps p) (and_parts (not (holds ps p)) (distinct ps) d).0) (holds_at ps p j (omega arith) e)
distinct_apart (p ∷ ps) d (suc i) (suc j) l h e = distinct_apart ps (and_parts (not (holds ps p)) (distinct ps) d).1 i j (omega arith) (omega arith) e

apart_distinct : (ps : List Production) → ((i j : ℕ) → i < j → j < length ps → rule_in ps i ≡ rule_in ps j → ⊥) → distinct ps ≡ true
apart_distinct [] f = refl
apart_distinct (p ∷ ps) f = and_from _ _ (not_from_false (holds ps p) (new (holds ps p) refl)) (apart_distinct ps (λ i j l h e. f (suc i) (suc j) (omega arith) (omega arith) e))
  where
    new : (t : Bool) → holds ps p ≡ t → t ≡ false
    new false e = refl
    new true e = let r = holds_some ps p e in absurd (f 0 (suc r.0) (omega arith) (omega (arith, r.1)) r.2)

pub test_is_exact : TestIsExact
test_is_exact rules = (
  (λ w. record { few = few rules w; bounded = bounded_at rules (bounded rules w); apart = distinct_apart rules (apart rules w) }),
  (λ w. well_formed rules w.few (bounded_from rules w.bounded) (apart_distinct rules w.apart)),
)
