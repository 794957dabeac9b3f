-- Rules put in at dot 0 by a test on their numbers: what such a set holds, that it keeps its shape, and that it comes to rest.
use Rattle.std.proofs.Common.{◌≡◌, ℕ, zero, suc, ◌+◌, ◌<◌, ◌≤◌, Bool, true, false, ◌⊎◌, List, [], ◌∷◌, length, get_or, sym, refl, ap, ◌∙◌, inl, inr, arith}
use Rattle.book.specs.Rules.{Production}
use Rattle.grammar.specs.Sets.{Flags, has}
use Rattle.grammar.specs.Numbered.{line_at}
use Rattle.grammar.specs.Items.{Items, opened}
use Rattle.grammar.specs.Lookahead.{add_rules}
use Rattle.grammar.specs.Meaning.{Holds, rule_of}
use Rattle.grammar.specs.Laws.{Shaped}
use Rattle.grammar.specs.Flagging.{insert_if, insert_if_long, insert_if_keeps, insert_if_from, insert_if_has}

-- the rows that pass the test get their dot 0
abbrev pub open_by : (ℕ → Bool) → Items → Items
open_by t [] = []
open_by t (row ∷ rows) = insert_if (t 0) row 0 ∷ open_by (λ q. t (suc q)) rows

-- Both ways of putting rules in are this one.

pub opened_is : (s : Flags) (ls : List Production) (rows : Items) → length rows ≤ length ls → opened s ls rows ≡ open_by (λ q. has s (line_at ls q).lhs) rows
opened_is s [] [] h = refl
opened_is s [] (row ∷ rows) h = absurd (omega arith)
opened_is s (l ∷ ls) [] h = refl
opened_is s (l ∷ ls) (row ∷ rows) h = ap (λ more. insert_if (has s l.lhs) row 0 ∷ more) (opened_is s ls rows (omega arith))

pub add_rules_is : (p t : ℕ → Bool) (k : ℕ) → ((q : ℕ) → t q ≡ p (k + q)) → (rows : Items) → add_rules p k rows ≡ open_by t rows
add_rules_is p t k same [] = refl
add_rules_is p t k same (row ∷ rows) =
    let z : k ≡ k + 0 = omega arith in
    let here : p k ≡ t 0 = ap p z ∙ sym (same 0) in
    ap (λ b. insert_if b row 0 ∷ add_rules p (suc k) rows) here ∙ ap (λ more. insert_if (t 0) row 0 ∷ more) (add_rules_is p (λ q. t (suc q)) (suc k) next rows)
  where
    next : (q : ℕ) → t (suc q) ≡ p (suc k + q)
    next q = let z : k + suc q ≡ suc k + q = omega arith in same (suc q) ∙ ap p z

-- What it holds.

pub open_keeps : (t : ℕ → Bool) (rows : Items) (q e : ℕ) → Holds rows q e → Holds (open_by t rows) q e
open_keeps t [] q e h = h
open_keeps t (row ∷ rows) zero e h = insert_if_keeps (t 0) row 0 e h
open_keeps t (row ∷ rows) (suc q) e h = open_keeps (λ i. t (suc i)) rows q e h

pub open_from : (t : ℕ → Bool) (rows : Items) (q e : ℕ) → Holds (open_by t rows) q e → Holds rows q e ⊎ ((t q ≡ true) × (q < length rows) × (e ≡ 0))
open_from t [] q e h = inl h
open_from t (row ∷ rows) zero e h = elim (insert_if_from (t 0) row 0 e h) [ inl p ↦ inl p | inr p ↦ inr (p.0, omega arith, p.1) ]
open_from t (row ∷ rows) (suc q) e h = elim (open_from (λ i. t (suc i)) rows q e h) [ inl p ↦ inl p | inr p ↦ inr (p.0, omega (arith, p.1), p.2) ]

pub open_has : (t : ℕ → Bool) (rows : Items) (q : ℕ) → q < length rows → 0 < length (get_or rows q []) → t q ≡ true → Holds (open_by t rows) q 0
open_has t [] q h l e = absurd (omega arith)
open_has t (row ∷ rows) zero h l e = insert_if_has (t 0) row 0 e l
open_has t (row ∷ rows) (suc q) h l e = open_has (λ i. t (suc i)) rows q (omega arith) l e

-- Its shape.

open_long : (t : ℕ → Bool) (rows : Items) → length (open_by t rows) ≡ length rows
open_long t [] = refl
open_long t (row ∷ rows) = ap suc (open_long (λ i. t (suc i)) rows)

open_row_long : (t : ℕ → Bool) (rows : Items) (q : ℕ) → length (get_or (open_by t rows) q []) ≡ length (get_or rows q [])
open_row_long t [] q = refl
open_row_long t (row ∷ rows) zero = insert_if_long (t 0) row 0
open_row_long t (row ∷ rows) (suc q) = open_row_long (λ i. t (suc i)) rows q

pub open_shaped : (rules : List Production) (t : ℕ → Bool) (items : Items) → Shaped rules items → Shaped rules (open_by t items)
open_shaped rules t items sh = record {
  rows = open_long t items ∙ sh.rows;
  dots = λ r h. open_row_long t items r ∙ sh.dots r h;
  within = inside;
}
  where
    inside : (r d : ℕ) → Holds (open_by t items) r d → d ≤ length (rule_of rules r).rhs
    inside r d e = elim (open_from t items r d e) [ inl p ↦ sh.within r d p | inr p ↦ omega (arith, p.2) ]

-- the rules that are not in at dot 0
abbrev pub counted : Bool → ℕ
counted true = 0
counted false = 1

abbrev pub missing : Items → ℕ
missing [] = 0
missing (row ∷ rows) = counted (has row 0) + missing rows

counted_le : (b : Bool) → counted b ≤ 1
counted_le true = omega arith
counted_le false = omega arith

pub missing_le : (rows : Items) → missing rows ≤ length rows
missing_le [] = omega arith
missing_le (row ∷ rows) = omega (arith, missing_le rows, counted_le (has row 0))

row_or : (b : Bool) (row : Flags) → (insert_if b row 0 ≡ row) ⊎ (counted (has (insert_if b row 0) 0) < counted (has row 0))
row_or false row = inl refl
row_or true [] = inl refl
row_or true (true ∷ bs) = inl refl
row_or true (false ∷ bs) = inr (omega arith)

-- nothing changes, or fewer are missing
pub open_or : (t : ℕ → Bool) (rows : Items) → (open_by t rows ≡ rows) ⊎ (missing (open_by t rows) < missing rows)
open_or t [] = inl refl
open_or t (row ∷ rows) = join (insert_if (t 0) row 0) (open_by (λ q. t (suc q)) rows) (row_or (t 0) row) (open_or (λ q. t (suc q)) rows)
  where
    join : (new : Flags) (more : Items) → (new ≡ row) ⊎ (counted (has new 0) < counted (has row 0)) → (more ≡ rows) ⊎ (missing more < missing rows)
        → (new ∷ more ≡ row ∷ rows) ⊎ (missing (new ∷ more) < missing (row ∷ rows))
    join new more (inl p) (inl q) = inl cc
    join new more (inl p) (inr q) = let z : counted (has new 0) ≡ counted (has row 0) = ap (λ y. counted (has y 0)) p in inr (omega arith)
    join new more (inr p) (inl q) = let z : missing more ≡ missing rows = ap missing q in inr (omega arith)
    join new more (inr p) (inr q) = inr (omega arith)
