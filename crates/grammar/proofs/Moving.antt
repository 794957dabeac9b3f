-- The next kernel and the kernel of state 0 hold what they mean.
use Rattle.std.proofs.Common.{◌≡◌, ℕ, zero, suc, ◌<◌, ◌≤◌, true, false, eqb, ◌↔◌, List, [], ◌∷◌, length, get_or, take, replicate, sym, refl, ap, ◌∙◌, subst, inl, inr, arith, length-take-le, get_or-take}
use lib.ListN.{length-replicate, get_or-replicate}
use Rattle.std.proofs.lemmas.Bool.{and_parts, and_from, eqb-true, eq-eqb, both_ways, false≢true}
use Rattle.book.specs.Rules.{Production, all_bounded}
use Rattle.book.specs.Symbols.{longest_right}
use Rattle.grammar.specs.Sets.{Flags, has, insert}
use Rattle.grammar.specs.Numbered.{numbered, line_at}
use Rattle.grammar.specs.Items.{Items, dot_count, no_dots, start_kernel, before, onward}
use Rattle.grammar.specs.Meaning.{rule_of, Holds, Next, moved}
use Rattle.grammar.specs.Laws.{Shaped, NextMeans}
use Rattle.grammar.specs.Rounds.{none_has, insert_from}
use Rattle.grammar.proofs.Rights.{rule_fits, behind_at, at_behind}
use Rattle.grammar.proofs.Reading.{held_row}

-- One row.

before_long : (x : ℕ) (ys : List ℕ) (bs : Flags) → length (before x ys bs) ≡ length bs
before_long x ys [] = refl
before_long x [] (b ∷ bs) = ap suc (before_long x [] bs)
before_long x (y ∷ ys) (b ∷ bs) = ap suc (before_long x ys bs)

before_from : (x : ℕ) (ys : List ℕ) (bs : Flags) (d : ℕ) → has (before x ys bs) d ≡ true → (has bs d ≡ true) × (d < length ys) × (get_or ys d 0 ≡ x)
before_from x ys [] d e = absurd (false≢true e)
before_from x [] (b ∷ bs) zero e = absurd (false≢true e)
before_from x [] (b ∷ bs) (suc d) e = let h = before_from x [] bs d e in absurd (omega (arith, h.1))
before_from x (y ∷ ys) (b ∷ bs) zero e = let p = and_parts b (eqb y x) e in (p.0, omega arith, eqb-true y x p.1)
before_from x (y ∷ ys) (b ∷ bs) (suc d) e = let h = before_from x ys bs d e in (h.0, omega (arith, h.1), h.2)

before_has : (x : ℕ) (ys : List ℕ) (bs : Flags) (d : ℕ) → has bs d ≡ true → d < length ys → get_or ys d 0 ≡ x → has (before x ys bs) d ≡ true
before_has x ys [] d e h p = e
before_has x [] (b ∷ bs) d e h p = absurd (omega arith)
before_has x (y ∷ ys) (b ∷ bs) zero e h p = and_from b (eqb y x) e (eq-eqb y x p)
before_has x (y ∷ ys) (b ∷ bs) (suc d) e h p = before_has x ys bs d e (omega arith) p

-- a flag among the first n of a row
taken_from : (n : ℕ) (row : Flags) (d : ℕ) → has (take n row) d ≡ true → has row d ≡ true
taken_from zero row d e = absurd (false≢true e)
taken_from (suc n) [] d e = e
taken_from (suc n) (b ∷ bs) zero e = e
taken_from (suc n) (b ∷ bs) (suc d) e = taken_from n bs d e

-- All rows.

onward_long : (x : ℕ) (ls : List Production) (rows : Items) → length rows ≡ length ls → length (onward x ls rows) ≡ length ls
onward_long x [] rows e = refl
onward_long x (l ∷ ls) [] e = e
onward_long x (l ∷ ls) (row ∷ rows) e = let z : length rows ≡ length ls = omega arith in ap suc (onward_long x ls rows z)

-- a row of the next kernel, where there is a rule and a row
moved_row : (x : ℕ) (ls : List Production) (rows : Items) (r : ℕ) → r < length ls → r < length rows
    → get_or (onward x ls rows) r [] ≡ false ∷ before x (line_at ls r).rhs (take longest_right (get_or rows r []))
moved_row x [] rows r h i = absurd (omega arith)
moved_row x (l ∷ ls) [] r h i = absurd (omega arith)
moved_row x (l ∷ ls) (row ∷ rows) zero h i = refl
moved_row x (l ∷ ls) (row ∷ rows) (suc r) h i = moved_row x ls rows r (omega arith) (omega arith)

module _ (rules : List Production) (b : all_bounded rules ≡ true) (items : Items) (sh : Shaped rules items) (x : ℕ) where
  abbrev next : Items
  next = onward x (numbered rules) items

  next_long : length next ≡ length (numbered rules)
  next_long = onward_long x (numbered rules) items sh.rows

  row_is : (r : ℕ) → r < length (numbered rules) → get_or next r [] ≡ false ∷ before x (rule_of rules r).rhs (take longest_right (get_or items r []))
  row_is r h = moved_row x (numbered rules) items r h (omega (arith, sh.rows))

  next_from : (r d : ℕ) → Holds next r d → Next rules (Holds items) x r d
  next_from r d e =
      let h : r < length (numbered rules) = omega (arith, held_row next r d e, next_long) in
      go d (subst (λ row. has row d ≡ true) (row_is r h) e)
    where
      go : (c : ℕ) → has (false ∷ before x (rule_of rules r).rhs (take longest_right (get_or items r []))) c ≡ true → Next rules (Holds items) x r c
      go zero f = absurd (false≢true f)
      go (suc c) f =
          let p = before_from x (rule_of rules r).rhs (take longest_right (get_or items r [])) c f in
          moved (taken_from longest_right (get_or items r []) c p.0) (at_behind (rule_of rules r).rhs c x p.1 p.2)

  next_has : (r d : ℕ) → Next rules (Holds items) x r d → Holds next r d
  next_has _ _ (moved {r} {d} {ws} e behind) =
      let at = behind_at (rule_of rules r).rhs d x ws behind in
      let h : r < length (numbered rules) = omega (arith, held_row items r d e, sh.rows) in
      let small : d < longest_right = omega (arith, (rule_fits rules b r).size, at.0) in
      subst (λ row. has row (suc d) ≡ true) (sym (row_is r h))
      (before_has x (rule_of rules r).rhs (take longest_right (get_or items r [])) d (get_or-take longest_right (get_or items r []) d false small ∙ e) at.0 at.1)

  next_row_long : (r : ℕ) → r < length (numbered rules) → length (get_or next r []) ≡ dot_count
  next_row_long r h =
      ap length (row_is r h)
      ∙ ap suc (before_long x (rule_of rules r).rhs (take longest_right (get_or items r [])) ∙ length-take-le longest_right (get_or items r []) (omega (arith, sh.dots r h)))

  next_within : (r d : ℕ) → Holds next r d → d ≤ length (rule_of rules r).rhs
  next_within r d e = go d (next_from r d e)
    where
      go : (c : ℕ) → Next rules (Holds items) x r c → c ≤ length (rule_of rules r).rhs
      go _ (moved {d} {ws} f behind) = omega (arith, (behind_at (rule_of rules r).rhs d x ws behind).0)

pub next_means : NextMeans
next_means rules b items sh x = (
  record { rows = next_long rules b items sh x; dots = next_row_long rules b items sh x; within = next_within rules b items sh x },
  λ r d. (next_from rules b items sh x r d, next_has rules b items sh x r d),
)

-- The kernel of state 0.

-- no dot is in the rows behind the first
no_rows : (n r d : ℕ) → Holds (replicate n no_dots) r d → ⊥
no_rows zero r d e = false≢true e
no_rows (suc n) zero d e = both_ways _ (none_has dot_count d) e
no_rows (suc n) (suc r) d e = no_rows n r d e

pub start_holds : (rules : List Production) (r d : ℕ) → Holds (start_kernel (numbered rules)) r d ↔ ((r ≡ 0) × (d ≡ 0))
start_holds rules r d = (from r, to)
  where
    from : (q : ℕ) → Holds (start_kernel (numbered rules)) q d → (q ≡ 0) × (d ≡ 0)
    from zero e = elim (insert_from no_dots 0 d e) [ inl p ↦ absurd (both_ways _ (none_has dot_count d) p) | inr p ↦ (refl, p) ]
    from (suc q) e = absurd (no_rows (length rules) q d e)

    to : (r ≡ 0) × (d ≡ 0) → Holds (start_kernel (numbered rules)) r d
    to p = ap (λ q. has (get_or (start_kernel (numbered rules)) q []) d) p.0 ∙ ap (has (insert no_dots 0)) p.1

pub start_shaped : (rules : List Production) → all_bounded rules ≡ true → Shaped rules (start_kernel (numbered rules))
start_shaped rules b = record { rows = ap suc (length-replicate (length rules) no_dots); dots = long; within = λ r d e. omega (arith, ((start_holds rules r d).0 e).1) }
  where
    long : (r : ℕ) → r < length (numbered rules) → length (get_or (start_kernel (numbered rules)) r []) ≡ dot_count
    long zero h = refl
    long (suc r) h = ap length (get_or-replicate (length rules) r no_dots [] (omega arith))
