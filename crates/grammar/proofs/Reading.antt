-- What an item set reads is what stands behind its dots.
use Rattle.std.proofs.Common.{◌≡◌, ℕ, zero, suc, ◌<◌, true, ◌⊎◌, List, [], ◌∷◌, length, get_or, drop, sym, refl, ap, ◌∙◌, subst, inl, inr, arith}
use Rattle.std.proofs.lemmas.List.{get_or_past}
use Rattle.std.proofs.lemmas.Bool.{cases_lt, both_ways, false≢true}
use Rattle.book.specs.Rules.{Production}
use Rattle.grammar.specs.Sets.{Flags, has, none, symbol_count}
use Rattle.grammar.specs.Numbered.{numbered, line_at}
use Rattle.grammar.specs.Items.{Items, read_row, read_rows, reads}
use Rattle.grammar.specs.Meaning.{rule_of, Holds, after}
use Rattle.grammar.specs.Laws.{ReadsMean}
use Rattle.grammar.specs.Rounds.{none_has}
use Rattle.grammar.specs.Flagging.{insert_if, insert_if_long, insert_if_keeps, insert_if_from, insert_if_has}
use Rattle.grammar.proofs.Rights.{rule_fits, behind_at, at_behind}

-- One row.

row_from : (s : Flags) (xs : List ℕ) (row : Flags) (x : ℕ) → has (read_row s xs row) x ≡ true
    → (has s x ≡ true) ⊎ ((d : ℕ) × (has row d ≡ true) × (d < length xs) × (get_or xs d 0 ≡ x))
row_from s [] row x e = inl e
row_from s (y ∷ ys) [] x e = inl e
row_from s (y ∷ ys) (b ∷ bs) x e =
    elim (row_from (insert_if b s y) ys bs x e) [
      | inl p ↦ elim (insert_if_from b s y x p) [ inl q ↦ inl q | inr q ↦ inr (0, q.0, omega arith, sym q.1) ]
      | inr q ↦ inr (suc q.0, q.1, omega (arith, q.2), q.3)
    ]

row_keeps : (s : Flags) (xs : List ℕ) (row : Flags) (x : ℕ) → has s x ≡ true → has (read_row s xs row) x ≡ true
row_keeps s [] row x e = e
row_keeps s (y ∷ ys) [] x e = e
row_keeps s (y ∷ ys) (b ∷ bs) x e = row_keeps (insert_if b s y) ys bs x (insert_if_keeps b s y x e)

row_long : (s : Flags) (xs : List ℕ) (row : Flags) → length (read_row s xs row) ≡ length s
row_long s [] row = refl
row_long s (y ∷ ys) [] = refl
row_long s (y ∷ ys) (b ∷ bs) = row_long (insert_if b s y) ys bs ∙ insert_if_long b s y

row_has : (s : Flags) (xs : List ℕ) (row : Flags) (d : ℕ) → d < length xs → get_or xs d 0 < length s → has row d ≡ true → has (read_row s xs row) (get_or xs d 0) ≡ true
row_has s [] row d h k e = absurd (omega arith)
row_has s (y ∷ ys) [] d h k e = absurd (false≢true e)
row_has s (y ∷ ys) (b ∷ bs) zero h k e = row_keeps (insert_if b s y) ys bs y (insert_if_has b s y e k)
row_has s (y ∷ ys) (b ∷ bs) (suc d) h k e = row_has (insert_if b s y) ys bs d (omega arith) (rw (insert_if_long b s y) k) e

-- All rows.

rows_from : (s : Flags) (ls : List Production) (rows : Items) (x : ℕ) → has (read_rows s ls rows) x ≡ true
    → (has s x ≡ true) ⊎ ((r d : ℕ) × Holds rows r d × (d < length (line_at ls r).rhs) × (get_or (line_at ls r).rhs d 0 ≡ x))
rows_from s [] rows x e = inl e
rows_from s (l ∷ ls) [] x e = inl e
rows_from s (l ∷ ls) (row ∷ rows) x e =
    elim (rows_from (read_row s l.rhs row) ls rows x e) [
      | inl p ↦ elim (row_from s l.rhs row x p) [ inl q ↦ inl q | inr q ↦ inr (0, q.0, q.1, q.2, q.3) ]
      | inr q ↦ inr (suc q.0, q.1, q.2, q.3, q.4)
    ]

rows_keep : (s : Flags) (ls : List Production) (rows : Items) (x : ℕ) → has s x ≡ true → has (read_rows s ls rows) x ≡ true
rows_keep s [] rows x e = e
rows_keep s (l ∷ ls) [] x e = e
rows_keep s (l ∷ ls) (row ∷ rows) x e = rows_keep (read_row s l.rhs row) ls rows x (row_keeps s l.rhs row x e)

rows_have : (s : Flags) (ls : List Production) (rows : Items) (r d : ℕ) → length s ≡ symbol_count → r < length ls → d < length (line_at ls r).rhs
    → get_or (line_at ls r).rhs d 0 < symbol_count → Holds rows r d → has (read_rows s ls rows) (get_or (line_at ls r).rhs d 0) ≡ true
rows_have s [] rows r d l h j k e = absurd (omega arith)
rows_have s (q ∷ ls) [] r d l h j k e = absurd (false≢true e)
rows_have s (q ∷ ls) (row ∷ rows) zero d l h j k e = rows_keep (read_row s q.rhs row) ls rows _ (row_has s q.rhs row d j (omega arith) e)
rows_have s (q ∷ ls) (row ∷ rows) (suc r) d l h j k e = rows_have (read_row s q.rhs row) ls rows r d (row_long s q.rhs row ∙ l) (omega arith) j k e

-- an item that is in the set has a row
pub held_row : (items : Items) (r d : ℕ) → Holds items r d → r < length items
held_row items r d e =
    elim (cases_lt r (length items))
    [ inl h ↦ h | inr h ↦ absurd (both_ways _ (ap (λ row. has row d) (get_or_past items r [] h)) e) ]

pub reads_mean : ReadsMean
reads_mean rules b items sh x = (from, to)
  where
    from : has (reads (numbered rules) items) x ≡ true → (r d : ℕ) × (ws : List ℕ) × Holds items r d × (after rules r d ≡ x ∷ ws)
    from e =
        elim (rows_from none (numbered rules) items x e) [
          | inl p ↦ absurd (both_ways _ (none_has symbol_count x) p)
          | inr q ↦ (
            q.0,
            q.1,
            drop (suc q.1) (rule_of rules q.0).rhs,
            q.2,
            at_behind (rule_of rules q.0).rhs q.1 x q.3 q.4,
          )
        ]

    to : (r d : ℕ) × (ws : List ℕ) × Holds items r d × (after rules r d ≡ x ∷ ws) → has (reads (numbered rules) items) x ≡ true
    to q =
        let h = behind_at (rule_of rules q.0).rhs q.1 x q.2 q.4 in
        let row = held_row items q.0 q.1 q.3 in
        let small = (rule_fits rules b q.0).symbols q.1 h.0 in
        subst (λ y. has (reads (numbered rules) items) y ≡ true) h.1
        (rows_have none (numbered rules) items q.0 q.1 refl (omega (arith, sh.rows)) h.0 small.1 q.3)
