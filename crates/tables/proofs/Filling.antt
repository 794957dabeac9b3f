-- The rows of all states, one after another, and what a build answers by them.
use Rattle.std.proofs.Common.{◌≡◌, ℕ, suc, ◌+◌, ◌<◌, ◌≤◌, true, false, List, [], ◌∷◌, length, get_or, take, drop, Some, None, Option, sym, ap, ◌∙◌, ap₂, arith, length-take}
use lib.ListN.{length-map}
use Rattle.std.proofs.lemmas.List.{at_drop_more, at_drop_all, get_or-map, get_or_default}
use Rattle.std.proofs.lemmas.Bool.{le-leb, lt-leb}
use Rattle.book.specs.Answers.{granted, refused, no}
use Rattle.grammar.specs.Items.{Items, close}
use Rattle.grammar.specs.Lookahead.{Policy}
use Rattle.grammar.specs.Relations.{Relations}
use Rattle.grammar.specs.States.{most_states}
use Rattle.grammar.specs.Build.{Act, row_of, rows_of, conflict_in, conflict_from, without_conflict, within_states}
use Rattle.tables.specs.declared.kernels.Kernels.{Kernels}
use Rattle.tables.specs.declared.moving.ItemSet.{ItemSet}
use Rattle.tables.specs.Kept.{kernels_in}
use Rattle.tables.proofs.Finding.{found_long, found_at}

module _ (policy : Policy) (rel : Relations) (n : ℕ) (ks : Kernels) (found : List ItemSet) (is : found ≡ take ks.count ks.sets) where
  abbrev row : Items → List Act
  row k = row_of policy rel (kernels_in n ks) (close rel.lines k)

  pub rows_long : length (rows_of policy rel (kernels_in n ks)) ≡ length found
  rows_long = length-map (kernels_in n ks) row ∙ found_long n ks found is

  pub rows_at : (s : ℕ) → s < length found
      → get_or (rows_of policy rel (kernels_in n ks)) s [] ≡ row_of policy rel (kernels_in n ks) (close rel.lines (take n (get_or found s (record { rows = [] })).rows))
  rows_at s h =
      let at : get_or found s (record { rows = [] }) ≡ get_or found s (get_or found s (record { rows = [] })) = get_or_default found s (record { rows = [] }) (get_or found s (record { rows = [] })) h in
      get_or-map row (kernels_in n ks) s [] [] (omega (arith, found_long n ks found is)) ∙ ap row (found_at n ks found is s (get_or found s (record { rows = [] })) h at)

-- The conflict of the lowest state.

module _ (all : List (List Act)) where
  turn : (s : ℕ) (o : Option ℕ) → s < length all → conflict_in 0 (get_or all s []) ≡ o
      → conflict_from s (drop s all) ≡ elim o [ Some x ↦ Some (s, x) | None ↦ conflict_from (s + 1) (drop (s + 1) all) ]
  turn s o h e =
      let f : suc s ≡ s + 1 = omega arith in
      let step : conflict_from s (drop s all) ≡ elim (conflict_in 0 (get_or all s [])) [ Some x ↦ Some (s, x) | None ↦ conflict_from (suc s) (drop (s + 1) all) ] =
      at_drop_more (conflict_from s) all s [] h in
      step ∙ ap₂ (λ b k. elim b [ Some x ↦ Some (s, x) | None ↦ conflict_from k (drop (s + 1) all) ]) e f

  pub conflict_here : (s x : ℕ) → s < length all → conflict_in 0 (get_or all s []) ≡ Some x → conflict_from s (drop s all) ≡ Some (s, x)
  conflict_here s x h e = turn s (Some x) h e

  pub conflict_later : (s : ℕ) → s < length all → conflict_in 0 (get_or all s []) ≡ None → conflict_from s (drop s all) ≡ conflict_from (s + 1) (drop (s + 1) all)
  conflict_later s h e = turn s None h e

  pub conflict_done : (s : ℕ) → length all ≤ s → conflict_from s (drop s all) ≡ None
  conflict_done s h = at_drop_all (conflict_from s) all s h

  pub in_conflict : (s x : ℕ) → conflict_from 0 all ≡ Some (s, x) → refused (no 9 (s ∷ x ∷ [])) ≡ without_conflict all
  in_conflict s x e = sym (ap (λ o. elim o [ None ↦ granted all | Some c ↦ refused (no 9 (c.0 ∷ c.1 ∷ [])) ]) e)

  pub no_conflict : conflict_from 0 all ≡ None → granted all ≡ without_conflict all
  no_conflict e = sym (ap (λ o. elim o [ None ↦ granted all | Some c ↦ refused (no 9 (c.0 ∷ c.1 ∷ [])) ]) e)

-- How many states.

pub kernels_few : (n : ℕ) (ks : Kernels) → length (kernels_in n ks) ≤ most_states
kernels_few n ks = simp (length-map, length-take) (omega (arith, ks.few))

pub within_few : (policy : Policy) (rel : Relations) (ks : List Items) → length ks ≤ most_states → without_conflict (rows_of policy rel ks) ≡ within_states policy rel ks
within_few policy rel ks h = sym (ap (λ b. elim b [ true ↦ without_conflict (rows_of policy rel ks) | false ↦ refused (no 8 []) ]) (le-leb (length ks) most_states h))

pub within_many : (policy : Policy) (rel : Relations) (ks : List Items) → most_states < length ks → refused (no 8 []) ≡ within_states policy rel ks
within_many policy rel ks h = sym (ap (λ b. elim b [ true ↦ without_conflict (rows_of policy rel ks) | false ↦ refused (no 8 []) ]) (lt-leb (length ks) most_states h))
