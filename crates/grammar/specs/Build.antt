-- What a build answers: the action of every state at every symbol, or the refusal.
use Rattle.std.specs.Prelude.{ℕ, zero, suc, Bool, true, false, List, [], ◌∷◌, map, length, Some, None, Option, nat_le}
use Rattle.book.specs.Answers.{Answer, granted, refused, no}
use Rattle.book.specs.Rules.{Production}
use Rattle.grammar.specs.Sets.{Flags, has, codes}
use Rattle.grammar.specs.Relations.{Relations, relations_of}
use Rattle.grammar.specs.Useful.{useless_in}
use Rattle.grammar.specs.Items.{Items, reads, close, onward, complete_in}
use Rattle.grammar.specs.Lookahead.{Policy, Look, in_lookahead}
use Rattle.grammar.specs.States.{items_from, number_of, kernels_of, most_states}

-- what a state does at a symbol; where two apply there is a conflict
pub data Act : Type 0 where
  nothing : Act
  accept : Act
  shift : ℕ → Act
  reduce : ℕ → Act
  conflict : Act

-- an action that applies beside those so far
abbrev pub beside : Act → Act → Act
beside nothing a = a
beside accept a = conflict
beside (shift k) a = conflict
beside (reduce r) a = conflict
beside conflict a = conflict

-- the outer rule accepts, any other is reduced by
abbrev pub reduce_by : ℕ → Act
reduce_by zero = accept
reduce_by (suc r) = reduce (suc r)

-- the complete rules that look at x act beside a
abbrev pub with_reduces : Look → ℕ → List ℕ → Act → Act
with_reduces look x [] a = a
with_reduces look x (r ∷ rs) a = with_reduces look x rs (elim (in_lookahead look r x) [ true ↦ beside a (reduce_by r) | false ↦ a ])

-- the action at x of a state with these items, reads and complete rules
abbrev pub act_at : List Production → List Items → Look → List ℕ → Items → Flags → ℕ → Act
act_at lines kernels look complete items read x =
    with_reduces look x complete (elim (has read x) [ true ↦ shift (number_of kernels (onward x lines items)) | false ↦ nothing ])

abbrev pub row_for : List Production → List Items → Look → List ℕ → Items → Flags → List Act
row_for lines kernels look complete items read = map (act_at lines kernels look complete items read) codes

abbrev pub row_with : Relations → List Items → Look → List ℕ → Items → List Act
row_with rel kernels look complete items = row_for rel.lines kernels look complete items (reads rel.lines items)

-- the row of a state, from its closed kernel
abbrev pub row_of : Policy → Relations → List Items → Items → List Act
row_of policy rel kernels closed = row_with rel kernels (policy rel closed) (complete_in rel.lines closed) (items_from policy rel closed)

abbrev pub rows_of : Policy → Relations → List Items → List (List Act)
rows_of policy rel kernels = map (λ k. row_of policy rel kernels (close rel.lines k)) kernels

-- Conflicts: the lowest state with one, and its lowest symbol in conflict.
abbrev pub is_conflict : Act → Bool
is_conflict nothing = false
is_conflict accept = false
is_conflict (shift k) = false
is_conflict (reduce r) = false
is_conflict conflict = true

abbrev pub conflict_in : ℕ → List Act → Option ℕ
conflict_in x [] = None
conflict_in x (a ∷ row) = elim (is_conflict a) [ true ↦ Some x | false ↦ conflict_in (suc x) row ]

abbrev pub conflict_from : ℕ → List (List Act) → Option (ℕ × ℕ)
conflict_from s [] = None
conflict_from s (row ∷ rows) = elim (conflict_in 0 row) [ Some x ↦ Some (s, x) | None ↦ conflict_from (suc s) rows ]

-- The tables, or refusal 7, 8 or 9, tested in this order.
abbrev pub without_conflict : List (List Act) → Answer (List (List Act))
without_conflict rows = elim (conflict_from 0 rows) [ None ↦ granted rows | Some c ↦ refused (no 9 (c.0 ∷ c.1 ∷ [])) ]

abbrev pub within_states : Policy → Relations → List Items → Answer (List (List Act))
within_states policy rel kernels = elim (nat_le (length kernels) most_states) [ true ↦ without_conflict (rows_of policy rel kernels) | false ↦ refused (no 8 []) ]

abbrev pub built_by : Policy → Relations → Answer (List (List Act))
built_by policy rel = within_states policy rel (kernels_of policy rel)

abbrev pub build_says : Policy → List Production → Answer (List (List Act))
build_says policy rules = elim (useless_in rules) [ Some x ↦ refused (no 7 (x ∷ [])) | None ↦ built_by policy (relations_of rules) ]
