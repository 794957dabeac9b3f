-- What the code's actions and rows stand for.
use Rattle.std.specs.Prelude.{◌≡◌, ℕ, ◌+◌, true, false, List, [], ◌∷◌, map, Some, None, Option, Ok, Err, Result}
use Rattle.book.specs.Rules.{Production}
use Rattle.grammar.specs.Sets.{Flags, has}
use Rattle.grammar.specs.Items.{Items, onward}
use Rattle.grammar.specs.States.{number_of}
use Rattle.grammar.specs.Build.{Act, nothing, accept, shift, reduce, conflict, beside, reduce_by, conflict_in}
use Rattle.grammar.specs.Lookahead.{Look, lookahead_of}
use Rattle.tables.specs.declared.actions.Action.{Action}
use Rattle.tables.specs.declared.actions.Action.TheVariants.{Accept, Shift, Reduce}
use Rattle.tables.specs.declared.actions.Conflict.{Conflict}
use Rattle.tables.specs.declared.actions.Row.{Row}

abbrev pub act_of : Option Action → Act
act_of None = nothing
act_of (Some Accept) = accept
act_of (Some (Shift k)) = shift k
act_of (Some (Reduce r)) = reduce r

abbrev pub acts_of : Row → List Act
acts_of row = map act_of row.actions

-- a cell of a row in the making
abbrev pub cell_act : Result (Option Action) Conflict → Act
cell_act (Ok action) = act_of action
cell_act (Err _) = conflict

-- the shift at x of a state with these items and reads, or nothing
abbrev pub shift_at : List Items → List Production → Items → Flags → ℕ → Act
shift_at kernels lines items read x = elim (has read x) [ true ↦ shift (number_of kernels (onward x lines items)) | false ↦ nothing ]

-- an action that applies at each symbol of a set, beside those of a row
abbrev pub besides : Act → Flags → List Act → List Act
besides a [] row = row
besides a (b ∷ bs) [] = []
besides a (b ∷ bs) (c ∷ row) = elim b [ true ↦ beside c a | false ↦ c ] ∷ besides a bs row

-- a row without a conflict, or the lowest symbol in conflict
abbrev pub Settled : List Act → Result Row ℕ → Type 0
Settled acts (Ok row) = (conflict_in 0 acts ≡ None) × (acts_of row ≡ acts)
Settled acts (Err x) = conflict_in 0 acts ≡ Some x

-- a row after these complete rules in turn
abbrev pub reduced : Look → List ℕ → List Act → List Act
reduced look [] acts = acts
reduced look (r ∷ rs) acts = reduced look rs (besides (reduce_by r) (lookahead_of look r) acts)

-- an action as a number: 0 for none, 1 for accept, 1000 and the state for a shift, 2000 and the rule for a reduction; no table has a conflict
abbrev pub word_of : Act → ℕ
word_of nothing = 0
word_of accept = 1
word_of (shift k) = 1000 + k
word_of (reduce r) = 2000 + r
word_of conflict = 0
