-- What looking up an action answers.
use Rattle.std.specs.Prelude.{ℕ, cond, List, [], nat_lt, slice_index_or}
use Rattle.grammar.specs.Sets.{symbol_count}
use Rattle.grammar.specs.Build.{Act, nothing}

-- the entry of a state at a symbol; there is nothing at what is no symbol
abbrev pub act_in : List (List Act) → ℕ → ℕ → Act
act_in rows s x = cond (nat_lt x symbol_count) (slice_index_or (slice_index_or rows s []) x nothing) nothing
