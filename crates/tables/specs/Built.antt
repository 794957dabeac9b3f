-- What tables stand for, and the refusal of each error.
use Rattle.std.specs.Prelude.{ℕ, List, [], ◌∷◌, ◌++◌, map, length, take, drop, nat_le, nat_lt, slice_index_or}
use Rattle.book.specs.Answers.{Answer, granted, Refusal, no, refuse_if, leaves}
use Rattle.book.specs.Rules.{Production}
use Rattle.book.specs.Symbols.{most_rules}
use Rattle.grammar.specs.Build.{Act, build_says}
use Rattle.grammar.specs.Lookahead.{Policy}
use Rattle.grammar.specs.Sets.{symbol_count}
use Rattle.tables.specs.declared.building.Tables.{Tables}
use Rattle.tables.specs.declared.building.BuildError.{BuildError}
use Rattle.tables.specs.declared.building.BuildError.TheVariants.{Rules, Useless, States, Conflict}
use Rattle.tables.specs.declared.building.RowError.{RowError}
use Rattle.tables.specs.declared.building.RowError.TheVariants.{Short, State}
use Rattle.tables.specs.Acts.{acts_of, word_of}

-- the rows of the states, in order
abbrev pub table_of : Tables → List (List Act)
table_of t = map acts_of (take t.size.states t.rows)

-- 1 for more rules than a book can have, 7 with a useless symbol, 8 for too many states, 9 with the state and the symbol in conflict
abbrev pub build_refusal : BuildError → Refusal
build_refusal Rules = no 1 []
build_refusal (Useless x) = no 7 (x ∷ [])
build_refusal States = no 8 []
build_refusal (Conflict s x) = no 9 (s ∷ x ∷ [])

-- what filling tables answers: what a build says; a slice of more rules than a book can have is refused as a full book is
abbrev pub fill_says : Policy → List Production → Answer (List (List Act))
fill_says policy rules = refuse_if (nat_lt most_rules (length rules)) (no 1 []) (build_says policy rules)

-- Rows as numbers.

abbrev pub row_refusal : RowError → Refusal
row_refusal Short = no 20 []
row_refusal State = no 21 []

-- how many numbers a row has; a short buffer is refused first
abbrev pub row_says : List (List Act) → ℕ → ℕ → Answer ℕ
row_says rows s room = refuse_if (nat_lt room symbol_count) (no 20 []) (refuse_if (nat_le (length rows) s) (no 21 []) (granted symbol_count))

-- the buffer after a row was written
abbrev pub row_in : List (List Act) → ℕ → List ℕ → List ℕ
row_in rows s out = leaves (row_says rows s (length out)) (λ n. map word_of (slice_index_or rows s []) ++ drop n out) out
