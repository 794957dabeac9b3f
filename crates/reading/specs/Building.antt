-- What a read on the tables of a granted build promises.
use Rattle.std.specs.Prelude.{◌≡◌, ℕ, true, List, [], Some}
use Rattle.book.specs.Answers.{granted}
use Rattle.book.specs.Rules.{Production, all_bounded}
use Rattle.source.specs.Streams.{Stream, all_terminals}
use Rattle.grammar.specs.Relations.{relations_of}
use Rattle.grammar.specs.Lookahead.{Policy}
use Rattle.grammar.specs.States.{kernels_of}
use Rattle.grammar.specs.Build.{Act, build_says}
use Rattle.grammar.specs.Laws.{Lawful, NumbersStates, TablesMean}
use Rattle.reading.specs.Tables.{Faithful, action_in, next_in}
use Rattle.reading.specs.Reading.{ReadAnswer, codes_of, Reads, read_says}
use Rattle.reading.specs.Promise.{AllUseful, Kept}

-- the rows of a granted build, under a policy that keeps its law, are faithful to the book
abbrev pub RowsFaithful : Type 0
RowsFaithful =
    (rules : List Production) → all_bounded rules ≡ true → (policy : Policy) → Lawful policy → (rows : List (List Act)) → TablesMean rules policy rows
    → NumbersStates rules policy (kernels_of policy (relations_of rules))
    → (T : Faithful rules) × (T.start_state ≡ 0) × (T.next_state ≡ next_in rows) × (T.action_at ≡ action_in rows)

-- and its symbols are useful
abbrev pub GrantedUseful : Type 0
GrantedUseful = (rules : List Production) → all_bounded rules ≡ true → (policy : Policy) (rows : List (List Act)) → TablesMean rules policy rows → AllUseful rules

-- every read on the rows of a granted build keeps the promise
abbrev pub RowsReadWell : Type 0
RowsReadWell =
    (rules : List Production) → all_bounded rules ≡ true → (policy : Policy) → Lawful policy → (rows : List (List Act)) → TablesMean rules policy rows
    → NumbersStates rules policy (kernels_of policy (relations_of rules)) → (s : Stream) (cap : ℕ) (a : ReadAnswer) → all_terminals s.tokens ≡ true
    → Reads rules 0 (next_in rows) (action_in rows) s.ending cap [] [] s.tokens 0 0 [] a → Kept rules (codes_of s.tokens) s.ending cap a

-- every read on them ends, and what it says keeps the promise
abbrev pub RowsAnswer : Type 0
RowsAnswer =
    (rules : List Production) → all_bounded rules ≡ true → (policy : Policy) → Lawful policy → (rows : List (List Act)) → TablesMean rules policy rows
    → NumbersStates rules policy (kernels_of policy (relations_of rules)) → (s : Stream) (cap : ℕ) → all_terminals s.tokens ≡ true
    → (a : ReadAnswer) × (read_says rules 0 (next_in rows) (action_in rows) cap s ≡ Some a) × Kept rules (codes_of s.tokens) s.ending cap a

-- so does every read on what a build granted
abbrev pub BuildAndRead : Type 0
BuildAndRead =
    (rules : List Production) → all_bounded rules ≡ true → (policy : Policy) → Lawful policy → (rows : List (List Act)) → build_says policy rules ≡ granted rows
    → (s : Stream) (cap : ℕ) → all_terminals s.tokens ≡ true
    → (a : ReadAnswer) × (read_says rules 0 (next_in rows) (action_in rows) cap s ≡ Some a) × Kept rules (codes_of s.tokens) s.ending cap a

-- the rows are those that some build granted for the rules, under a policy that keeps its law
abbrev pub Belonging : List Production → List (List Act) → Type 0
Belonging rules rows = ∥ ((policy : Policy) × Lawful policy × (build_says policy rules ≡ granted rows)) ∥₁
