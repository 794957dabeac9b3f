-- Calls that want tables: 10 where the card is not built.
use Rattle.std.specs.Prelude.{◌≡◌, ℕ, List, [], Some, None, Ok, Err, Option, Result}
use Rattle.book.specs.Answers.{Answer, refused, Refusal, no}
use Rattle.book.specs.Rules.{Production}
use Rattle.source.specs.Streams.{Stream}
use Rattle.grammar.specs.Build.{Act}
use Rattle.tables.specs.Built.{row_refusal, row_says, row_in}
use Rattle.reading.specs.declared.outcomes.Step.{Step}
use Rattle.reading.specs.declared.outcomes.Outcome.{Outcome}
use Rattle.reading.specs.Tables.{next_in, action_in}
use Rattle.reading.specs.Reading.{ReadAnswer, codes_of, read_says}
use Rattle.reading.specs.Promise.{Kept}
use Rattle.reading.specs.Told.{answer_of}
use Rattle.card.specs.declared.refusals.CardRowError.{CardRowError}
use Rattle.card.specs.declared.refusals.CardRowError.TheVariants as row
use Rattle.card.specs.declared.refusals.ReadError.{ReadError}
use Rattle.card.specs.declared.refusals.ReadError.TheVariants as read
use Rattle.card.specs.Models.{Model}

abbrev pub not_built : Refusal
not_built = no 10 []

-- Rows.

abbrev pub card_row_refusal : CardRowError → Refusal
card_row_refusal row.NotBuilt = not_built
card_row_refusal (row.Row e) = row_refusal e

abbrev pub row_of : Option (List (List Act)) → ℕ → ℕ → Answer ℕ
row_of None s room = refused not_built
row_of (Some rows) s room = row_says rows s room

-- the buffer after a row
abbrev pub row_into : Option (List (List Act)) → ℕ → List ℕ → List ℕ
row_into None s out = out
row_into (Some rows) s out = row_in rows s out

-- Reads.

-- a read that takes nothing and writes nothing
abbrev pub unread : ReadAnswer
unread = record { read_verdict = refused not_built; words_taken = 0; place_taken = 0; steps_written = [] }

-- the answer that a result and the front of the lent list stand for
abbrev pub told_by : Result Outcome ReadError → List Step → ReadAnswer
told_by (Ok o) steps = answer_of o steps
told_by (Err read.NotBuilt) steps = unread

abbrev pub steps_by : Result Outcome ReadError → ℕ
steps_by (Ok o) = o.steps
steps_by (Err e) = 0

abbrev pub words_by : Result Outcome ReadError → ℕ
words_by (Ok o) = o.words
words_by (Err e) = 0

-- what the reader says on these rules and rows
abbrev pub read_of : List Production → Option (List (List Act)) → ℕ → Stream → Option ReadAnswer
read_of rules None room s = Some unread
read_of rules (Some rows) room s = read_says rules 0 (next_in rows) (action_in rows) room s

abbrev pub read_on : Model → ℕ → Stream → Option ReadAnswer
read_on m room s = read_of m.held_rules m.held_rows room s

-- the promise of a read: on a built card that of its rules; on another nothing is read
abbrev pub KeptOf : List Production → Option (List (List Act)) → ℕ → Stream → ReadAnswer → Type 0
KeptOf rules None room s a = a ≡ unread
KeptOf rules (Some rows) room s a = ∥ Kept rules (codes_of s.tokens) s.ending room a ∥₁

abbrev pub KeptOn : Model → ℕ → Stream → ReadAnswer → Type 0
KeptOn m room s a = KeptOf m.held_rules m.held_rows room s a
