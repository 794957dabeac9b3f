-- What a read promises on a card in service, worked out from the calls before it.
use Rattle.std.specs.Prelude.{◌≡◌, ℕ, ◌*◌, ◌≤◌, true, ◌↔◌, List, length, is_some, Some}
use Rattle.book.specs.Answers.{granted}
use Rattle.book.specs.Rules.{Production}
use Rattle.source.specs.Streams.{Stream}
use Rattle.grammar.specs.Build.{Act, build_says}
use Rattle.grammar.specs.Laws.{Lawful}
use Rattle.grammar.specs.Lookahead.{Policy}
use Rattle.reading.specs.Promise.{steps_per_word, EndsCleanly, Fitting, Listed}
use Rattle.reading.specs.Reading.{most_words, accepted, ReadAnswer, codes_of}
use Rattle.card.specs.Models.{Model}
use Rattle.card.specs.Histories.{Call, after}
use Rattle.card.specs.Wanting.{read_on}

-- the rules that a service leaves
abbrev pub rules_by : List Call → List Production
rules_by h = (after h).held_rules

-- a service leaves the card built
abbrev pub Built : List Call → Type 0
Built h = is_some (after h).held_rows ≡ true

-- the rows are those that a policy which keeps its law gives these very rules
abbrev pub Grounded : Model → Type 0
Grounded m = (rows : List (List Act)) → m.held_rows ≡ Some rows → (policy : Policy) × Lawful policy × (build_says policy m.held_rules ≡ granted rows)

-- What a read answers, after a service, of a source that means s and with a list of so many places:
-- accepted exactly when the card is built, the source ends cleanly after no more words than a read may take, and the rules derive them by a tree with no
-- more steps than the list has places; the list then holds each step of that tree once, and there is no other tree; the steps are few for the words; and
-- the answer is that of the reader as defined, on the rows that a lawful policy gives the rules
pub record Promise (h : List Call) (room : ℕ) (s : Stream) (a : ReadAnswer) : Type 0 where
  pub accepts : (a.read_verdict ≡ accepted) ↔ (Built h × EndsCleanly s.ending × (length (codes_of s.tokens) ≤ most_words) × Fitting (rules_by h) (codes_of s.tokens) room)
  pub lists : a.read_verdict ≡ accepted → Listed (rules_by h) (codes_of s.tokens) a.steps_written
  pub few : Built h → length a.steps_written ≤ steps_per_word * a.words_taken
  pub defined : read_on (after h) room s ≡ Some a
  pub grounded : Grounded (after h)

-- the promise holds for every service that leads to where the card stands
abbrev pub PromisedWhole : Model → ℕ → Stream → ReadAnswer → Type 0
PromisedWhole m room s a = (h : List Call) → m ≡ after h → Promise h room s a
