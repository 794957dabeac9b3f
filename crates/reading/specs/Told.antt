-- What the code's answers stand for.
use Rattle.std.specs.Prelude.{◌≡◌, ℕ, ◌+◌, ◌≤◌, List, [], ◌∷◌, map, length, take, drop, Some, None, Option}
use Rattle.book.specs.Answers.{refused, no}
use Rattle.source.specs.Streams.{Token, Stream}
use Rattle.grammar.specs.Build.{Act}
use Rattle.grammar.specs.Meaning.{reduces}
use Rattle.reading.specs.declared.outcomes.Step.{Step}
use Rattle.reading.specs.declared.outcomes.Verdict.{Verdict}
use Rattle.reading.specs.declared.outcomes.Verdict.TheVariants.{Accepted, Fault, TooLong, NoTree, ListFull}
use Rattle.reading.specs.declared.outcomes.Outcome.{Outcome}
use Rattle.reading.specs.declared.outcomes.Progress.{Progress}
use Rattle.reading.specs.declared.piles.Stacks.{Stacks}
use Rattle.reading.specs.Trees.{StepOfNode}
use Rattle.reading.specs.Tables.{action_in}
use Rattle.reading.specs.Reading.{most_words, SpannedSymbol, StackedSymbol, ReadingVerdict, accepted, ReadAnswer, Turned, on, halt, top_state}
use Rattle.reading.specs.Held.{stack_of, pending_of, words_under, most_held}

abbrev pub step_of : Step → StepOfNode
step_of s = record { rule_no = s.rule; first_word = s.first; word_count = s.width }

-- accepted, or refused by 11 with the fault and its place, 12 for too many words, 13 for words without a tree, 14 for a full list
abbrev pub verdict_of : Verdict → ReadingVerdict
verdict_of Accepted = accepted
verdict_of (Fault n p) = refused (no 11 (n ∷ p ∷ []))
verdict_of TooLong = refused (no 12 [])
verdict_of NoTree = refused (no 13 [])
verdict_of ListFull = refused (no 14 [])

-- the first n steps of the lent list
abbrev pub written_in : ℕ → List Step → List StepOfNode
written_in n steps = map step_of (take n steps)

-- the answer that an outcome and the front of the lent list stand for
abbrev pub answer_of : Outcome → List Step → ReadAnswer
answer_of o steps = record { read_verdict = verdict_of o.verdict; words_taken = o.words; place_taken = o.place; steps_written = written_in o.steps steps }

-- what the code holds after a turn that leads to no verdict, or the answer with the verdict
abbrev pub turned_by : Option Verdict → Stacks → List Token → Progress → List StepOfNode → Turned
turned_by None st ws p out = on (stack_of st) (pending_of st) ws p.words p.place out
turned_by (Some v) st ws p out = halt (record { read_verdict = verdict_of v; words_taken = p.words; place_taken = p.place; steps_written = out })

-- a stream without its first n words
abbrev pub after_words : ℕ → Stream → Stream
after_words n s = record { tokens = drop n s.tokens; ending = s.ending }

-- what every turn of a read finds: few symbols, few words, and something stacked where there is a reduce
pub record Ready (rows : List (List Act)) (ps : List StackedSymbol) (xs : List SpannedSymbol) (n : ℕ) : Type 0 where
  pub held : length ps + length xs ≤ most_held
  pub under : words_under ps ≤ most_words
  pub few : n ≤ most_words
  pub stacked_some : (x r : ℕ) → action_in rows (top_state 0 ps) x ≡ Some (reduces r) → 1 ≤ length ps
