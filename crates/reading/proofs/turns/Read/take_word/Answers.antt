use Rattle.reading.proofs.Remaining.{one_less}
use Rattle.reading.proofs.turns.Read.take_word.Goals as goal

pub returns-then-first-ge-MOST_WORDS-clause-left : goal.returns-then-first-ge-MOST_WORDS-clause-left
returns-then-first-ge-MOST_WORDS-clause-left g c = λ all. one_less _ _ all _ c.in-Word.ensures.rest

pub returns-else-first-ge-MOST_WORDS-clause-left : goal.returns-else-first-ge-MOST_WORDS-clause-left
returns-else-first-ge-MOST_WORDS-clause-left g c = λ all. one_less _ _ all _ c.in-Word.ensures.rest
