-- Worked cases of reading: books, lines, and what a read of the line answers on the tables that LSLR gives the book.
use Rattle.std.specs.Prelude.{◌≡◌, ℕ, suc, List, [], ◌∷◌, ◌++◌, map, length, Some, None, Option}
use Rattle.book.specs.Answers.{Answer, granted, refused, no}
use Rattle.book.specs.Rules.{Production}
use Rattle.source.specs.Streams.{Token, Stream, clean}
use Rattle.grammar.specs.Build.{Act, build_says}
use Rattle.grammar.specs.Cases.{T, E}
use Rattle.grammar.specs.Cases as building
use Rattle.grammar.specs.Lookahead.{lslr}
use Rattle.reading.specs.Reading.{ReadAnswer, ReadingVerdict, accepted, read_says}
use Rattle.reading.specs.Tables.{action_in, next_in}
use Rattle.reading.specs.Trees.{StepOfNode}

-- the words of a line, at the places from k on
abbrev pub words_from : ℕ → List ℕ → List Token
words_from k [] = []
words_from k (w ∷ ws) = record { symbol = w; position = k } ∷ words_from (suc k) ws

-- a line that ends cleanly behind its last word
abbrev pub stream_of : List ℕ → Stream
stream_of line = record { tokens = words_from 0 line; ending = clean (length line) }

pub record Case : Type 0 where
  pub book : List Production
  pub line : List ℕ
  pub places : ℕ
  pub answer : Option ReadAnswer

abbrev pub read_on : List Production → ℕ → List ℕ → Answer (List (List Act)) → Option ReadAnswer
read_on rules places line (granted rows) = read_says rules 0 (next_in rows) (action_in rows) places (stream_of line)
read_on rules places line (refused n) = None

abbrev pub yielded : Case → Option ReadAnswer
yielded c = read_on c.book c.places c.line (build_says lslr c.book)

abbrev pub step : ℕ → ℕ → ℕ → StepOfNode
step r f w = record { rule_no = r; first_word = f; word_count = w }

abbrev pub answers : ReadingVerdict → ℕ → ℕ → List StepOfNode → Option ReadAnswer
answers v words place steps = Some (record { read_verdict = v; words_taken = words; place_taken = place; steps_written = steps })

abbrev pub cases : List Case
cases =
    record { book = T; line = 1 ∷ 1 ∷ 2 ∷ []; places = 9; answer = answers accepted 3 3 (step 7 1 1 ∷ step 7 0 1 ∷ step 4 0 1 ∷ step 3 0 2 ∷ step 1 0 3 ∷ []) }
    ∷ record { book = T; line = 1 ∷ 1 ∷ []; places = 9; answer = answers (refused (no 13 [])) 2 2 [] }
    ∷ record { book = T; line = 1 ∷ 1 ∷ 2 ∷ []; places = 4; answer = answers (refused (no 14 [])) 3 3 (step 7 1 1 ∷ step 7 0 1 ∷ step 4 0 1 ∷ step 3 0 2 ∷ []) }
    ∷ record { book = E; line = 1 ∷ 5 ∷ 6 ∷ 2 ∷ 3 ∷ []; places = 9; answer = answers accepted 5 5 (step 9 1 2 ∷ step 6 1 2 ∷ step 3 0 1 ∷ step 5 1 3 ∷ step 1 0 5 ∷ []) }
    ∷ []

-- the definitions yield the answer of each case
abbrev pub CasesHold : Type 0
CasesHold = map yielded cases ≡ map (λ c. c.answer) cases

-- All of them.

pub data Worked : Type 0 where
  builds : building.Case → Worked
  reads : Case → Worked

-- what a build or a read comes to
pub data Result : Type 0 where
  built : building.Result → Result
  read : Option ReadAnswer → Result

abbrev pub yields : Worked → Result
yields (builds c) = built (building.yielded c)
yields (reads c) = read (yielded c)

abbrev pub stated : Worked → Result
stated (builds c) = built c.answer
stated (reads c) = read c.answer

abbrev pub worked : List Worked
worked = map builds building.cases ++ map reads cases

-- the definitions yield the answer of each case of building and of reading
abbrev pub WorkedHold : Type 0
WorkedHold = map yields worked ≡ map stated worked
