-- The texts of answers: lines of lower-case ASCII, fields one blank apart, numbers in base ten.
use Rattle.std.specs.Prelude.{ℕ, List, [], ◌∷◌, ◌++◌, length, codes, decimal, Result, slice_index}
use Rattle.std.specs.List.{flat_map}
use Rattle.book.specs.Answers.{granted, refused, Refusal, no}
use Rattle.reading.specs.declared.outcomes.Step.{Step}
use Rattle.reading.specs.declared.outcomes.Outcome.{Outcome}
use Rattle.reading.specs.Trees.{StepOfNode}
use Rattle.reading.specs.Reading.{ReadingVerdict, ReadAnswer}
use Rattle.reading.specs.Told.{step_of, verdict_of, written_in}
use Rattle.card.specs.declared.refusals.ReadError.{ReadError}
use Rattle.card.specs.Wanting.{told_by, steps_by, words_by}

-- a field past the first of a line: a blank, then the number
abbrev pub field_text : ℕ → List ℕ
field_text n = 32 ∷ decimal n

-- the fields past the first, then the newline
abbrev pub fields_text : List ℕ → List ℕ
fields_text fields = flat_map field_text fields ++ 10 ∷ []

-- a line: its first field, then numbers
abbrev pub line_text : List ℕ → List ℕ → List ℕ
line_text head fields = head ++ fields_text fields

-- Reads.

-- a step's line: the rule, how many words stand left of its words, and how many they are
abbrev pub step_text : StepOfNode → List ℕ
step_text s = line_text (decimal s.rule_no) (s.first_word ∷ s.word_count ∷ [])

-- the line of a step of the lent list
abbrev pub line_of : Step → List ℕ
line_of s = step_text (step_of s)

-- an accepted read: how many steps and words, then a line for each step of the list
abbrev pub accepted_text : ℕ → ℕ → List StepOfNode → List ℕ
accepted_text steps words list = line_text (codes "accepted") (steps ∷ words ∷ []) ++ flat_map step_text list

-- a refused read: the refusal's number, how many steps and words, the place, and the fault's number, 0 where there is none
abbrev pub refused_read_text : ℕ → ℕ → ℕ → ℕ → ℕ → List ℕ
refused_read_text number steps words place fault = line_text (codes "refused") (number ∷ steps ∷ words ∷ place ∷ fault ∷ [])

-- only refusal 11 names values, of which the first is the fault's number
abbrev pub verdict_text : ReadingVerdict → ℕ → ℕ → ℕ → List StepOfNode → List ℕ
verdict_text (granted _) steps words place list = accepted_text steps words list
verdict_text (refused (no n names)) steps words place list = refused_read_text n steps words place (slice_index names 0)

-- the text of a read on a built card
abbrev pub outcome_text : Outcome → List Step → List ℕ
outcome_text o list = verdict_text (verdict_of o.verdict) o.steps o.words o.place (written_in o.steps list)

-- the text of a read's result, where the lent list has its steps as far as it goes
abbrev pub read_text : Result Outcome ReadError → List Step → List ℕ
read_text r list = verdict_text (told_by r list).read_verdict (steps_by r) (words_by r) (told_by r list).place_taken (told_by r list).steps_written

-- the text of a read's answer
abbrev pub answer_text : ReadAnswer → List ℕ
answer_text a = verdict_text a.read_verdict (length a.steps_written) a.words_taken a.place_taken a.steps_written

-- Refusals.

-- a refusal's fields: its number, then the two values that it names, 0 for one that it lacks
abbrev pub refusal_fields : Refusal → List ℕ
refusal_fields (no n names) = n ∷ slice_index names 0 ∷ slice_index names 1 ∷ []

-- a refused load or build, after the call's word
abbrev pub refused_text : List ℕ → Refusal → List ℕ
refused_text word r = line_text word (refusal_fields r)

-- a refused tape: its refusals name nothing
abbrev pub tape_text : Refusal → List ℕ
tape_text (no n names) = line_text (codes "tape") (n ∷ [])
