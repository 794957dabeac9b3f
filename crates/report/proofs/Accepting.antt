-- The lines of an accepted read's steps, and its whole text.
use Rattle.std.proofs.Common.{◌≡◌, ℕ, ◌+◌, ◌-◌, ◌<◌, ◌≤◌, true, false, leb, List, [], ◌∷◌, ◌++◌, length, get_or, take, codes, sym, ap, ◌∙◌, arith}
use Rattle.std.proofs.lemmas.List.{length-append, length-take, take_all}
use Rattle.std.proofs.lemmas.Bool.Decides.{nat_tests}
use Rattle.std.specs.List.{flat_map}
use Rattle.reading.specs.declared.outcomes.Step.{Step}
use Rattle.reading.specs.Told.{step_of, written_in}
use Rattle.report.specs.Writers.{Writes}
use Rattle.report.specs.declared.writers.Writer.{Writer}
use Rattle.report.specs.Texts.{fields_text, line_text, step_text, line_of, accepted_text}
use Rattle.report.proofs.Joining.{joined_map, length_joined_more, joined_within}
use Rattle.report.proofs.Putting.{writes_same, writes_then}
use Rattle.report.proofs.Sizes.{length_line}

-- what stands past a list's end, as the code's loops read it
abbrev pub no_step : Step
no_step = record { rule = 0; first = 0; width = 0 }

-- the room that the lines of a front leave, one line more
pub room_more : (steps : List Step) (i room left size : ℕ) → i < length steps → length (flat_map line_of (take i steps)) + left ≡ room
    → size ≡ length (line_of (get_or steps i no_step)) → size ≤ left → length (flat_map line_of (take (i + 1) steps)) + (left - size) ≡ room
room_more steps i room left size h inv s e = omega (arith, length_joined_more line_of steps i no_step h)

-- a line for which too little is left
pub room_short : (steps : List Step) (i room left size : ℕ) → i < length steps → length (flat_map line_of (take i steps)) + left ≡ room
    → size ≡ length (line_of (get_or steps i no_step)) → left < size → false ≡ leb (length (flat_map line_of steps)) room
room_short steps i room left size h inv s l =
    let more = length_joined_more line_of steps i no_step h in
    let within = joined_within line_of steps (i + 1) in
    grind (arith, nat_tests)

pub room_all : (steps : List Step) (i room left : ℕ) → length steps ≤ i → length (flat_map line_of (take i steps)) + left ≡ room
    → true ≡ leb (length (flat_map line_of steps)) room
room_all steps i room left h inv =
    let all = ap (λ ss. length (flat_map line_of ss)) (take_all i steps h) in
    grind (arith, nat_tests)

-- a front is no longer than the list
pub front_few : (steps : ℕ) (list front : List Step) → front ≡ take steps list → length front ≤ length list
front_few steps list front e = omega (arith, ap length e, length-take steps list)

-- the text: the first line, then those of the steps that the list has
pub accepted_lines : (steps words : ℕ) (list front : List Step) → front ≡ take steps list
    → line_text (codes "accepted") (steps ∷ words ∷ []) ++ flat_map line_of front ≡ accepted_text steps words (written_in steps list)
accepted_lines steps words list front e =
    ap (λ t. line_text (codes "accepted") (steps ∷ words ∷ []) ++ t) (ap (flat_map line_of) e ∙ sym (joined_map step_text step_of (take steps list)))

pub length_accepted : (steps words : ℕ) (list front : List Step) → front ≡ take steps list
    → length (accepted_text steps words (written_in steps list)) ≡ 8 + length (fields_text (steps ∷ words ∷ [])) + length (flat_map line_of front)
length_accepted steps words list front e =
    let line = line_text (codes "accepted") (steps ∷ words ∷ []) in
    ap length (sym (accepted_lines steps words list front e)) ∙ length-append line (flat_map line_of front)
    ∙ ap (λ k. k + length (flat_map line_of front)) (length_line (codes "accepted") (steps ∷ words ∷ []))

pub writes_accepted : (steps words : ℕ) (list front : List Step) (a b c : Writer) → front ≡ take steps list
    → Writes (line_text (codes "accepted") (steps ∷ words ∷ [])) a b → Writes (flat_map line_of front) b c
    → Writes (accepted_text steps words (written_in steps list)) a c
writes_accepted steps words list front a b c e v w =
    writes_same _ _ _ _ (accepted_lines steps words list front e) (writes_then _ _ _ _ _ v w)
