-- How many bytes the parts of a report have.
use Rattle.std.proofs.Common.{◌≡◌, ℕ, ◌+◌, ◌≤◌, List, [], ◌∷◌, length, take, decimal, arith}
use Rattle.std.proofs.lemmas.List.{length-append}
use Rattle.std.specs.List.{flat_map}
use Rattle.reading.specs.declared.outcomes.Step.{Step}
use Rattle.report.specs.Texts.{field_text, fields_text, line_text, line_of}
use Rattle.report.proofs.Joining.{joined_within}

pub length_fields : (fields : List ℕ) → length (fields_text fields) ≡ length (flat_map field_text fields) + 1
length_fields fields = length-append (flat_map field_text fields) (10 ∷ [])

-- the fields of a front, and the newline
pub fields_within : (fields : List ℕ) (i : ℕ) → length (flat_map field_text (take i fields)) + 1 ≤ length (fields_text fields)
fields_within fields i = omega (arith, length_fields fields, joined_within field_text fields i)

pub length_line : (head fields : List ℕ) → length (line_text head fields) ≡ length head + length (fields_text fields)
length_line head fields = length-append head (fields_text fields)

pub length_step_line : (s : Step) → length (line_of s) ≡ length (decimal s.rule) + length (fields_text (s.first ∷ s.width ∷ []))
length_step_line s = length_line (decimal s.rule) (s.first ∷ s.width ∷ [])
