-- The text of a result, and that of the answer for which it stands.
use Rattle.std.proofs.Common.{◌≡◌, ◌≤◌, List, length, take, Ok, Err, Result, sym, refl, ap, ◌∙◌}
use Rattle.std.proofs.lemmas.List.{length-map, length-take-le}
use Rattle.reading.specs.declared.outcomes.Step.{Step}
use Rattle.reading.specs.declared.outcomes.Outcome.{Outcome}
use Rattle.reading.specs.Told.{step_of, verdict_of, written_in}
use Rattle.card.specs.declared.refusals.ReadError.{ReadError}
use Rattle.card.specs.declared.refusals.ReadError.TheVariants.{NotBuilt}
use Rattle.card.specs.Wanting.{told_by, steps_by}
use Rattle.report.specs.Texts.{verdict_text, read_text, answer_text}

-- they are the same where the list has all the steps
pub read_answers : (r : Result Outcome ReadError) (list : List Step) → steps_by r ≤ length list → read_text r list ≡ answer_text (told_by r list)
read_answers (Ok o) list h =
    let size : o.steps ≡ length (written_in o.steps list) = sym (length-map (take o.steps list) step_of ∙ length-take-le o.steps list h) in
    ap (λ n. verdict_text (verdict_of o.verdict) n o.words o.place (written_in o.steps list)) size
read_answers (Err NotBuilt) list h = refl
