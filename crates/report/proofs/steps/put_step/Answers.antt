use Rattle.std.proofs.Common.{[], ◌∷◌, decimal, arith}
use Rattle.report.specs.Texts.{fields_text}
use Rattle.report.proofs.Sizes.{length_step_line}
use Rattle.report.proofs.Putting.{writes_then}
use Rattle.report.proofs.steps.put_step.Goals as goal

pub put_number-requires : goal.put_number-requires
put_number-requires c = omega (arith, c.requires, length_step_line c.args.step.now)

pub put_fields-requires : goal.put_fields-requires
put_fields-requires c =
    omega (arith, c.requires, length_step_line c.args.step.now, c.put_number.ensures.puts.next, c.put_number.ensures.size)

pub returns : goal.returns
returns c =
    let step = c.args.step.now in
    writes_then (decimal step.rule) (fields_text (step.first ∷ step.width ∷ [])) _ _ _ c.put_number.ensures c.put_fields.ensures
