use Rattle.std.proofs.Common.{arith}
use Rattle.std.proofs.lemmas.Fmt.{length-decimal-le}
use Rattle.report.proofs.Sizes.{length_step_line}
use Rattle.report.proofs.steps.step_size.Goals as goal

pub returns : goal.returns
returns c =
    let rule = c.args.step.now.rule in
    record {
      size = omega (arith, length_step_line c.args.step.now, c.digits.ensures, c.fields_size.ensures.size);
      few = omega (arith, length-decimal-le 3 rule (omega arith) (omega arith) (omega arith), c.digits.ensures, c.fields_size.ensures.few);
    }
