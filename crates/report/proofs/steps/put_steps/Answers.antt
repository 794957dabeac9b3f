use Rattle.std.proofs.Common.{ap, arith}
use Rattle.std.proofs.lemmas.List.{take_all}
use Rattle.std.specs.List.{flat_map}
use Rattle.report.specs.Texts.{line_of}
use Rattle.report.proofs.Accepting.{no_step}
use Rattle.report.proofs.Joining.{room_for, writes_more}
use Rattle.report.proofs.Putting.{writes_same}
use Rattle.report.proofs.steps.put_steps.Goals as goal

pub put_step-requires : goal.put_step-requires
put_step-requires c =
    room_for line_of c.args.steps.now c.loop-step.step-index no_step (flat_map line_of c.args.steps.now) _ _ c.loop-step-test.true c.requires (omega arith) c.loop-step.invariant

pub loop-step-preserved : goal.loop-step-preserved
loop-step-preserved c =
    writes_more line_of c.args.steps.now c.loop-step.step-index no_step _ _ _ c.loop-step-test.true c.loop-step.invariant c.put_step.ensures

pub returns : goal.returns
returns c = writes_same _ _ _ _ (ap (flat_map line_of) (take_all c.loop-step.step-index c.args.steps.now c.loop-step-test.false)) c.loop-step.invariant
