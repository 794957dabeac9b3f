use Rattle.std.proofs.Common.{refl, arith}
use Rattle.report.proofs.Accepting.{room_more, room_short, room_all}
use Rattle.report.proofs.steps.has_room.Goals as goal

pub returns-then-left-size : goal.returns-then-left-size
returns-then-left-size c =
    record {
      fits = room_short c.args.steps.now c.loop-step.step-index c.args.room c.loop-step.left c.step_size-size.result
          c.loop-step-test.true c.loop-step.invariant.0 c.step_size-size.ensures.size c.if-left-size.true;
      enough = λ h. absurd (omega (arith, c.loop-step.invariant.1, c.step_size-size.ensures.few, c.if-left-size.true, c.loop-step-test.true));
    }

pub loop-step-preserved : goal.loop-step-preserved
loop-step-preserved c = (
  room_more c.args.steps.now c.loop-step.step-index c.args.room c.loop-step.left c.step_size-size.result
      c.loop-step-test.true c.loop-step.invariant.0 c.step_size-size.ensures.size c.if-left-size.false,
  omega (arith, c.loop-step.invariant.1, c.step_size-size.ensures.few),
)

pub returns : goal.returns
returns c =
    record {
      fits = room_all c.args.steps.now c.loop-step.step-index c.args.room c.loop-step.left c.loop-step-test.false c.loop-step.invariant.0;
      enough = λ _. refl;
    }
