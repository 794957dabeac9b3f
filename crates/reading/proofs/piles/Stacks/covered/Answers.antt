use Rattle.std.proofs.Common.{◌+◌, ◌-◌, ◌∙◌, arith}
use Rattle.reading.proofs.Downs.{covered_more}
use Rattle.reading.proofs.piles.Stacks.covered.Goals as goal

pub loop-preserved : goal.loop-preserved
loop-preserved c = record {
  covers = covered_more (c.args.count - c.loop.counter) (c.args.count - (c.loop.counter + 1)) _ _ _ _ _ _ _ (omega arith) c.pop-span.ensures.span c.loop.invariant.covers;
  few = c.pop-span.ensures.few;
  pending = c.pop-span.ensures.pending ∙ c.loop.invariant.pending;
}
