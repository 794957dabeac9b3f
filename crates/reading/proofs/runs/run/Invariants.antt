use Rattle.reading.specs.Underway.{SameLoans}
use Rattle.reading.proofs.Underway.{left_of, Underway}
use Rattle.reading.proofs.runs.run.Given as goal

abbrev pub invariant-loop-verdict : goal.invariant-loop-verdict
invariant-loop-verdict g l = record {
  underway : Underway l.tables l.rules l.fn.steps (g.S.Source.means l.fn.source) l.read (g.S.Source.means l.read.source.now);
  loans : SameLoans l.initial.read l.read;
}

abbrev pub decreases-loop-verdict : goal.decreases-loop-verdict
decreases-loop-verdict g l = left_of l.read (g.S.Source.means l.read.source.now)
