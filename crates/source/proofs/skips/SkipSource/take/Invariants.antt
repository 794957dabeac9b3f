use Rattle.std.proofs.Common.{◌≡◌, length}
use Rattle.source.specs.Streams.{skipping}
use Rattle.source.proofs.skips.SkipSource.take.Given as goal

abbrev pub invariant-loop-code : goal.invariant-loop-code
invariant-loop-code g l =
    (l.self.code ≡ l.initial.self.code)
    × (skipping l.self.code (g.S.Source.means l.self.below) ≡ skipping l.initial.self.code (g.S.Source.means l.initial.self.below))

abbrev pub decreases-loop-code : goal.decreases-loop-code
decreases-loop-code g l = length (g.S.Source.means l.self.below).tokens
