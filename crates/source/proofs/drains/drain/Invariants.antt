use Rattle.std.proofs.Common.{◌≡◌, ◌+◌, ◌-◌, ◌^◌, ◌≤◌, min, length}
use Rattle.source.proofs.drains.drain.Given as goal

abbrev pub invariant-loop-count : goal.invariant-loop-count
invariant-loop-count g l =
    (l.count ≤ 2 ^ 64 - 1)
    × (min (l.count + length (g.S.Source.means l.source).tokens) (2 ^ 64 - 1) ≡ min (length (g.S.Source.means l.initial.source).tokens) (2 ^ 64 - 1))
    × ((g.S.Source.means l.source).ending ≡ (g.S.Source.means l.initial.source).ending)

abbrev pub decreases-loop-count : goal.decreases-loop-count
decreases-loop-count g l = length (g.S.Source.means l.source).tokens
