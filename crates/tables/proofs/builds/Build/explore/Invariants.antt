use Rattle.std.proofs.Common.{◌≡◌, ◌+◌, ◌-◌, ◌≤◌, length}
use Rattle.grammar.specs.States.{explore, kernels_of, most_states}
use Rattle.tables.specs.Kept.{relations_in, kernels_in}
use Rattle.tables.proofs.builds.Build.explore.Given as goal

abbrev pub invariant-loop-kernel : goal.invariant-loop-kernel
invariant-loop-kernel g l =
    let policy = g.L.Lookahead.policy l.self.look.now in
    record {
      within : l.state ≤ most_states;
      left : explore policy (relations_in l.self) (most_states - l.state) l.state (kernels_in (length l.self.related.now.rules.now + 1) l.kernels) ≡ kernels_of policy (relations_in l.self);
    }

abbrev pub decreases-loop-kernel : goal.decreases-loop-kernel
decreases-loop-kernel g l = most_states - l.state
