use Rattle.std.proofs.Common.{◌≡◌, ◌+◌, map, length, take, drop}
use Rattle.grammar.specs.Build.{rows_of, conflict_from}
use Rattle.tables.specs.Acts.{acts_of}
use Rattle.tables.specs.Kept.{relations_in, kernels_in}
use Rattle.tables.proofs.building.Tables.fill_rows.Given as goal

abbrev pub invariant-loop-s : goal.invariant-loop-s
invariant-loop-s g l =
    let all = rows_of (g.L.Lookahead.policy l.build.look.now) (relations_in l.build) (kernels_in (length l.build.related.now.rules.now + 1) l.kernels) in
    record { filled : map acts_of (take l.s l.self.rows) ≡ take l.s all; calm : conflict_from l.s (drop l.s all) ≡ conflict_from 0 all }
