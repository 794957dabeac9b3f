use Rattle.std.proofs.Common.{◌≡◌, ◌+◌, map, length, take}
use Rattle.grammar.specs.Sets.{symbol_count, up_from}
use Rattle.tables.specs.Acts.{cell_act, shift_at}
use Rattle.tables.specs.Kept.{lines_of, rows_for, kernels_in}
use Rattle.tables.proofs.builds.Build.shifts.Given as goal

abbrev pub invariant-loop-x : goal.invariant-loop-x
invariant-loop-x g l =
    let rules = l.self.related.now.rules.now in
    record {
      long : length l.cell-items ≡ symbol_count;
      filled : map cell_act (take l.x l.cell-items) ≡ map (shift_at (kernels_in (length rules + 1) l.kernels) (lines_of rules) (rows_for rules l.items.rows) l.set) (up_from 0 l.x);
    }
