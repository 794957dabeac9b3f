use Rattle.std.proofs.Common.{◌≡◌, ◌+◌, ◌-◌, length}
use Rattle.grammar.specs.Sets.{symbol_count, up_from}
use Rattle.grammar.specs.States.{with_next, visit}
use Rattle.tables.specs.Kept.{lines_of, rows_for, kernels_in}
use Rattle.tables.proofs.builds.Build.visit.Given as goal

abbrev pub invariant-loop-x : goal.invariant-loop-x
invariant-loop-x g l =
    let rules = l.self.related.now.rules.now in
    let items = rows_for rules l.items.rows in
    with_next (lines_of rules) items l.read-items (up_from l.x (symbol_count - l.x)) (kernels_in (length rules + 1) l.kernels)
    ≡ visit (lines_of rules) items (kernels_in (length rules + 1) l.initial.kernels)
