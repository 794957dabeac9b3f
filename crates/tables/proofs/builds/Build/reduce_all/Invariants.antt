use Rattle.std.proofs.Common.{◌≡◌, ◌-◌, map, length}
use Rattle.grammar.specs.Items.{is_complete, complete_in}
use Rattle.grammar.specs.Sets.{keep, up_from}
use Rattle.tables.specs.Acts.{cell_act, reduced}
use Rattle.tables.specs.Kept.{relations_in, lines_of, rows_for}
use Rattle.tables.proofs.builds.Build.reduce_all.Given as goal

abbrev pub invariant-loop-number : goal.invariant-loop-number
invariant-loop-number g l =
    let lines = lines_of l.self.related.now.rules.now in
    let base = rows_for l.self.related.now.rules.now l.closed.rows in
    let look = g.L.Lookahead.policy l.self.look.now (relations_in l.self) base in
    reduced look (keep (is_complete lines base) (up_from l.number (length lines - l.number))) (map cell_act l.cells) ≡ reduced look (complete_in lines base) (map cell_act l.initial.cells)
