use Rattle.std.proofs.Common.{◌+◌, length, ap, ◌∙◌}
use Rattle.grammar.specs.Build.{row_with}
use Rattle.grammar.specs.Items.{reads, complete_in}
use Rattle.grammar.specs.Lookahead.{Look}
use Rattle.tables.specs.Acts.{shift_at, reduced}
use Rattle.tables.specs.Kept.{relations_in, lines_of, rows_for, kernels_in}
use Rattle.tables.proofs.Rowing.{reduced_is}
use Rattle.tables.proofs.builds.Build.cells_of.Goals as goal

pub returns : goal.returns
returns g c =
    let rs = c.args.self.now.related.now.rules.now in
    let rel = relations_in c.args.self.now in
    let lines = lines_of rs in
    let ks = kernels_in (length rs + 1) c.args.kernels.now in
    let base = rows_for rs c.args.closed.now.rows in
    let items = rows_for rs c.expanded.result.rows in
    let look : Look = g.L.Lookahead.policy c.args.self.now.look.now rel base in
    let complete = complete_in lines base in
    c.reduce_all.ensures ∙ ap (reduced look complete) c.shifts-cells.ensures ∙ reduced_is look complete (shift_at ks lines items (reads lines items))
    ∙ ap (row_with rel ks look complete) c.expanded.ensures
