use Rattle.std.proofs.Common.{◌+◌, map, length, ap, ◌∙◌, arith}
use Rattle.grammar.specs.Items.{reads}
use Rattle.grammar.specs.Sets.{symbol_count, codes}
use Rattle.tables.specs.Acts.{cell_act, shift_at}
use Rattle.tables.specs.Kept.{lines_of, rows_for, kernels_in}
use Rattle.tables.proofs.Rowing.{mapped_more, mapped_done}
use Rattle.tables.proofs.builds.Build.shifts.Goals as goal

pub loop-x-preserved : goal.loop-x-preserved
loop-x-preserved g c =
    let rules = c.args.self.now.related.now.rules.now in
    let f = shift_at (kernels_in (length rules + 1) c.args.kernels.now) (lines_of rules) (rows_for rules c.args.items.now.rows) c.reads-set.result in
    let more = mapped_more cell_act f symbol_count c.loop-x.cell-items c.loop-x.x c.shift_over.result c.loop-x-test.true c.loop-x.invariant.long c.shift_over.ensures c.loop-x.invariant.filled in
    record { long = more.0; filled = more.1 }

pub returns : goal.returns
returns g c =
    let rules = c.args.self.now.related.now.rules.now in
    let f = shift_at (kernels_in (length rules + 1) c.args.kernels.now) (lines_of rules) (rows_for rules c.args.items.now.rows) in
    mapped_done cell_act (f c.reads-set.result) symbol_count c.loop-x.cell-items c.loop-x.x c.loop-x-test.false (omega arith) c.loop-x.invariant.long c.loop-x.invariant.filled
    ∙ ap (λ s. map (f s) codes) (c.reads-set.ensures ∙ ap (reads (lines_of rules)) c.rows.ensures.value)
