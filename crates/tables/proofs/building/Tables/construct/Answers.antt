use Rattle.std.proofs.Common.{◌+◌, length, ap, ◌∙◌}
use Rattle.grammar.specs.Build.{within_states}
use Rattle.grammar.specs.Relations.{Relations}
use Rattle.grammar.specs.States.{kernels_of}
use Rattle.tables.specs.Kept.{relations_in, kernels_in}
use Rattle.tables.proofs.Filling.{kernels_few, within_few, within_many}
use Rattle.tables.proofs.building.Tables.construct.Goals as goal

pub returns-in-Ok : goal.returns-in-Ok
returns-in-Ok g c =
    let policy = g.L.Lookahead.policy c.args.build.now.look.now in
    let rel : Relations = relations_in c.args.build.now in
    let n = length c.args.build.now.related.now.rules.now + 1 in
    let ks = kernels_in n c.explore.new.kernels in
    c.fill_rows.ensures ∙ within_few policy rel ks (kernels_few n c.explore.new.kernels) ∙ ap (within_states policy rel) c.in-Ok.ensures

pub returns-in-Err : goal.returns-in-Err
returns-in-Err g c =
    let policy = g.L.Lookahead.policy c.args.build.now.look.now in
    let rel : Relations = relations_in c.args.build.now in
    within_many policy rel (kernels_of policy rel) c.in-Err.ensures
