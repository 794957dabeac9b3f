use Rattle.std.proofs.Common.{◌+◌, List, length, ap, ◌∙◌, subst}
use Rattle.grammar.specs.Build.{Act, row_of}
use Rattle.tables.specs.Acts.{Settled}
use Rattle.tables.specs.Kept.{relations_in, kernels_in}
use Rattle.tables.proofs.builds.Build.row_of.Goals as goal

pub returns : goal.returns
returns g c =
    let ks = kernels_in (length c.args.self.now.related.now.rules.now + 1) c.args.kernels.now in
    let P : List Act → Type 0 = λ acts. Settled acts c.settle.result in
    subst P (c.cells_of.ensures ∙ ap (row_of (g.L.Lookahead.policy c.args.self.now.look.now) (relations_in c.args.self.now) ks) c.closed.ensures) c.settle.ensures
