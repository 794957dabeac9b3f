use Rattle.std.proofs.Common.{length, get_or, sym, ap, ◌∙◌, arith}
use Rattle.grammar.specs.Lookahead.{leads}
use Rattle.grammar.specs.Numbered.{line_at, first}
use Rattle.grammar.specs.Sets.{has}
use Rattle.tables.specs.Kept.{relations_in, lines_of}
use Rattle.tables.proofs.Calls.{has_first, calls_not, calls_so}
use Rattle.tables.proofs.builds.Build.calls_for.Goals as goal

pub bounds-right_of-0 : goal.bounds-right_of-0
bounds-right_of-0 g c = omega (arith, ap length c.right_of.ensures, has_first c.args.self.now.related.now.rules.now c.args.q)

pub returns-then-contains : goal.returns-then-contains
returns-then-contains g c =
    let line = line_at (lines_of c.args.self.now.related.now.rules.now) c.args.q in
    let ahead = c.args.ahead.now in
    calls_not (leads (relations_in c.args.self.now) c.args.left line.lhs) (has ahead (first line)) (ap (λ ws. has ahead (get_or ws 0 0)) (sym c.right_of.ensures) ∙ sym c.if-contains.ensures)

pub returns : goal.returns
returns g c =
    let line = line_at (lines_of c.args.self.now.related.now.rules.now) c.args.q in
    let ahead = c.args.ahead.now in
    c.leads.ensures ∙ ap (leads (relations_in c.args.self.now) c.args.left) c.left_of.ensures
    ∙ calls_so (leads (relations_in c.args.self.now) c.args.left line.lhs) (has ahead (first line)) (ap (λ ws. has ahead (get_or ws 0 0)) (sym c.right_of.ensures) ∙ sym c.if-contains.ensures)
