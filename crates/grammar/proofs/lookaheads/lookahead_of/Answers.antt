use Rattle.std.proofs.Common.{sym, ◌∙◌}
use Rattle.grammar.specs.Relating.{related_in}
use Rattle.grammar.proofs.Overlapping.{lookahead_own}
use Rattle.grammar.proofs.lookaheads.lookahead_of.Goals as goal

pub returns : goal.returns
returns g c =
    c.lookahead.ensures
    ∙ sym (lookahead_own (g.L.Lookahead.policy c.args.look.now (related_in c.args.related.now) c.args.closed.now) c.args.number c.if-number-eq0.false)
