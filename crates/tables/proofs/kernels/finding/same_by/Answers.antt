use Rattle.std.proofs.Common.{[], get_or, sym, ◌∙◌, arith}
use Rattle.tables.proofs.Same.{flags_alike, items_alike, differ_at}
use Rattle.tables.proofs.kernels.finding.same_by.Goals as goal

pub returns-then-eq : goal.returns-then-eq
returns-then-eq c = c.eq-then-eq.ensures ∙ items_alike c.args.a.now c.args.b.now

pub returns-else-eq : goal.returns-else-eq
returns-else-eq c =
    c.if-eq.false ∙ sym (differ_at c.args.a.now c.args.b.now c.args.k (omega (arith, c.requires.rows, c.requires.row)) c.requires.row (sym (flags_alike (get_or c.args.a.now c.args.k []) (get_or c.args.b.now c.args.k [])) ∙ sym c.eq.ensures ∙ c.if-eq.false))
