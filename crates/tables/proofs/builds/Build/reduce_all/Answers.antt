use Rattle.std.proofs.Common.{◌≡◌, ◌+◌, ◌-◌, ◌<◌, true, false, map, length, sym, ap, ◌∙◌, arith}
use lib.ListN.{length-map}
use Rattle.book.specs.Held.{production_of}
use Rattle.grammar.specs.Build.{reduce_by}
use Rattle.grammar.specs.Items.{is_complete}
use Rattle.grammar.specs.Lookahead.{Look, lookahead_of}
use Rattle.grammar.specs.Sets.{keep, up_from}
use Rattle.grammar.proofs.Turns.{up_done}
use Rattle.tables.specs.Acts.{cell_act, besides, reduced}
use Rattle.tables.specs.Kept.{relations_in, lines_of, rows_for}
use Rattle.tables.proofs.Rowing.{reduced_more}
use Rattle.tables.proofs.builds.Build.reduce_all.Goals as goal
use Rattle.tables.proofs.builds.Build.reduce_all.Goals.{then-is_complete, else-is_complete}

pub loop-number-init : goal.loop-number-init
loop-number-init g c =
    let rs = c.args.self.now.related.now.rules.now in
    let base = rows_for rs c.args.closed.now.rows in
    let look : Look = g.L.Lookahead.policy c.args.self.now.look.now (relations_in c.args.self.now) base in
    let e : length (lines_of rs) - 0 ≡ length (lines_of rs) = omega arith in
    ap (λ n. reduced look (keep (is_complete (lines_of rs) base) (up_from 0 n)) (map cell_act c.args.cells.now)) e

pub loop-number-preserved : goal.loop-number-preserved
loop-number-preserved g c =
    let rs = c.args.self.now.related.now.rules.now in
    let base = rows_for rs c.args.closed.now.rows in
    let look : Look = g.L.Lookahead.policy c.args.self.now.look.now (relations_in c.args.self.now) base in
    let p = is_complete (lines_of rs) base in
    let n = length (lines_of rs) in
    let k = c.loop-number.number in
    let acts = map cell_act c.loop-number.cells in
    let rest = reduced look (keep p (up_from (k + 1) (n - (k + 1)))) in
    let low : k < n = omega (arith, c.loop-number-test.true, length-map rs production_of) in
    let same : c.is_complete.result ≡ p k = c.is_complete.ensures ∙ ap (λ q. is_complete (lines_of rs) q k) c.rows.ensures.value in
    elim c.if-is_complete.branch [
      | then-is_complete w ↦
          ap rest (ap (map cell_act) w.cells-is ∙ w.reduce_by.ensures ∙ ap (λ s. besides (reduce_by k) s acts) (w.lookahead_of-ahead.ensures ∙ ap (λ q. lookahead_of (g.L.Lookahead.policy c.args.self.now.look.now (relations_in c.args.self.now) q) k) w.rows-then-is_complete.ensures.value))
          ∙ sym (reduced_more look p n k true acts low (sym same ∙ w.if-is_complete.true)) ∙ c.loop-number.invariant
      | else-is_complete w ↦
          ap rest (ap (map cell_act) w.cells-is) ∙ sym (reduced_more look p n k false acts low (sym same ∙ w.if-is_complete.false)) ∙ c.loop-number.invariant
    ]

pub returns : goal.returns
returns g c =
    let rs = c.args.self.now.related.now.rules.now in
    let base = rows_for rs c.args.closed.now.rows in
    let look : Look = g.L.Lookahead.policy c.args.self.now.look.now (relations_in c.args.self.now) base in
    let p = is_complete (lines_of rs) base in
    let k = c.loop-number.number in
    sym (ap (λ ns. reduced look (keep p ns) (map cell_act c.loop-number.cells)) (up_done (length (lines_of rs)) k (omega (arith, c.loop-number-test.false, length-map rs production_of))))
    ∙ c.loop-number.invariant
