use Rattle.std.proofs.Common.{◌≡◌, ◌+◌, ◌-◌, ◌≤◌, true, false, [], ◌∷◌, map, length, drop, sym, refl, ap, ◌∙◌, arith, length-append, length-drop, length-take, rules}
use lib.ListN.{length-map}
use Rattle.std.proofs.lemmas.List.{take_at}
use Rattle.book.specs.Held.{production_of, productions_of}
use Rattle.grammar.specs.Items.{is_complete}
use Rattle.grammar.specs.Lookahead.{Look, expand_for}
use Rattle.grammar.specs.Relations.{Relations}
use Rattle.grammar.specs.Sets.{has, codes, keep, up_from}
use Rattle.grammar.proofs.Turns.{keep_more, up_done}
use Rattle.tables.specs.Kept.{relations_in, lines_of, rows_for}
use Rattle.tables.proofs.Calls.{expand_none, expand_more, expand_by_set, own_complete}
use Rattle.tables.proofs.builds.Build.expanded.Goals as goal
use Rattle.tables.proofs.builds.Build.expanded.Goals.{then-is_complete, else-is_complete}

pub loop-number-init : goal.loop-number-init
loop-number-init g c =
    let rs = c.args.self.now.related.now.rules.now in
    let rel : Relations = relations_in c.args.self.now in
    let base = rows_for rs c.args.closed.now.rows in
    let look : Look = g.L.Lookahead.policy c.args.self.now.look.now rel base in
    let p = is_complete (lines_of rs) base in
    let e : length rs + 1 - 1 ≡ length (productions_of rs) = omega (arith, length-map rs production_of) in
    record {
      long = search rules;
      left = ap (λ ns. expand_for rel look ns base) (ap (λ m. keep p (up_from 1 m)) e ∙ sym (own_complete p (length (productions_of rs))));
    }

pub loop-number-preserved : goal.loop-number-preserved
loop-number-preserved g c =
    let rs = c.args.self.now.related.now.rules.now in
    let rel : Relations = relations_in c.args.self.now in
    let base = rows_for rs c.args.closed.now.rows in
    let policy = g.L.Lookahead.policy c.args.self.now.look.now rel in
    let look : Look = policy base in
    let p = is_complete (lines_of rs) base in
    let n = length rs + 1 in
    let k = c.loop-number.number in
    let rows = c.loop-number.rows in
    let items = rows_for rs rows in
    let rest = keep p (up_from (k + 1) (n - (k + 1))) in
    let wide : n ≤ length rows = omega (arith, c.loop-number.invariant.long, c.args.self.now.few) in
    let long : length items ≡ n = simp length-take (omega (arith, wide)) in
    let same : c.is_complete.result ≡ p k = c.is_complete.ensures ∙ ap (λ q. is_complete (lines_of rs) q k) c.rows.ensures.value in
    elim c.if-is_complete.branch [
      | then-is_complete w ↦
          let made = w.expand_by.new.items in
          let full : length made ≡ n = search rules in
          record {
            long = ap length w.rows-is ∙ simp (length-append, length-drop) (omega (arith, full, wide, c.loop-number.invariant.long));
            left = ap (expand_for rel look rest) (ap (rows_for rs) w.rows-is ∙ take_at made (drop n rows) n full ∙ w.expand_by.ensures
                ∙ ap (λ s. expand_for rel (λ _. has s) (k ∷ []) items) (w.lookahead-ahead.ensures ∙ ap (λ q. map (policy q k) codes) w.rows-then-is_complete.ensures.value) ∙ expand_by_set rel rs look k items refl (omega (arith, long)))
                ∙ sym (expand_more rel look k rest items)
                ∙ sym (ap (λ ns. expand_for rel look ns items) (keep_more p n k c.loop-number-test.true true (sym same ∙ w.if-is_complete.true))) ∙ c.loop-number.invariant.left;
          }
      | else-is_complete w ↦ record {
        long = ap length w.rows-is ∙ c.loop-number.invariant.long;
        left = ap (λ q. expand_for rel look rest (rows_for rs q)) w.rows-is
            ∙ sym (ap (λ ns. expand_for rel look ns items) (keep_more p n k c.loop-number-test.true false (sym same ∙ w.if-is_complete.false))) ∙ c.loop-number.invariant.left;
      }
    ]

pub returns : goal.returns
returns g c =
    let rs = c.args.self.now.related.now.rules.now in
    let rel : Relations = relations_in c.args.self.now in
    let base = rows_for rs c.args.closed.now.rows in
    let look : Look = g.L.Lookahead.policy c.args.self.now.look.now rel base in
    let p = is_complete (lines_of rs) base in
    let items = rows_for rs c.loop-number.rows in
    sym (ap (λ ns. expand_for rel look (keep p ns) items) (up_done (length rs + 1) c.loop-number.number c.loop-number-test.false) ∙ expand_none rel look items) ∙ c.loop-number.invariant.left
