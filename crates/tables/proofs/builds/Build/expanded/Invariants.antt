use Rattle.std.proofs.Common.{◌≡◌, ◌+◌, ◌-◌, length}
use Rattle.grammar.specs.Items.{is_complete}
use Rattle.grammar.specs.Lookahead.{expand_for}
use Rattle.grammar.specs.Sets.{keep, up_from}
use Rattle.grammar.specs.States.{items_from}
use Rattle.tables.specs.Kept.{relations_in, lines_of, rows_for}
use Rattle.tables.proofs.builds.Build.expanded.Given as goal

abbrev pub invariant-loop-number : goal.invariant-loop-number
invariant-loop-number g l =
    let rules = l.self.related.now.rules.now in
    let rel = relations_in l.self in
    let base = rows_for rules l.closed.rows in
    record {
      long : length l.rows ≡ 101;
      left : expand_for rel (g.L.Lookahead.policy l.self.look.now rel base) (keep (is_complete (lines_of rules) base) (up_from l.number (length rules + 1 - l.number))) (rows_for rules l.rows)
          ≡ items_from (g.L.Lookahead.policy l.self.look.now) rel base;
    }
