use Rattle.std.proofs.Common.{◌≡◌, ◌++◌, length, take, drop}
use Rattle.grammar.specs.Items.{onward}
use Rattle.tables.specs.Kept.{most_numbered, lines_of}
use Rattle.tables.proofs.builds.Build.onward.Given as goal

abbrev pub invariant-loop-k : goal.invariant-loop-k
invariant-loop-k g l = record {
  long : length l.rows ≡ most_numbered;
  left : take l.k l.rows ++ onward l.symbol (drop l.k (lines_of l.self.related.now.rules.now)) (drop l.k l.row-items) ≡ onward l.symbol (lines_of l.self.related.now.rules.now) l.row-items;
}
