use Rattle.std.proofs.Common.{◌≡◌, false, ◌++◌, take, drop}
use Rattle.grammar.specs.Items.{opened}
use Rattle.tables.specs.Kept.{lines_of}
use Rattle.tables.proofs.closing.open.Given as goal

abbrev pub invariant-loop-k : goal.invariant-loop-k
invariant-loop-k l = record {
  after : take l.k l.items ++ opened l.set (drop l.k (lines_of l.rules)) (drop l.k l.items) ≡ opened l.set (lines_of l.rules) l.initial.items;
  still : l.changed ≡ false → l.items ≡ l.initial.items;
}
