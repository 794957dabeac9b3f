use Rattle.std.proofs.Common.{◌≡◌, ◌+◌, ◌-◌, false, ◌∷◌, ◌++◌, length, take, drop, replicate}
use Rattle.book.specs.Symbols.{longest_right}
use Rattle.grammar.specs.Items.{before, dot_count}
use Rattle.tables.proofs.moving.move_row.Given as goal

abbrev pub invariant-loop-d : goal.invariant-loop-d
invariant-loop-d l = record {
  long : length l.moved ≡ dot_count;
  left : take (l.d + 1) l.moved ++ before l.symbol (drop l.d l.right) (drop l.d (take longest_right l.row)) ≡ false ∷ before l.symbol l.right (take longest_right l.row);
  rest : drop (l.d + 1) l.moved ≡ replicate (longest_right - l.d) false;
}
