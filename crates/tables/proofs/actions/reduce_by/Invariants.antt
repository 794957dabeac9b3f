use Rattle.std.proofs.Common.{◌≡◌, ◌++◌, map, length, take, drop}
use Rattle.grammar.specs.Build.{reduce_by}
use Rattle.grammar.specs.Sets.{symbol_count}
use Rattle.tables.specs.Acts.{cell_act, besides}
use Rattle.tables.proofs.actions.reduce_by.Given as goal

abbrev pub invariant-loop-x : goal.invariant-loop-x
invariant-loop-x l = record {
  long : length l.cells ≡ symbol_count;
  left :
      take l.x (map cell_act l.cells) ++ besides (reduce_by l.number) (drop l.x l.ahead) (drop l.x (map cell_act l.cells))
      ≡ besides (reduce_by l.number) l.ahead (map cell_act l.initial.cells);
}
