use Rattle.std.proofs.Common.{◌≡◌, map, length, take, drop}
use Rattle.grammar.specs.Build.{conflict_in}
use Rattle.grammar.specs.Sets.{symbol_count}
use Rattle.tables.specs.Acts.{act_of, cell_act}
use Rattle.tables.proofs.actions.settle.Given as goal

abbrev pub invariant-loop-x : goal.invariant-loop-x
invariant-loop-x l = record {
  long : length l.actions ≡ symbol_count;
  same : map act_of (take l.x l.actions) ≡ map cell_act (take l.x l.cells);
  calm : conflict_in l.x (map cell_act (drop l.x l.cells)) ≡ conflict_in 0 (map cell_act l.cells);
}
