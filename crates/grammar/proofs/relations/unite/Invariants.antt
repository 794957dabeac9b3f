use Rattle.std.proofs.Common.{◌≡◌, ◌++◌, length, take, drop}
use Rattle.grammar.specs.Sets.{symbol_count, union}
use Rattle.grammar.proofs.relations.unite.Given as goal

abbrev pub invariant-loop-x : goal.invariant-loop-x
invariant-loop-x l = (length l.set ≡ symbol_count) × (take l.x l.set ++ union (drop l.x l.set) (drop l.x l.other) ≡ union l.initial.set l.other)
