use Rattle.std.proofs.Common.{◌≡◌, map, length, take}
use Rattle.grammar.specs.Relations.{followers_of}
use Rattle.grammar.specs.Sets.{symbol_count}
use Rattle.grammar.proofs.relations.followers.Given as goal

abbrev pub invariant-loop-a : goal.invariant-loop-a
invariant-loop-a l = (length l.set-items ≡ symbol_count) × (take l.a l.set-items ≡ map (followers_of l.lefts) (take l.a l.leftmosts))
