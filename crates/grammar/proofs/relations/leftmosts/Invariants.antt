use Rattle.std.proofs.Common.{◌≡◌, map, length, take}
use Rattle.book.specs.Held.{productions_of}
use Rattle.grammar.specs.Relations.{leftmost_of}
use Rattle.grammar.specs.Sets.{symbol_count, up_from}
use Rattle.grammar.proofs.relations.leftmosts.Given as goal

abbrev pub invariant-loop-a : goal.invariant-loop-a
invariant-loop-a l = (length l.set-items ≡ symbol_count) × (take l.a l.set-items ≡ map (leftmost_of l.rights (productions_of l.rules)) (up_from 0 l.a))
