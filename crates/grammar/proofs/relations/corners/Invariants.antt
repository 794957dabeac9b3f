use Rattle.std.proofs.Common.{◌≡◌, map, length, take}
use Rattle.book.specs.Held.{productions_of}
use Rattle.grammar.specs.Ends.{end_of}
use Rattle.grammar.specs.Relations.{corners_of}
use Rattle.grammar.specs.Sets.{symbol_count, up_from}
use Rattle.grammar.proofs.relations.corners.Given as goal

abbrev pub invariant-loop-x : goal.invariant-loop-x
invariant-loop-x l = (length l.set-items ≡ symbol_count) × (take l.x l.set-items ≡ map (corners_of (end_of l.end) (productions_of l.rules)) (up_from 0 l.x))
