use Rattle.std.proofs.Common.{◌≡◌, map, take}
use Rattle.tables.specs.Acts.{acts_of, word_of}
use Rattle.tables.proofs.encoding.encode.Given as goal

abbrev pub invariant-loop-x : goal.invariant-loop-x
invariant-loop-x l = take l.x l.out ≡ take l.x (map word_of (acts_of l.row))
