use Rattle.std.proofs.Common.{◌≡◌, false, drop}
use Rattle.book.specs.Held.{productions_of}
use Rattle.grammar.specs.Sets.{through}
use Rattle.grammar.proofs.growing.round.Given as goal

abbrev pub invariant-loop-rule : goal.invariant-loop-rule
invariant-loop-rule g l =
    (through (g.G.Growth.grown l.growth) (productions_of (drop l.rule-index l.rules)) l.set ≡ through (g.G.Growth.grown l.growth) (productions_of l.rules) l.initial.set)
    × (l.changed ≡ false → l.set ≡ l.initial.set)
