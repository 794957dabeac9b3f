use Rattle.std.proofs.Common.{◌≡◌, ◌-◌}
use Rattle.book.specs.Held.{productions_of}
use Rattle.grammar.specs.Sets.{symbol_count, times, through, saturate}
use Rattle.grammar.proofs.growing.saturate.Given as goal

abbrev pub invariant-loop : goal.invariant-loop
invariant-loop g l =
    times (through (g.G.Growth.grown l.growth) (productions_of l.rules)) (symbol_count - l.counter) l.set
    ≡ saturate (g.G.Growth.grown l.growth) (productions_of l.rules) l.initial.set
