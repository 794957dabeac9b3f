use Rattle.std.proofs.Common.{◌≡◌, false, drop}
use Rattle.grammar.specs.Useful.{insert_all}
use Rattle.grammar.proofs.useful.insert_all.Given as goal

abbrev pub invariant-loop-symbol : goal.invariant-loop-symbol
invariant-loop-symbol l = (insert_all l.set (drop l.symbol-index l.symbols) ≡ insert_all l.initial.set l.symbols) × (l.changed ≡ false → l.set ≡ l.initial.set)
