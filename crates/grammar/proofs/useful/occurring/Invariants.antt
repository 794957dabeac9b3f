use Rattle.std.proofs.Common.{◌≡◌, drop}
use Rattle.book.specs.Held.{productions_of}
use Rattle.book.specs.Rules.{Production}
use Rattle.grammar.specs.Sets.{Flags, insert, through}
use Rattle.grammar.specs.Useful.{insert_all, occurring_in}
use Rattle.grammar.proofs.useful.occurring.Given as goal

abbrev pub invariant-loop-rule : goal.invariant-loop-rule
invariant-loop-rule l =
    through (λ (s : Flags) (p : Production). insert_all (insert s p.lhs) p.rhs) (productions_of (drop l.rule-index l.rules)) l.set ≡ occurring_in (productions_of l.rules)
