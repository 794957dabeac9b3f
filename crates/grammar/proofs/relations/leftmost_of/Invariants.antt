use Rattle.std.proofs.Common.{◌≡◌, [], get_or, drop}
use Rattle.book.specs.Held.{productions_of}
use Rattle.book.specs.Rules.{Production}
use Rattle.grammar.specs.Numbered.{first}
use Rattle.grammar.specs.Relations.{behind, leftmost_of}
use Rattle.grammar.specs.Sets.{Flags, has, through}
use Rattle.grammar.proofs.relations.leftmost_of.Given as goal

abbrev pub invariant-loop-rule : goal.invariant-loop-rule
invariant-loop-rule l =
    through (λ (s : Flags) (p : Production). behind (λ x. has (get_or l.rights x []) l.a) s (first p) (drop 1 p.rhs)) (productions_of (drop l.rule-index l.rules)) l.set
    ≡ leftmost_of l.rights (productions_of l.rules) l.a
