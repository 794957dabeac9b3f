use Rattle.std.proofs.Common.{◌≡◌, [], get_or, drop}
use Rattle.grammar.specs.Relations.{behind}
use Rattle.grammar.specs.Sets.{has}
use Rattle.grammar.proofs.relations.insert_behind.Given as goal

abbrev pub invariant-loop-pair : goal.invariant-loop-pair
invariant-loop-pair l =
    (l.pair-iterator.size ≡ 2)
    × (behind (λ x. has (get_or l.rights x []) l.a) l.set (get_or l.pair-iterator.rest.now 0 0) (drop 1 l.pair-iterator.rest.now)
    ≡ behind (λ x. has (get_or l.rights x []) l.a) l.initial.set (get_or l.right 0 0) (drop 1 l.right))
