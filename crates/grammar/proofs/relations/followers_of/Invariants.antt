use Rattle.std.proofs.Common.{◌≡◌, ◌-◌, [], map, length, get_or}
use Rattle.grammar.specs.Relations.{union_of, followers_of}
use Rattle.grammar.specs.Sets.{has, symbol_count, up_from, keep}
use Rattle.grammar.proofs.relations.followers_of.Given as goal

abbrev pub invariant-loop-corners : goal.invariant-loop-corners
invariant-loop-corners l =
    union_of l.set (map (λ z. get_or l.lefts z []) (keep (has l.leftmost) (up_from (length l.yielded) (symbol_count - length l.yielded)))) ≡ followers_of l.lefts l.leftmost
