use Rattle.std.proofs.Common.{◌≡◌, [], ◌∷◌, ◌++◌, take, drop}
use Rattle.grammar.specs.Lookahead.{expands, add_rules, expand_for}
use Rattle.grammar.specs.Sets.{has, any}
use Rattle.tables.specs.Kept.{relations_in}
use Rattle.tables.proofs.builds.Build.expand_by.Given as goal

abbrev pub invariant-loop-q : goal.invariant-loop-q
invariant-loop-q g l =
    take l.q l.items ++ add_rules (λ q. any (expands (relations_in l.self) (λ _. has l.ahead) q) (l.number ∷ [])) l.q (drop l.q l.items)
    ≡ expand_for (relations_in l.self) (λ _. has l.ahead) (l.number ∷ []) l.initial.items
