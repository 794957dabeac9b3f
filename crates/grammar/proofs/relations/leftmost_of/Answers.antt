use Rattle.std.proofs.Common.{◌≡◌, ℕ, ◌+◌, List, [], get_or, drop, sym, ap, ◌∙◌}
use Rattle.std.proofs.lemmas.List.{at_drop_more}
use Rattle.book.specs.Held.{production_of, productions_of}
use Rattle.book.specs.Rules.{Production}
use Rattle.grammar.specs.Numbered.{first}
use Rattle.grammar.specs.Relations.{behind}
use Rattle.grammar.specs.Sets.{Flags, has, through}
use Rattle.grammar.proofs.relations.leftmost_of.Goals as goal
use Rattle.grammar.proofs.relations.leftmost_of.Goals.{then-related, else-related}

-- what one rule adds
abbrev step : List Flags → ℕ → Flags → Production → Flags
step rights a s p = behind (λ x. has (get_or rights x []) a) s (first p) (drop 1 p.rhs)

pub loop-rule-preserved : goal.loop-rule-preserved
loop-rule-preserved c =
    let f : Flags → Production → Flags = step c.args.rights.now c.args.a in
    let rules = c.args.rules.now in
    let i = c.loop-rule.rule-index in
    let s = c.loop-rule.set in
    let rest = productions_of (drop (i + 1) rules) in
    let put : c.insert_behind.new.set ≡ f s (production_of c.rule-item.result) =
    c.insert_behind.ensures ∙ ap (λ ws. behind (λ x. has (get_or c.args.rights.now x []) c.args.a) s (get_or ws 0 0) (drop 1 ws)) c.right.ensures.value in
    ap (through f rest) put
    ∙ ap (λ r. through f rest (f s (production_of r))) c.rule-item.is
    ∙ sym (at_drop_more (λ rs. through f (productions_of rs) s) rules i c.rule-item.result c.loop-rule-test.true)
    ∙ c.loop-rule.invariant
