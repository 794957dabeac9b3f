use Rattle.std.proofs.Common.{◌≡◌, ℕ, List, [], ◌∷◌, Some, None, sym, ap, ◌∙◌, arith}
use Rattle.book.specs.Answers.{refused, no}
use Rattle.book.specs.Rules.{Production}
use Rattle.book.specs.Held.{productions_of}
use Rattle.grammar.specs.Build.{built_by, build_says}
use Rattle.grammar.specs.Lookahead.{Policy}
use Rattle.grammar.specs.Relations.{relations_of}
use Rattle.grammar.specs.Useful.{useless_in}
use Rattle.tables.proofs.Says.{fill_many, fill_few}
use Rattle.tables.proofs.building.Tables.fill.Goals as goal

pub returns-then-rules-gt-MOST_RULES : goal.returns-then-rules-gt-MOST_RULES
returns-then-rules-gt-MOST_RULES g c = fill_many (g.L.Lookahead.policy c.args.look.now) c.args.rules.now (omega arith)

all_useful : (policy : Policy) (rules : List Production) → useless_in rules ≡ None → built_by policy (relations_of rules) ≡ build_says policy rules
all_useful policy rules e = sym (ap (λ o. elim o [ Some x ↦ refused (no 7 (x ∷ [])) | None ↦ built_by policy (relations_of rules) ]) e)

a_useless : (policy : Policy) (rules : List Production) (x : ℕ) → useless_in rules ≡ Some x → refused (no 7 (x ∷ [])) ≡ build_says policy rules
a_useless policy rules x e = sym (ap (λ o. elim o [ Some x ↦ refused (no 7 (x ∷ [])) | None ↦ built_by policy (relations_of rules) ]) e)

pub returns-in-Some : goal.returns-in-Some
returns-in-Some g c =
    let policy = g.L.Lookahead.policy c.args.look.now in
    a_useless policy (productions_of c.args.rules.now) c.in-Some.x (sym c.in-Some.ensures.equal) ∙ fill_few policy c.args.rules.now (omega arith)

pub returns : goal.returns
returns g c =
    let policy = g.L.Lookahead.policy c.args.look.now in
    c.construct.ensures ∙ ap (built_by policy) c.of-sets.ensures.equal ∙ all_useful policy (productions_of c.args.rules.now) (sym c.in_default.ensures.equal) ∙ fill_few policy c.args.rules.now (omega arith)
