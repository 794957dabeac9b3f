use Rattle.std.proofs.Common.{◌≡◌, sym, ◌∙◌}
use Rattle.book.specs.Answers.{granted}
use Rattle.book.specs.Held.{rules_of}
use Rattle.grammar.specs.Build.{build_says}
use Rattle.tables.specs.Built.{table_of}
use Rattle.card.specs.Cards.{model_of}
use Rattle.card.specs.Histories.{calls_build}
use Rattle.card.specs.Models.{unbuilt, built_with}
use Rattle.card.proofs.Filling.{fills, fill_grants, fill_leaves_none, granted_leaves, granted_belongs}
use Rattle.card.proofs.Serving.{serves}
use Rattle.card.proofs.card.Card.build.Goals as goal

pub returns-then-is_err-clause-lawful : goal.returns-then-is_err-clause-lawful
returns-then-is_err-clause-lawful g c = g.met.L.Lookahead.lawful c.args.look.now

pub returns-then-is_err-clause-service : goal.returns-then-is_err-clause-service
returns-then-is_err-clause-service g c law =
    let card = c.args.self.now in
    let policy = g.L.Lookahead.policy c.args.look.now in
    let rules = rules_of card.book in
    let rows = table_of c.fill_from-filled.new.tables in
    let says = c.fill_from-filled.ensures ∙ fills policy rules card.sound in
    let model = fill_leaves_none c.fill_from-filled.result rules rows (build_says policy rules) (sym c.is_err.ensures.value ∙ c.if-is_err.true) says in
    serves (calls_build policy law) (model_of card) (unbuilt rules) model

pub invariant_of-self-else-is_err : goal.invariant_of-self-else-is_err
invariant_of-self-else-is_err g c =
    let card = c.args.self.now in
    let policy = g.L.Lookahead.policy c.args.look.now in
    let rules = rules_of card.book in
    let tables = c.fill_from-filled.new.tables in
    let says : granted (table_of tables) ≡ build_says policy rules =
    fill_grants c.fill_from-filled.result (table_of tables) (build_says policy rules) (sym c.is_err.ensures.value ∙ c.if-is_err.false) (c.fill_from-filled.ensures ∙ fills policy rules card.sound) in
    record { sound = card.sound; belongs = granted_belongs policy (g.met.L.Lookahead.lawful c.args.look.now) card.book tables says }

pub returns-else-is_err-clause-lawful : goal.returns-else-is_err-clause-lawful
returns-else-is_err-clause-lawful g c = g.met.L.Lookahead.lawful c.args.look.now

pub returns-else-is_err-clause-service : goal.returns-else-is_err-clause-service
returns-else-is_err-clause-service g c law =
    let card = c.args.self.now in
    let policy = g.L.Lookahead.policy c.args.look.now in
    let rules = rules_of card.book in
    let rows = table_of c.fill_from-filled.new.tables in
    let made : granted rows ≡ build_says policy rules =
    fill_grants c.fill_from-filled.result rows (build_says policy rules) (sym c.is_err.ensures.value ∙ c.if-is_err.false) (c.fill_from-filled.ensures ∙ fills policy rules card.sound) in
    serves (calls_build policy law) (model_of card) (built_with rules rows) (granted_leaves rules rows (build_says policy rules) made)
