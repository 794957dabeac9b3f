-- Every card stands where some service leads: load the file of its rules, and build if it is built.
use Rattle.std.proofs.Common.{◌≡◌, true, List, [], ◌∷◌, Some, None, Option, sym, refl, ap, ◌∙◌}
use Rattle.std.specs.Option.{option_map}
use mathlib.Core.Logic.{∥∥₁_map}
use Rattle.book.specs.Answers.{Answer, leaves}
use Rattle.book.specs.Files.{file_of}
use Rattle.book.specs.Held.{rules_of}
use Rattle.book.specs.Rules.{Production, is_well_formed}
use Rattle.book.proofs.RoundTrip.{saved_loads}
use Rattle.grammar.specs.Build.{Act}
use Rattle.tables.specs.declared.building.Tables.{Tables}
use Rattle.tables.specs.Built.{table_of}
use Rattle.card.specs.declared.card.Card.{Card}
use Rattle.card.specs.Cards.{model_of}
use Rattle.card.specs.Models.{Model, unbuilt, built_with, fresh, after_build}
use Rattle.card.specs.Histories.{calls_load, calls_build, after, Stood}

by_file : (rules : List Production) → is_well_formed rules ≡ true → after (calls_load (file_of rules) ∷ []) ≡ unbuilt rules
by_file rules w = ap (λ (a : Answer (List Production)). leaves a unbuilt fresh) (saved_loads rules w)

pub stands : (card : Card) → Stood (model_of card)
stands card = go card.tables refl
  where
    rules : List Production
    rules = rules_of card.book

    standing : Option Tables → Model
    standing o = record { held_rules = rules; held_rows = option_map table_of o }

    go : (o : Option Tables) → card.tables ≡ o → Stood (model_of card)
    go None e = ∣ (calls_load (file_of rules) ∷ [], ap standing e ∙ sym (by_file rules card.sound)) ∣₁
    go (Some t) e = ∥∥₁_map (card.belongs t e) (λ w. (
      calls_build w.0 w.1 ∷ calls_load (file_of rules) ∷ [],
      ap standing e
          ∙ sym (ap (λ (a : Answer (List (List Act))). leaves a (built_with rules) (unbuilt rules)) w.2)
          ∙ sym (ap (λ (m : Model). after_build m w.0) (by_file rules card.sound)),
    ))
