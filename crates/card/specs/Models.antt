-- A card as its callers know it, and what each call makes of it.
use Rattle.std.specs.Prelude.{ℕ, ◌-◌, List, [], ◌∷◌, ◌++◌, take, drop, Some, None, Option}
use Rattle.book.specs.Answers.{leaves}
use Rattle.book.specs.Rules.{Production, enter_says, strike_says}
use Rattle.book.specs.Files.{load_says}
use Rattle.grammar.specs.Lookahead.{Policy}
use Rattle.grammar.specs.Build.{Act, build_says}

-- the rules, and the rows of the tables if the card is built
pub record Model : Type 0 where
  pub held_rules : List Production
  pub held_rows : Option (List (List Act))

abbrev pub unbuilt : List Production → Model
unbuilt rules = record { held_rules = rules; held_rows = None }

abbrev pub built_with : List Production → List (List Act) → Model
built_with rules rows = record { held_rules = rules; held_rows = Some rows }

-- a new card
abbrev pub fresh : Model
fresh = unbuilt []

-- A granted change of the rules leaves a card that is not built; a refused one changes nothing.

abbrev pub after_enter : Model → Production → Model
after_enter m p = leaves (enter_says m.held_rules p) (λ _. unbuilt (m.held_rules ++ p ∷ [])) m

abbrev pub after_strike : Model → ℕ → Model
after_strike m k = leaves (strike_says m.held_rules k) (λ _. unbuilt (take (k - 1) m.held_rules ++ drop k m.held_rules)) m

abbrev pub after_load : Model → List ℕ → Model
after_load m bytes = leaves (load_says bytes) unbuilt m

-- A build keeps the rules, granted or refused.
abbrev pub after_build : Model → Policy → Model
after_build m policy = leaves (build_says policy m.held_rules) (built_with m.held_rules) (unbuilt m.held_rules)
