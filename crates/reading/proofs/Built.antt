-- Every read on the rows of a granted build keeps the promise.
use Rattle.std.proofs.Common.{◌≡◌, ℕ, Bool, true, ◌↔◌, List, [], Some, refl, subst, inl, inr}
use Rattle.std.proofs.lemmas.Bool.{cases_Bool, both_ways}
use Rattle.book.specs.Rules.{Production, all_bounded}
use Rattle.grammar.specs.Sets.{has}
use Rattle.grammar.specs.Useful.{reached_in, yielding_in}
use Rattle.grammar.specs.Meaning.{rule_of, Reached, Yields, Occurs, on_left, on_right}
use Rattle.grammar.specs.Laws.{Useless, LowestUseless}
use Rattle.grammar.proofs.Meanings.{build_means, states_mean}
use Rattle.grammar.proofs.Reaching.{reached_means}
use Rattle.grammar.proofs.Yielding.{yields_means}
use Rattle.grammar.proofs.Usefulness.{useless_means}
use Rattle.reading.specs.Tables.{action_in, next_in}
use Rattle.reading.specs.Reading.{read_says}
use Rattle.reading.specs.Promise.{AllUseful}
use Rattle.reading.specs.Building.{GrantedUseful, RowsReadWell, RowsAnswer, BuildAndRead}
use Rattle.reading.proofs.Granted.{rows_faithful}
use Rattle.reading.proofs.Outcome.{reads_well}
use Rattle.reading.proofs.Answered.{answered}
use Rattle.reading.proofs.Ended.{answers_always}

-- what a test decides holds, if its failing is absurd
by_test : {P : Type 0} (t : Bool) → (t ≡ true) ↔ P → ((P → ⊥) → ⊥) → P
by_test t m n = elim (cases_Bool t) [ inl e ↦ m.0 e | inr e ↦ absurd (n (λ p. both_ways t e (m.1 p))) ]

module _ (rules : List Production) (a : all_bounded rules ≡ true) (none-useless : (x : ℕ) → Useless rules x → ⊥) where
  occurring_reached : (x : ℕ) → Occurs rules x → Reached rules x
  occurring_reached x o = by_test (has (reached_in rules) x) (reached_means rules a x) (λ n. none-useless x record { occurs = o; idle = λ r y. n r })

  occurring_yields : (x : ℕ) → Occurs rules x → Yields rules x
  occurring_yields x o = by_test (has (yielding_in rules) x) (yields_means rules a x) (λ n. none-useless x record { occurs = o; idle = λ r y. n y })

  useful_book : AllUseful rules
  useful_book = record {
    reached = λ q h. occurring_reached (rule_of rules q).lhs (on_left q h refl);
    yields = λ q h x m. occurring_yields x (on_right q h m);
  }

pub granted_useful : GrantedUseful
granted_useful rules a policy rows tm = useful_book rules a (subst (LowestUseless rules) tm.useful (useless_means rules a))

pub rows_read_well : RowsReadWell
rows_read_well rules a policy law rows tm ns s cap ans words r =
    let (T, e₁, e₂, e₃) = rows_faithful rules a policy law rows tm ns in
    reads_well rules T a (granted_useful rules a policy rows tm) s cap ans words (rw (e₁, e₂, e₃) r)

pub rows_answer : RowsAnswer
rows_answer rules a policy law rows tm ns s cap words =
    let (T, e₁, e₂, e₃) = rows_faithful rules a policy law rows tm ns in
    let (ans, e) = answers_always rules T a (granted_useful rules a policy rows tm) s cap words in
    let says : read_says rules 0 (next_in rows) (action_in rows) cap s ≡ Some ans = rw (e₁, e₂, e₃) at e in
    (ans, says, rows_read_well rules a policy law rows tm ns s cap ans words (answered rules 0 (next_in rows) (action_in rows) s.ending cap _ [] [] s.tokens 0 0 [] ans says))

pub build_and_read : BuildAndRead
build_and_read rules a policy law rows g = rows_answer rules a policy law rows ((build_means rules a policy).grants rows g) (states_mean rules a policy)
