-- Every policy here says yes to each leftmost follower of a rule's left side.
use Rattle.std.specs.Prelude.{◌≡◌, ℕ, ◌<◌, Bool, true, false, List}
use Rattle.std.proofs.Common.{arith}
use Rattle.book.specs.Rules.{Production, all_bounded}
use Rattle.grammar.specs.Sets.{symbol_count}
use Rattle.grammar.specs.Relations.{Relations, relations_of}
use Rattle.grammar.specs.Items.{reads, complete_in}
use Rattle.grammar.specs.Lookahead.{Policy, Look, slr, leftmost_follow, conflicting, slr_if_adequate}
use Rattle.grammar.specs.Meaning.{rule_of, InBook, itself}
use Rattle.grammar.specs.Laws.{Lawful, PoliciesLawful}
use Rattle.grammar.specs.Bounded.{left_in}
use Rattle.grammar.specs.Followers.{leftmost_followers_mean, followers_mean}

left_code : (rules : List Production) → all_bounded rules ≡ true → (r : ℕ) → InBook rules r → (rule_of rules r).lhs < symbol_count
left_code rules a r b = omega (arith, (left_in rules a r b).1)

pub leftmost_follow_lawful : Lawful leftmost_follow
leftmost_follow_lawful rules a items r y b f = (leftmost_followers_mean rules a (rule_of rules r).lhs y (left_code rules a r b)).1 f

-- a leftmost follower is a follower, as its own left corner
pub slr_lawful : Lawful slr
slr_lawful rules a items r y b f = (followers_mean rules a (rule_of rules r).lhs y (left_code rules a r b)).1 (record { leftmost = y; follows = f; corner = itself })

-- one of two lawful answers, whichever way a test goes
either_says : (t : Bool) (one other : Look) (r y : ℕ) → one r y ≡ true → other r y ≡ true → elim t as (λ _. Look) [ true ↦ one | false ↦ other ] r y ≡ true
either_says true one other r y p q = p
either_says false one other r y p q = q

pub slr_if_adequate_lawful : (below : Policy) → Lawful below → Lawful (slr_if_adequate below)
slr_if_adequate_lawful below lawful rules a items r y b f =
    let rel : Relations = relations_of rules in
    either_says (conflicting (slr rel items) (reads rel.lines items) (complete_in rel.lines items)) (below rel items) (slr rel items) r y
    (lawful rules a items r y b f) (slr_lawful rules a items r y b f)

pub policies_lawful : PoliciesLawful
policies_lawful = (slr_lawful, leftmost_follow_lawful, slr_if_adequate_lawful)
