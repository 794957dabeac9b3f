-- The promise of a read, after every service.
use Rattle.std.proofs.Common.{◌≡◌, ℕ, Bool, true, false, ◌&&◌, leb, List, [], ◌∷◌, length, is_some, Some, None, Option, unwrap_or, sym, refl, ap, ◌∙◌, subst}
use Rattle.std.proofs.lemmas.Bool.{false≢true, and_parts}
use Rattle.book.specs.Answers.{Answer, granted, refused, leaves}
use Rattle.book.specs.Files.{load_says}
use Rattle.book.specs.Rules.{Production, enter_says, strike_says, all_bounded, distinct}
use Rattle.book.specs.Symbols.{most_rules}
use Rattle.source.specs.Streams.{Stream, all_terminals}
use Rattle.grammar.specs.Build.{Act, build_says}
use Rattle.grammar.specs.Laws.{Lawful}
use Rattle.grammar.specs.Lookahead.{Policy}
use Rattle.reading.specs.Promise.{Kept}
use Rattle.reading.specs.Reading.{accepted, ReadAnswer, codes_of}
use Rattle.reading.proofs.Built.{build_and_read}
use Rattle.card.specs.declared.card.Card.{Card}
use Rattle.card.specs.Cards.{model_of}
use Rattle.card.specs.Models.{Model, unbuilt, built_with}
use Rattle.card.specs.Histories.{Call, calls_load, calls_enter, calls_strike, calls_build, calls_read, after}
use Rattle.card.specs.Wanting.{unread, read_of, read_on}
use Rattle.card.specs.Promises.{rules_by, Built, Grounded, Promise, PromisedWhole}

-- tells a grant from a refusal
abbrev is_grant : {A : Type 0} → Answer A → Bool
is_grant (granted x) = true
is_grant (refused n) = false

-- The rows that a service leaves are those of a build of the rules that it leaves.

unbuilt_grounded : (rules : List Production) → Grounded (unbuilt rules)
unbuilt_grounded rules rows e = absurd (false≢true (ap is_some e))

change_grounded : {B : Type 0} (says : Answer B) (f : B → List Production) (m : Model) → Grounded m → Grounded (leaves says (λ x. unbuilt (f x)) m)
change_grounded (granted x) f m g = unbuilt_grounded (f x)
change_grounded (refused n) f m g = g

build_grounded : (policy : Policy) → Lawful policy → (rules : List Production) (says : Answer (List (List Act))) → build_says policy rules ≡ says
    → Grounded (leaves says (built_with rules) (unbuilt rules))
build_grounded policy law rules (granted rows) b = λ rows' e. (policy, law, b ∙ ap (λ (o : Option (List (List Act))). granted (unwrap_or o [])) e)
build_grounded policy law rules (refused n) b = unbuilt_grounded rules

pub after_grounded : (h : List Call) → Grounded (after h)
after_grounded [] = unbuilt_grounded []
after_grounded (calls_load bytes ∷ h) = change_grounded (load_says bytes) (λ rules. rules) (after h) (after_grounded h)
after_grounded (calls_enter p ∷ h) = change_grounded (enter_says (after h).held_rules p) _ (after h) (after_grounded h)
after_grounded (calls_strike k ∷ h) = change_grounded (strike_says (after h).held_rules k) _ (after h) (after_grounded h)
after_grounded (calls_build policy law ∷ h) = build_grounded policy law (after h).held_rules (build_says policy (after h).held_rules) refl
after_grounded (calls_read s room ∷ h) = after_grounded h

-- The answer of the reader as defined keeps the promise.

same_answer : (a c : ReadAnswer) → ◌≡◌ {A = Option ReadAnswer} (Some a) (Some c) → a ≡ c
same_answer a c e = ap (λ (o : Option ReadAnswer). unwrap_or o a) e

pub promised : (h : List Call) (room : ℕ) (s : Stream) (a : ReadAnswer) → all_bounded (rules_by h) ≡ true → all_terminals s.tokens ≡ true
    → read_on (after h) room s ≡ Some a → Promise h room s a
promised h room s a bounded words says = go (after h).held_rows refl
  where
    go : (rows : Option (List (List Act))) → (after h).held_rows ≡ rows → Promise h room s a
    go None e =
        let off : Built h → ⊥ = λ b. false≢true (ap is_some (sym e) ∙ b) in
        let same = same_answer unread a (ap (λ (o : Option (List (List Act))). read_of (rules_by h) o room s) (sym e) ∙ says) in
        let unaccepted : a.read_verdict ≡ accepted → ⊥ = λ yes. false≢true (ap (λ (x : ReadAnswer). is_grant x.read_verdict) same ∙ ap is_grant yes) in
        record {
          accepts = (λ yes. absurd (unaccepted yes), λ q. absurd (off q.0));
          lists = λ yes. absurd (unaccepted yes);
          few = λ b. absurd (off b);
          defined = says;
          grounded = after_grounded h;
        }
    go (Some rows) e =
        let (policy, law, built) = after_grounded h rows e in
        let (c, answer, kept) = build_and_read (rules_by h) bounded policy law rows built s room words in
        let same = same_answer c a (sym answer ∙ ap (λ (o : Option (List (List Act))). read_of (rules_by h) o room s) (sym e) ∙ says) in
        let k = subst (Kept (rules_by h) (codes_of s.tokens) s.ending room) same kept in
        record {
          accepts = (λ yes. let q = k.accepts.0 yes in (ap is_some e, q.0, q.1, q.2), λ q. k.accepts.1 (q.1, q.2, q.3));
          lists = k.lists;
          few = λ b. k.few;
          defined = says;
          grounded = after_grounded h;
        }

-- on a card, whatever service led to where it stands
pub promised_on : (card : Card) (room : ℕ) (s : Stream) (a : ReadAnswer) → all_terminals s.tokens ≡ true → read_on (model_of card) room s ≡ Some a
    → PromisedWhole (model_of card) room s a
promised_on card room s a words says = λ h at.
    let rules = (model_of card).held_rules in
    let bounded = (and_parts (all_bounded rules) (distinct rules) (and_parts (leb (length rules) most_rules) (all_bounded rules && distinct rules) card.sound).1).0 in
    promised h room s a (subst (λ (m : Model). all_bounded m.held_rules ≡ true) at bounded) words (ap (λ (m : Model). read_on m room s) (sym at) ∙ says)
