-- What holds at each turn of a read on the rows of a build.
use Rattle.std.proofs.Common.{◌≡◌, ℕ, suc, ◌+◌, ◌-◌, ◌*◌, ◌≤◌, true, List, [], ◌∷◌, length, drop, Some, None, Option, sym, refl, ap, ◌∙◌, subst, inl, inr, arith, drop-drop}
use mathlib.Core.HLevel.{⊥_prop}
use mathlib.Core.Logic.{∥∥₁_elim, ∥∥₁_map}
use Rattle.std.proofs.lemmas.Bool.{cases_lt, and_from}
use Rattle.book.specs.Answers.{granted}
use Rattle.book.specs.declared.rules.Rule.{Rule}
use Rattle.book.specs.Held.{productions_of}
use Rattle.book.specs.Rules.{Production, all_bounded}
use Rattle.source.specs.Streams.{Token, Stream, all_terminals}
use Rattle.grammar.specs.Build.{Act, build_says}
use Rattle.grammar.specs.Laws.{Lawful}
use Rattle.grammar.specs.Lookahead.{Policy}
use Rattle.grammar.specs.Meaning.{rule_of, InBook, reduces}
use Rattle.grammar.proofs.Meanings.{build_means, states_mean}
use Rattle.reading.specs.Trees.{Forest, labels, StepOfNode, widths_of}
use Rattle.reading.specs.Reader.{Pile, base, push, stack_width}
use Rattle.reading.specs.Tables.{Faithful, next_in, action_in}
use Rattle.reading.specs.Reading.{SpannedSymbol, StackedSymbol, ReadAnswer, codes_of, Turned, on, halt, top_state, turn_from, Reads, stops, goes, read_says}
use Rattle.reading.specs.Promise.{AllUseful, Kept}
use Rattle.reading.specs.Building.{Belonging}
use Rattle.reading.specs.Held.{words_under}
use Rattle.reading.specs.Told.{Ready}
use Rattle.reading.proofs.Basics.{right_some}
use Rattle.reading.proofs.Stacks.{Kids, k_none, k_more}
use Rattle.reading.proofs.Stepping.{Popped, popped}
use Rattle.reading.proofs.Spans.{places, top_places}
use Rattle.reading.proofs.Outcome.{terminals_all}
use Rattle.reading.proofs.Live.{Live, live_start, live_move, live_room, live_few}
use Rattle.reading.proofs.Answered.{answered, one_answer}
use Rattle.reading.proofs.Ended.{unmarked, Enough, EnoughAt, less}
use Rattle.reading.proofs.Granted.{rows_faithful}
use Rattle.reading.proofs.Built.{granted_useful, build_and_read}

-- every rule of the code keeps the bounds
pub rules_bounded : (rs : List Rule) → all_bounded (productions_of rs) ≡ true
rules_bounded [] = refl
rules_bounded (r ∷ rs) = and_from _ _ r.bounded (rules_bounded rs)

-- an order of numbers by something that exists
by_some : {A : Type 0} (m n : ℕ) → ∥ A ∥₁ → (A → m ≤ n) → m ≤ n
by_some m n t f = elim (cases_lt n m) [ inl h ↦ absurd (∥∥₁_elim t ⊥_prop (λ a. let k = f a in omega arith)) | inr h ↦ h ]

under_places : (rules : List Production) (σ : Pile) → words_under (places rules σ) ≡ stack_width σ
under_places rules base = refl
under_places rules (push σ t s) = let h = under_places rules σ in omega arith

places_kids : (rules : List Production) {ks : Forest} {σ₀ σ : Pile} → Kids ks σ₀ σ → length (places rules σ₀) ≤ length (places rules σ)
places_kids rules k_none = omega arith
places_kids rules (k_more k) = let h = places_kids rules k in omega arith

kids_some : (rules : List Production) → all_bounded rules ≡ true → (r : ℕ) → InBook rules r → {ks : Forest} {σ₀ σ : Pile} → Kids ks σ₀ σ → labels rules ks ≡ (rule_of rules r).rhs → 1 ≤ length (places rules σ)
kids_some rules a r h k_none e = absurd (right_some rules a r h (sym e))
kids_some rules a r h (k_more k) e = let g = places_kids rules k in omega arith

-- what is the same from p on is the same further on
pub drop_on : {X : Type 0} (xs ys : List X) (p q : ℕ) → p ≤ q → drop p xs ≡ drop p ys → drop q xs ≡ drop q ys
drop_on xs ys p q h e =
    let w : p + (q - p) ≡ q = omega arith in
    sym (ap (λ k. drop k xs) w) ∙ sym (drop-drop (q - p) p xs) ∙ ap (drop (q - p)) e ∙ drop-drop (q - p) p ys ∙ ap (λ k. drop k ys) w

-- what is left to be done
abbrev pub left_over : List SpannedSymbol → List Token → ℕ → List StepOfNode → ℕ
left_over xs ws n out = (length xs + 160 * (n + length ws) + 2 * length ws + unmarked xs + 1) - 2 * length out

module _ (rules : List Production) (rows : List (List Act)) (cap : ℕ) (s : Stream) where
  abbrev turns : List StackedSymbol → List SpannedSymbol → List Token → ℕ → ℕ → List StepOfNode → Turned
  turns ps xs ws n pl out = turn_from rules 0 (next_in rows) (action_in rows) s.ending cap ps xs ws n pl out

  abbrev Rd : List StackedSymbol → List SpannedSymbol → List Token → ℕ → ℕ → List StepOfNode → ReadAnswer → Type 0
  Rd ps xs ws n pl out a = Reads rules 0 (next_in rows) (action_in rows) s.ending cap ps xs ws n pl out a

  pub record Alive (ps : List StackedSymbol) (xs : List SpannedSymbol) (ws : List Token) (n pl : ℕ) (out : List StepOfNode) : Type 0 where
    pub T : Faithful rules
    pub bounded : all_bounded rules ≡ true
    pub useful : AllUseful rules
    pub at_start : T.start_state ≡ 0
    pub at_next : T.next_state ≡ next_in rows
    pub at_action : T.action_at ≡ action_in rows
    pub live : Live rules T bounded s.ending cap s.tokens ps xs ws n pl out

  alive_start : all_bounded rules ≡ true → (policy : Policy) → Lawful policy → build_says policy rules ≡ granted rows → all_terminals s.tokens ≡ true → Alive [] [] s.tokens 0 0 []
  alive_start a policy law g words =
      let tm = (build_means rules a policy).grants rows g in
      let (T, e₁, e₂, e₃) = rows_faithful rules a policy law rows tm (states_mean rules a policy) in
      record { T = T; bounded = a; useful = granted_useful rules a policy rows tm; at_start = e₁; at_next = e₂; at_action = e₃; live = live_start rules T a s.ending cap s.tokens (terminals_all s.tokens words) }

  module _ {ps : List StackedSymbol} {xs : List SpannedSymbol} {ws : List Token} {n pl : ℕ} {out : List StepOfNode} (A : Alive ps xs ws n pl out) where
    same_turn : turn_from rules A.T.start_state A.T.next_state A.T.action_at s.ending cap ps xs ws n pl out ≡ turns ps xs ws n pl out
    same_turn =
        ap (λ z. turn_from rules z A.T.next_state A.T.action_at s.ending cap ps xs ws n pl out) A.at_start
        ∙ ap (λ f. turn_from rules 0 f A.T.action_at s.ending cap ps xs ws n pl out) A.at_next
        ∙ ap (λ f. turn_from rules 0 (next_in rows) f s.ending cap ps xs ws n pl out) A.at_action

    alive_move : {ps' : List StackedSymbol} {xs' : List SpannedSymbol} {ws' : List Token} {n' pl' : ℕ} {out' : List StepOfNode} → turns ps xs ws n pl out ≡ on ps' xs' ws' n' pl' out' → Alive ps' xs' ws' n' pl' out'
    alive_move e = record {
      T = A.T;
      bounded = A.bounded;
      useful = A.useful;
      at_start = A.at_start;
      at_next = A.at_next;
      at_action = A.at_action;
      live = live_move rules A.T A.bounded s.ending cap s.tokens A.live (same_turn ∙ e);
    }

    alive_falls : {ps' : List StackedSymbol} {xs' : List SpannedSymbol} {ws' : List Token} {n' pl' : ℕ} {out' : List StepOfNode} → turns ps xs ws n pl out ≡ on ps' xs' ws' n' pl' out' → suc (left_over xs' ws' n' out') ≤ left_over xs ws n out
    alive_falls {xs' = xs'} {ws' = ws'} {n' = n'} {out' = out'} e =
        let f = live_few rules A.T A.bounded s.ending cap s.tokens A.useful A.live in
        let k = left_over xs ws n out - 1 in
        let h : Enough (suc k) xs ws n out = omega arith in
        let g : Enough k xs' ws' n' out' = subst (EnoughAt k) (same_turn ∙ e) (less rules A.T A.bounded A.useful s.ending cap s.tokens k ps xs ws n pl out A.live h) in
        omega arith

    alive_under : words_under ps ≤ 1000
    alive_under =
        let L = A.live in
        let e : words_under ps ≡ stack_width L.σ = ap words_under L.shows.is_ps ∙ under_places rules L.σ in
        let m : n ≡ stack_width L.σ + widths_of L.shows.π = L.shows.is_n in
        let few = (live_room rules A.T A.bounded s.ending cap s.tokens L).1 in
        omega arith

    alive_stacked : (x r : ℕ) → action_in rows (top_state 0 ps) x ≡ Some (reduces r) → 1 ≤ length ps
    alive_stacked x r e =
        let L = A.live in
        let t : top_state A.T.start_state ps ≡ _ = ap (top_state A.T.start_state) L.shows.is_ps ∙ top_places rules A.T.start_state L.σ in
        let q : A.T.action_at (top_state A.T.start_state ps) x ≡ Some (reduces r) = ap (λ f. f (top_state A.T.start_state ps) x) A.at_action ∙ ap (λ z. action_in rows (top_state z ps) x) A.at_start ∙ e in
        let P : Popped rules A.T L.σ r = popped rules A.T L.sane.linked (ap (λ z. A.T.action_at z x) (sym t) ∙ q) in
        let k = kids_some rules A.bounded r P.book P.kids P.fits in
        let l : length ps ≡ length (places rules L.σ) = ap length L.shows.is_ps in
        omega arith

  -- the read goes on from here, and what it then answers is its answer
  pub record Going (ps : List StackedSymbol) (xs : List SpannedSymbol) (ws : List Token) (n pl : ℕ) (out : List StepOfNode) : Type 0 where
    pub alive : ∥ Alive ps xs ws n pl out ∥₁
    pub whole : (a : ReadAnswer) → Rd ps xs ws n pl out a → Rd [] [] s.tokens 0 0 [] a

  pub going_start : all_bounded rules ≡ true → Belonging rules rows → all_terminals s.tokens ≡ true → Going [] [] s.tokens 0 0 []
  going_start a b words = record { alive = ∥∥₁_map b (λ w. alive_start a w.0 w.1 w.2 words); whole = λ c r. r }

  module _ {ps : List StackedSymbol} {xs : List SpannedSymbol} {ws : List Token} {n pl : ℕ} {out : List StepOfNode} (G : Going ps xs ws n pl out) where
    pub going_on : {ps' : List StackedSymbol} {xs' : List SpannedSymbol} {ws' : List Token} {n' pl' : ℕ} {out' : List StepOfNode} → turns ps xs ws n pl out ≡ on ps' xs' ws' n' pl' out' → Going ps' xs' ws' n' pl' out'
    going_on e = record { alive = ∥∥₁_map G.alive (λ A. alive_move A e); whole = λ a r. G.whole a (goes e r) }

    pub going_falls : {ps' : List StackedSymbol} {xs' : List SpannedSymbol} {ws' : List Token} {n' pl' : ℕ} {out' : List StepOfNode} → turns ps xs ws n pl out ≡ on ps' xs' ws' n' pl' out' → suc (left_over xs' ws' n' out') ≤ left_over xs ws n out
    going_falls e = by_some _ _ G.alive (λ A. alive_falls A e)

    pub going_ready : Ready rows ps xs n
    going_ready = record {
      held = by_some _ _ G.alive (λ A. let (h, k) = live_room rules A.T A.bounded s.ending cap s.tokens A.live in omega arith);
      under = by_some _ _ G.alive alive_under;
      few = by_some _ _ G.alive (λ A. (live_room rules A.T A.bounded s.ending cap s.tokens A.live).1);
      stacked_some = λ x r e. by_some _ _ G.alive (λ A. alive_stacked A x r e);
    }

    pub going_ends : (a : ReadAnswer) → turns ps xs ws n pl out ≡ halt a → Rd [] [] s.tokens 0 0 [] a
    going_ends a e = G.whole a (stops e)

  -- what a read ends with is what it says, and keeps the promise
  module _ (a : all_bounded rules ≡ true) (b : Belonging rules rows) (words : all_terminals s.tokens ≡ true) (c : ReadAnswer) (r : Rd [] [] s.tokens 0 0 [] c) where
    abbrev said : Option ReadAnswer
    said = read_says rules 0 (next_in rows) (action_in rows) cap s

    same_answer : (d : ReadAnswer) → said ≡ Some d → d ≡ c
    same_answer d e = one_answer rules 0 (next_in rows) (action_in rows) s.ending cap (answered rules 0 (next_in rows) (action_in rows) s.ending cap _ [] [] s.tokens 0 0 [] d e) r

    pub says_answer : said ≡ Some c
    says_answer = go said refl
      where
        go : (o : Option ReadAnswer) → said ≡ o → said ≡ Some c
        go None e = absurd (∥∥₁_elim b ⊥_prop (λ w. let (d, f, k) = build_and_read rules a w.0 w.1 rows w.2 s cap words in let z : ◌≡◌ {A = ℕ} 0 1 = cc in omega arith))
        go (Some d) e = e ∙ ap Some (same_answer d e)

    pub keeps_promise : ∥ Kept rules (codes_of s.tokens) s.ending cap c ∥₁
    keeps_promise = ∥∥₁_map b (λ w. let (d, f, k) = build_and_read rules a w.0 w.1 rows w.2 s cap words in subst (Kept rules (codes_of s.tokens) s.ending cap) (same_answer d f) k)
