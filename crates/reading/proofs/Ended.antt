-- Every read ends: each turn lessens what is left to be done.
use Rattle.std.proofs.Common.{◌≡◌, ℕ, zero, suc, ◌+◌, ◌*◌, ◌≤◌, true, cond, eqb, ltb, List, [], ◌∷◌, ◌++◌, length, Some, None, Option, sym, refl, ap, ◌∙◌, arith, length-append}
use Rattle.std.proofs.lemmas.Bool.{eqb-true, cond_both}
use Rattle.book.specs.Rules.{Production, all_bounded}
use Rattle.source.specs.Streams.{Token, Ending, clean, fault}
use Rattle.grammar.specs.Meaning.{rule_of, Move, shifts, accepts, reduces}
use Rattle.reading.specs.Trees.{StepOfNode}
use Rattle.reading.specs.Tables.{Faithful}
use Rattle.reading.specs.Reading.{SpannedSymbol, StackedSymbol, ReadAnswer, Turned, on, halt, covered, top_state, at_ending, acting, turn_from, after_turn, answer_within}
use Rattle.reading.specs.Promise.{AllUseful, AnswersAlways}
use Rattle.reading.proofs.Stepping.{by_chosen}
use Rattle.reading.proofs.Sound.{reads_some}
use Rattle.reading.proofs.Spans.{top_places}
use Rattle.reading.proofs.Live.{Live, live_start, live_move, live_few}
use Rattle.reading.proofs.Outcome.{terminals_all}

-- 2 while the end mark is not pending
abbrev pub unmarked : List SpannedSymbol → ℕ
unmarked [] = 2
unmarked (x ∷ xs) = cond (eqb x.sym_code 0) 0 (unmarked xs)

unmarked_few : (xs : List SpannedSymbol) → unmarked xs ≤ 2
unmarked_few [] = omega arith
unmarked_few (x ∷ xs) = cond_both (eqb x.sym_code 0) 0 (unmarked xs) (λ m. m ≤ 2) (λ _. omega arith) (λ _. unmarked_few xs)

unmarked_more : (x : SpannedSymbol) (xs : List SpannedSymbol) → unmarked (x ∷ xs) ≤ unmarked xs
unmarked_more x xs = cond_both (eqb x.sym_code 0) 0 (unmarked xs) (λ m. m ≤ unmarked xs) (λ _. omega arith) (λ _. omega arith)

unmarked_less : (x : SpannedSymbol) (xs : List SpannedSymbol) → 1 ≤ x.sym_code → unmarked xs ≤ unmarked (x ∷ xs)
unmarked_less x xs h = cond_both (eqb x.sym_code 0) 0 (unmarked xs) (λ m. unmarked xs ≤ m) (λ e. let z = eqb-true x.sym_code 0 e in absurd (omega arith)) (λ _. omega arith)

-- what is left to be done, and the turns that are enough for it
abbrev pub Enough : ℕ → List SpannedSymbol → List Token → ℕ → List StepOfNode → Type 0
Enough k xs ws n out = length xs + 160 * (n + length ws) + 2 * length ws + unmarked xs + 1 ≤ k + 2 * length out

abbrev pub EnoughAt : ℕ → Turned → Type 0
EnoughAt k (on ps xs ws n pl out) = Enough k xs ws n out
EnoughAt k (halt a) = Unit {0}

module _ (rules : List Production) (T : Faithful rules) (bounded : all_bounded rules ≡ true) (useful : AllUseful rules) (ending : Ending) (cap : ℕ) (toks : List Token) where
  open T use {start_state, next_state, action_at}

  abbrev Lv : List StackedSymbol → List SpannedSymbol → List Token → ℕ → ℕ → List StepOfNode → Type 0
  Lv ps xs ws n pl out = Live rules T bounded ending cap toks ps xs ws n pl out

  abbrev turn : List StackedSymbol → List SpannedSymbol → List Token → ℕ → ℕ → List StepOfNode → Turned
  turn ps xs ws n pl out = turn_from rules start_state next_state action_at ending cap ps xs ws n pl out

  -- the end mark is never shifted
  shifted_some : {ps : List StackedSymbol} {xs : List SpannedSymbol} {ws : List Token} {n pl : ℕ} {out : List StepOfNode} (x : ℕ) → Lv ps xs ws n pl out → action_at (top_state start_state ps) x ≡ Some shifts → 1 ≤ x
  shifted_some {ps} x L e =
      let t : top_state start_state ps ≡ _ = ap (top_state start_state) L.shows.is_ps ∙ top_places rules start_state L.σ in
      reads_some rules T bounded L.σ L.sane.linked (by_chosen rules T (ap (λ s. action_at s x) (sym t) ∙ e))

  less_end : (k : ℕ) (e : Ending) (ps : List StackedSymbol) (n : ℕ) (out : List StepOfNode) → Enough (suc k) [] [] n out → EnoughAt k (at_ending rules start_state next_state action_at ending cap e ps n out)
  less_end k (clean at) ps n out h = omega arith
  less_end k (fault f at) ps n out h = tt

  less_act : (k : ℕ) (m : Option Move) (ps : List StackedSymbol) (x : SpannedSymbol) (xs : List SpannedSymbol) (ws : List Token) (n pl : ℕ) (out : List StepOfNode) → Enough (suc k) (x ∷ xs) ws n out
      → (m ≡ Some shifts → 1 ≤ x.sym_code) → EnoughAt k (acting rules start_state next_state action_at ending cap m ps x xs ws n pl out)
  less_act k None ps x xs ws n pl out h s = tt
  less_act k (Some shifts) ps x xs ws n pl out h s = let u = unmarked_less x xs (s refl) in omega arith
  less_act k (Some accepts) ps x xs ws n pl out h s = tt
  less_act k (Some (reduces r)) ps x xs ws n pl out h s = cond_both (ltb (length out) cap) _ _ (EnoughAt k) (λ _. written) (λ _. tt)
    where
      c : List StackedSymbol × ℕ × ℕ
      c = covered (length (rule_of rules r).rhs) ps 0 0

      x₀ : SpannedSymbol
      x₀ = record { sym_code = (rule_of rules r).lhs; first_word = c.1; word_count = c.2 }

      st : StepOfNode
      st = record { rule_no = r; first_word = c.1; word_count = c.2 }

      written : Enough k (x₀ ∷ x ∷ xs) ws n (out ++ (st ∷ []))
      written = let u = unmarked_more x₀ (x ∷ xs) in let l = length-append out (st ∷ []) in omega arith

  pub less : (k : ℕ) (ps : List StackedSymbol) (xs : List SpannedSymbol) (ws : List Token) (n pl : ℕ) (out : List StepOfNode) → Lv ps xs ws n pl out → Enough (suc k) xs ws n out → EnoughAt k (turn ps xs ws n pl out)
  less k ps [] [] n pl out L h = less_end k ending ps n out h
  less k ps [] (w ∷ ws) n pl out L h = cond_both (ltb n 1000) _ _ (EnoughAt k) (λ _. let u = unmarked_few (record { sym_code = w.symbol; first_word = n; word_count = 1 } ∷ []) in omega arith) (λ _. tt)
  less k ps (x ∷ xs) ws n pl out L h = less_act k (action_at (top_state start_state ps) x.sym_code) ps x xs ws n pl out h (shifted_some x.sym_code L)

  abbrev Answered : ℕ → Turned → Type 0
  Answered k t = (a : ReadAnswer) × (after_turn rules start_state next_state action_at ending cap (answer_within rules start_state next_state action_at ending cap k) t ≡ Some a)

  ended : (k : ℕ) (ps : List StackedSymbol) (xs : List SpannedSymbol) (ws : List Token) (n pl : ℕ) (out : List StepOfNode) → Lv ps xs ws n pl out → Enough k xs ws n out
      → (a : ReadAnswer) × (answer_within rules start_state next_state action_at ending cap k ps xs ws n pl out ≡ Some a)
  ended zero ps xs ws n pl out L h = let f = live_few rules T bounded ending cap toks useful L in absurd (omega arith)
  ended (suc k) ps xs ws n pl out L h = go (turn ps xs ws n pl out) refl (less k ps xs ws n pl out L h) (ended k)
    where
      go : (t : Turned) → turn ps xs ws n pl out ≡ t → EnoughAt k t
          → ((ps : List StackedSymbol) (xs : List SpannedSymbol) (ws : List Token) (n pl : ℕ) (out : List StepOfNode) → Lv ps xs ws n pl out → Enough k xs ws n out
          → (a : ReadAnswer) × (answer_within rules start_state next_state action_at ending cap k ps xs ws n pl out ≡ Some a))
          → Answered k t
      go (on ps' xs' ws' n' pl' out') e l ih = ih ps' xs' ws' n' pl' out' (live_move rules T bounded ending cap toks L e) l
      go (halt a) e l ih = (a, refl)

pub answers_always : AnswersAlways
answers_always rules T bounded useful s cap words =
    ended rules T bounded useful s.ending cap s.tokens _ [] [] s.tokens 0 0 [] (live_start rules T bounded s.ending cap s.tokens (terminals_all s.tokens words)) (omega arith)
