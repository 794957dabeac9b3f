-- The answer of a read is one, and it can be worked out.
use Rattle.std.proofs.Common.{◌≡◌, ℕ, zero, suc, List, Some, Option, sym, refl, ap, ◌∙◌, subst, arith}
use Rattle.source.specs.Streams.{Token, Ending}
use Rattle.reading.specs.Trees.{StepOfNode}
use Rattle.reading.specs.Reading.{SpannedSymbol, StackedSymbol, ReadAnswer, Turned, on, halt, turn_from, Reads, stops, goes, after_turn, answer_within}
use Rattle.book.specs.Rules.{Production}
use Rattle.grammar.specs.Meaning.{Move}

module _ (rules : List Production) (start : ℕ) (next : ℕ → ℕ → ℕ) (action : ℕ → ℕ → Option Move) (ending : Ending) (cap : ℕ) where
  abbrev Rd : List StackedSymbol → List SpannedSymbol → List Token → ℕ → ℕ → List StepOfNode → ReadAnswer → Type 0
  Rd ps xs ws n pl out a = Reads rules start next action ending cap ps xs ws n pl out a

  abbrev RdAt : Turned → ReadAnswer → Type 0
  RdAt (on ps xs ws n pl out) a = Rd ps xs ws n pl out a
  RdAt (halt c) a = c ≡ a

  at_turn : {ps : List StackedSymbol} {xs : List SpannedSymbol} {ws : List Token} {n pl : ℕ} {out : List StepOfNode} {a : ReadAnswer} (m : Turned) → turn_from rules start next action ending cap ps xs ws n pl out ≡ m → RdAt m a → Rd ps xs ws n pl out a
  at_turn (on ps xs ws n pl out) e r = goes e r
  at_turn (halt c) e r = stops (e ∙ ap halt r)

  some_is : {x y : ReadAnswer} → Some x ≡ Some y → x ≡ y
  some_is e = cc

  pub answered : (k : ℕ) (ps : List StackedSymbol) (xs : List SpannedSymbol) (ws : List Token) (n pl : ℕ) (out : List StepOfNode) (a : ReadAnswer) → answer_within rules start next action ending cap k ps xs ws n pl out ≡ Some a → Rd ps xs ws n pl out a
  answered zero ps xs ws n pl out a e = absurd (let z : ◌≡◌ {A = ℕ} 0 1 = cc in omega arith)
  answered (suc k) ps xs ws n pl out a e = at_turn (turn_from rules start next action ending cap ps xs ws n pl out) refl (go (turn_from rules start next action ending cap ps xs ws n pl out) e (answered k))
    where
      go : (m : Turned) → after_turn rules start next action ending cap (answer_within rules start next action ending cap k) m ≡ Some a
          → ((ps : List StackedSymbol) (xs : List SpannedSymbol) (ws : List Token) (n pl : ℕ) (out : List StepOfNode) (a : ReadAnswer) → answer_within rules start next action ending cap k ps xs ws n pl out ≡ Some a → Rd ps xs ws n pl out a) → RdAt m a
      go (on ps xs ws n pl out) e ih = ih ps xs ws n pl out a e
      go (halt c) e ih = some_is e

  -- by a turn, what is left of a reading
  rest : {ps : List StackedSymbol} {xs : List SpannedSymbol} {ws : List Token} {n pl : ℕ} {out : List StepOfNode} {a : ReadAnswer} → Rd ps xs ws n pl out a → RdAt (turn_from rules start next action ending cap ps xs ws n pl out) a
  rest {a = a} (stops e) = subst (λ m. RdAt m a) (sym e) refl
  rest {a = a} (goes e r) = subst (λ m. RdAt m a) (sym e) r

  pub one_answer : {ps : List StackedSymbol} {xs : List SpannedSymbol} {ws : List Token} {n pl : ℕ} {out : List StepOfNode} {a c : ReadAnswer} → Rd ps xs ws n pl out a → Rd ps xs ws n pl out c → a ≡ c
  one_answer {c = c} (stops e) r = subst (λ m. RdAt m c) e (rest r)
  one_answer {c = c} (goes e q) r = one_answer q (subst (λ m. RdAt m c) e (rest r))
