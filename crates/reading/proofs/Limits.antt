-- A read takes no more words than there are and than it may, and writes no more steps than the list has places, whatever the tables.
use Rattle.std.proofs.Common.{◌≡◌, ℕ, ◌+◌, ◌≤◌, ltb, List, [], ◌∷◌, length, Some, None, Option, subst, arith, length-append}
use Rattle.std.proofs.lemmas.Bool.{ltb-true, cond_both}
use Rattle.book.specs.Rules.{Production}
use Rattle.source.specs.Streams.{Token, Ending, clean, fault}
use Rattle.grammar.specs.Meaning.{rule_of, Move, shifts, accepts, reduces}
use Rattle.reading.specs.Trees.{StepOfNode}
use Rattle.reading.specs.Reading.{SpannedSymbol, StackedSymbol, ReadAnswer, Turned, on, halt, covered, top_state, at_ending, acting, turn_from, Reads, stops, goes}
use Rattle.reading.specs.Promise.{Limited, KeepsLimits}

module _ (rules : List Production) (start : ℕ) (next : ℕ → ℕ → ℕ) (action : ℕ → ℕ → Option Move) (ending : Ending) (room all : ℕ) where
  -- what holds before each turn
  abbrev Held : List Token → ℕ → List StepOfNode → Type 0
  Held ws n out = (n + length ws ≡ all) × (n ≤ 1000) × (length out ≤ room)

  abbrev HeldAt : Turned → Type 0
  HeldAt (on ps xs ws n pl out) = Held ws n out
  HeldAt (halt a) = Limited all room a

  held_end : (e : Ending) (ps : List StackedSymbol) (n : ℕ) (out : List StepOfNode) → Held [] n out → HeldAt (at_ending rules start next action ending room e ps n out)
  held_end (clean at) ps n out h = h
  held_end (fault k at) ps n out h = record { words_left = omega arith; words_few = omega arith; steps_fit = h.2 }

  held_act : (m : Option Move) (ps : List StackedSymbol) (x : SpannedSymbol) (xs : List SpannedSymbol) (ws : List Token) (n pl : ℕ) (out : List StepOfNode) → Held ws n out
      → HeldAt (acting rules start next action ending room m ps x xs ws n pl out)
  held_act None ps x xs ws n pl out h = record { words_left = omega arith; words_few = omega arith; steps_fit = h.2 }
  held_act (Some shifts) ps x xs ws n pl out h = h
  held_act (Some accepts) ps x xs ws n pl out h = record { words_left = omega arith; words_few = omega arith; steps_fit = h.2 }
  held_act (Some (reduces r)) ps x xs ws n pl out h =
      let c = covered (length (rule_of rules r).rhs) ps 0 0 in
      let st : StepOfNode = record { rule_no = r; first_word = c.1; word_count = c.2 } in
      cond_both (ltb (length out) room) _ _ HeldAt
      (λ e. (h.0, h.1, let l = length-append out (st ∷ []) in let k = ltb-true (length out) room e in omega arith))
      (λ _. record { words_left = omega arith; words_few = omega arith; steps_fit = h.2 })

  held_turn : (ps : List StackedSymbol) (xs : List SpannedSymbol) (ws : List Token) (n pl : ℕ) (out : List StepOfNode) → Held ws n out → HeldAt (turn_from rules start next action ending room ps xs ws n pl out)
  held_turn ps [] [] n pl out h = held_end ending ps n out h
  held_turn ps [] (w ∷ ws) n pl out h =
      cond_both (ltb n 1000) _ _ HeldAt
      (λ e. let k = ltb-true n 1000 e in (omega arith, omega arith, h.2))
      (λ _. record { words_left = omega arith; words_few = omega arith; steps_fit = h.2 })
  held_turn ps (x ∷ xs) ws n pl out h = held_act (action (top_state start ps) x.sym_code) ps x xs ws n pl out h

  limited : {ps : List StackedSymbol} {xs : List SpannedSymbol} {ws : List Token} {n pl : ℕ} {out : List StepOfNode} {a : ReadAnswer} → Reads rules start next action ending room ps xs ws n pl out a → Held ws n out → Limited all room a
  limited (stops {ps = ps} {xs = xs} {ws = ws} {n = n} {at = pl} {out = out} e) h = subst HeldAt e (held_turn ps xs ws n pl out h)
  limited (goes {ps = ps} {xs = xs} {ws = ws} {n = n} {at = pl} {out = out} e r) h = limited r (subst HeldAt e (held_turn ps xs ws n pl out h))

pub keeps_limits : KeepsLimits
keeps_limits rules start next action s room a r = limited rules start next action s.ending room (length s.tokens) r (omega arith, omega arith, omega arith)
