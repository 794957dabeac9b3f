-- The reader with its limits: symbols with the words that they cover, at most so many words, a list of `cap` places for the steps.
use Rattle.std.specs.Prelude.{◌≡◌, ℕ, zero, suc, ◌+◌, ◌*◌, cond, List, [], ◌∷◌, ◌++◌, length, Some, None, Option, nat_lt}
use Rattle.book.specs.Answers.{Answer, granted, refused, no}
use Rattle.book.specs.Rules.{Production}
use Rattle.source.specs.Streams.{Token, Stream, Ending, clean, fault}
use Rattle.grammar.specs.Meaning.{rule_of, Move, shifts, accepts, reduces}
use Rattle.reading.specs.Trees.{StepOfNode}

-- how many words a read takes at the most
abbrev pub most_words : ℕ
most_words = 1000

-- a symbol, with how many words stand left of it and how many it covers
pub record SpannedSymbol : Type 0 where
  pub sym_code : ℕ
  pub first_word : ℕ
  pub word_count : ℕ

-- a stacked symbol, with the state above it
pub record StackedSymbol : Type 0 where
  pub spanned : SpannedSymbol
  pub state_above : ℕ

-- accepted, or refused with 11 (a fault, by its number and its place), 12, 13 or 14
abbrev pub ReadingVerdict : Type 0
ReadingVerdict = Answer (Unit {0})

-- the verdict of a read that ends with a tree
abbrev pub accepted : ReadingVerdict
accepted = granted tt

-- what a read answers: the verdict, how many words were taken, the place of the last word or ending taken, and the steps written
pub record ReadAnswer : Type 0 where
  pub read_verdict : ReadingVerdict
  pub words_taken : ℕ
  pub place_taken : ℕ
  pub steps_written : List StepOfNode

-- what a turn leads to: the stack and the pending symbols (top first), the words left, how many were taken and the place of the last, and the steps
-- written; or the answer
pub data Turned : Type 0 where
  on : List StackedSymbol → List SpannedSymbol → List Token → ℕ → ℕ → List StepOfNode → Turned
  halt : ReadAnswer → Turned

-- unstacks k symbols; the first and the number of the words that they cover
abbrev pub covered : ℕ → List StackedSymbol → ℕ → ℕ → List StackedSymbol × ℕ × ℕ
covered zero ps f w = (ps, f, w)
covered (suc k) [] f w = ([], f, w)
covered (suc k) (p ∷ ps) f w = covered k ps p.spanned.first_word (p.spanned.word_count + w)

-- the state on top, where s₀ is that of the empty stack
abbrev pub top_state : ℕ → List StackedSymbol → ℕ
top_state s₀ [] = s₀
top_state s₀ (p ∷ ps) = p.state_above

-- the codes of words
abbrev pub codes_of : List Token → List ℕ
codes_of [] = []
codes_of (w ∷ ws) = w.symbol ∷ codes_of ws

module _ (rules : List Production) (start : ℕ) (next : ℕ → ℕ → ℕ) (action : ℕ → ℕ → Option Move) (ending : Ending) (cap : ℕ) where
  -- a clean ending counts as the symbol 0, a fault is refused
  abbrev pub at_ending : Ending → List StackedSymbol → ℕ → List StepOfNode → Turned
  at_ending (clean at) ps n out = on ps (record { sym_code = 0; first_word = n; word_count = 0 } ∷ []) [] n at out
  at_ending (fault k at) ps n out = halt (record { read_verdict = refused (no 11 (k ∷ at ∷ [])); words_taken = n; place_taken = at; steps_written = out })

  -- what an action does at the symbol x
  abbrev pub acting : Option Move → List StackedSymbol → SpannedSymbol → List SpannedSymbol → List Token → ℕ → ℕ → List StepOfNode → Turned
  acting None ps x xs ws n at out = halt (record { read_verdict = refused (no 13 []); words_taken = n; place_taken = at; steps_written = out })
  acting (Some shifts) ps x xs ws n at out = on (record { spanned = x; state_above = next (top_state start ps) x.sym_code } ∷ ps) xs ws n at out
  acting (Some accepts) ps x xs ws n at out = halt (record { read_verdict = accepted; words_taken = n; place_taken = at; steps_written = out })
  acting (Some (reduces r)) ps x xs ws n at out =
      let c = covered (length (rule_of rules r).rhs) ps 0 0 in
      cond (nat_lt (length out) cap)
      (on c.0 (record { sym_code = (rule_of rules r).lhs; first_word = c.1; word_count = c.2 } ∷ x ∷ xs) ws n at (out ++ (record { rule_no = r; first_word = c.1; word_count = c.2 } ∷ [])))
      (halt (record { read_verdict = refused (no 14 []); words_taken = n; place_taken = at; steps_written = out }))

  -- one turn: with no symbol pending a word or the ending is taken, otherwise the action of the top state at the next symbol is done
  abbrev pub turn_from : List StackedSymbol → List SpannedSymbol → List Token → ℕ → ℕ → List StepOfNode → Turned
  turn_from ps [] [] n at out = at_ending ending ps n out
  turn_from ps [] (w ∷ ws) n at out =
      cond (nat_lt n most_words) (on ps (record { sym_code = w.symbol; first_word = n; word_count = 1 } ∷ []) ws (n + 1) w.position out)
      (halt (record { read_verdict = refused (no 12 []); words_taken = n + 1; place_taken = w.position; steps_written = out }))
  turn_from ps (x ∷ xs) ws n at out = acting (action (top_state start ps) x.sym_code) ps x xs ws n at out

  -- the turns from here on end with the answer
  pub data Reads : List StackedSymbol → List SpannedSymbol → List Token → ℕ → ℕ → List StepOfNode → ReadAnswer → Type 0 where
    stops : {ps : List StackedSymbol} {xs : List SpannedSymbol} {ws : List Token} {n at : ℕ} {out : List StepOfNode} {a : ReadAnswer} → turn_from ps xs ws n at out ≡ halt a → Reads ps xs ws n at out a
    goes : {ps ps' : List StackedSymbol} {xs xs' : List SpannedSymbol} {ws ws' : List Token} {n n' at at' : ℕ} {out out' : List StepOfNode} {a : ReadAnswer}
        → turn_from ps xs ws n at out ≡ on ps' xs' ws' n' at' out' → Reads ps' xs' ws' n' at' out' a → Reads ps xs ws n at out a

  -- the answer from what a turn leads to
  abbrev pub after_turn : (List StackedSymbol → List SpannedSymbol → List Token → ℕ → ℕ → List StepOfNode → Option ReadAnswer) → Turned → Option ReadAnswer
  after_turn go_on (on ps xs ws n at out) = go_on ps xs ws n at out
  after_turn go_on (halt a) = Some a

  -- the answer after at most k turns
  abbrev pub answer_within : ℕ → List StackedSymbol → List SpannedSymbol → List Token → ℕ → ℕ → List StepOfNode → Option ReadAnswer
  answer_within zero ps xs ws n at out = None
  answer_within (suc k) ps xs ws n at out = after_turn (answer_within k) (turn_from ps xs ws n at out)

-- the turns that are enough for so many words
abbrev pub enough_turns : ℕ → ℕ
enough_turns words = 162 * words + 3

-- what a read of a stream says
abbrev pub read_says : List Production → ℕ → (ℕ → ℕ → ℕ) → (ℕ → ℕ → Option Move) → ℕ → Stream → Option ReadAnswer
read_says rules start next action cap s = answer_within rules start next action s.ending cap (enough_turns (length s.tokens)) [] [] s.tokens 0 0 []
