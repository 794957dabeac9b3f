-- What a card's service has led to, worked out from its calls alone.
use Rattle.std.specs.Prelude.{◌≡◌, ℕ, List, [], ◌∷◌, Some}
use Rattle.book.specs.Rules.{Production}
use Rattle.source.specs.Streams.{Stream}
use Rattle.grammar.specs.Laws.{Lawful}
use Rattle.grammar.specs.Lookahead.{Policy}
use Rattle.reading.specs.Reading.{ReadAnswer}
use Rattle.card.specs.Models.{Model, fresh, after_enter, after_strike, after_load, after_build}
use Rattle.card.specs.Wanting.{read_on, KeptOn}

-- a call with its arguments, granted or refused
pub data Call : Type 0 where
  calls_load : List ℕ → Call
  calls_enter : Production → Call
  calls_strike : ℕ → Call
  calls_build : (policy : Policy) → Lawful policy → Call
  calls_read : Stream → ℕ → Call

abbrev pub step_of : Call → Model → Model
step_of (calls_load bytes) m = after_load m bytes
step_of (calls_enter p) m = after_enter m p
step_of (calls_strike k) m = after_strike m k
step_of (calls_build policy law) m = after_build m policy
step_of (calls_read s room) m = m

-- where the calls lead, the latest first
abbrev pub after : List Call → Model
after [] = fresh
after (call ∷ earlier) = step_of call (after earlier)

-- a card that stands where a service has led stands after this call where the service with the call leads
abbrev pub Serves : Call → Model → Model → Type 0
Serves call m n = (h : List Call) → m ≡ after h → n ≡ after (call ∷ h)

-- the promise of a read, over every service that leads to where the card stands
abbrev pub Promised : Model → ℕ → Stream → ReadAnswer → Type 0
Promised m room s a = (h : List Call) → m ≡ after h → (read_on (after h) room s ≡ Some a) × KeptOn (after h) room s a

-- some service leads there
abbrev pub Stood : Model → Type 0
Stood m = ∥ ((h : List Call) × (m ≡ after h)) ∥₁
