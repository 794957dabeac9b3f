-- What a source means: words with their places, then an ending with a place.
use Rattle.std.specs.Prelude.{ℕ, Bool, true, cond, not, ◌&&◌, List, [], ◌∷◌, ◌==◌}
use Rattle.book.specs.Answers.{Answer, granted, no, refuse_if}
use Rattle.book.specs.Symbols.{is_terminal}

-- a word: a terminal, by its code, and where it stands
pub record Token : Type 0 where
  pub symbol : ℕ
  pub position : ℕ

-- clean, or a fault by its number; then the position
pub data Ending : Type 0 where
  clean : ℕ → Ending
  fault : ℕ → ℕ → Ending

pub record Stream : Type 0 where
  pub tokens : List Token
  pub ending : Ending

-- no word, and this ending
abbrev pub ends : Ending → Stream
ends e = record { tokens = []; ending = e }

-- a word in front
abbrev pub before : Token → Stream → Stream
before t s = record { tokens = t ∷ s.tokens; ending = s.ending }

-- What a take gives and what it leaves.

pub data Drawn : Type 0 where
  word : Token → Drawn
  closed : Ending → Drawn

abbrev pub first_of : List Token → Ending → Drawn
first_of [] e = closed e
first_of (t ∷ ts) e = word t

-- the first word, or the ending where none is left
abbrev pub drawn : Stream → Drawn
drawn s = first_of s.tokens s.ending

abbrev pub tail_of : List Token → List Token
tail_of [] = []
tail_of (t ∷ ts) = ts

-- the words after the first, and the same ending
abbrev pub remaining : Stream → Stream
remaining s = record { tokens = tail_of s.tokens; ending = s.ending }

-- Skipping one code.

abbrev pub without : ℕ → List Token → List Token
without k [] = []
without k (t ∷ ts) = cond (t.symbol == k) (without k ts) (t ∷ without k ts)

abbrev pub skipping : ℕ → Stream → Stream
skipping k s = record { tokens = without k s.tokens; ending = s.ending }

abbrev pub skip_says : ℕ → Stream → Answer Stream
skip_says k s = refuse_if (not (is_terminal k)) (no 24 []) (granted (skipping k s))

-- The law of every source: each of its words is a terminal.

abbrev pub all_terminals : List Token → Bool
all_terminals [] = true
all_terminals (t ∷ ts) = is_terminal t.symbol && all_terminals ts
