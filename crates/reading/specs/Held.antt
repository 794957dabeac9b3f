-- What the code's stacks stand for.
use Rattle.std.specs.Prelude.{◌≡◌, ℕ, ◌+◌, List, [], ◌∷◌, map, Some, None, Option}
use Rattle.reading.specs.declared.piles.Symbol.{Symbol}
use Rattle.reading.specs.declared.piles.Stacked.{Stacked}
use Rattle.reading.specs.declared.piles.Stacks.{Stacks}
use Rattle.reading.specs.Reading.{SpannedSymbol, StackedSymbol}

-- how many symbols each stack holds at the most
abbrev pub most_held : ℕ
most_held = 1001

abbrev pub symbol_of : Symbol → SpannedSymbol
symbol_of x = record { sym_code = x.code; first_word = x.span.first; word_count = x.span.width }

abbrev pub stacked_of : Stacked → StackedSymbol
stacked_of p = record { spanned = symbol_of p.symbol; state_above = p.state }

-- the stack, top first
abbrev pub stack_of : Stacks → List StackedSymbol
stack_of s = map stacked_of s.stacked

-- the pending symbols, the next one first
abbrev pub pending_of : Stacks → List SpannedSymbol
pending_of s = map symbol_of s.pending

-- the first of some symbols, and what is left of them
abbrev pub Next : Option Symbol → List SpannedSymbol → List SpannedSymbol → Type 0
Next None xs rest = (xs ≡ []) × (rest ≡ [])
Next (Some x) xs rest = xs ≡ symbol_of x ∷ rest

-- how many words a stack covers
abbrev pub words_under : List StackedSymbol → ℕ
words_under [] = 0
words_under (p ∷ ps) = p.spanned.word_count + words_under ps
