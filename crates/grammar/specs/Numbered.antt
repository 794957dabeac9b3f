-- Rules by their numbers. Number 0 is the outer rule, with the start symbol alone on its right; it is never stored.
use Rattle.std.specs.Prelude.{ℕ, ◌-◌, List, [], ◌∷◌, length, slice_index, slice_index_or}
use Rattle.book.specs.Rules.{Production, ◌⟶◌}

abbrev pub start_symbol : ℕ
start_symbol = 41

abbrev pub outer : Production
outer = 0 ⟶ (start_symbol ∷ [])

-- the rules of a book with the outer rule in front, each at its number
abbrev pub numbered : List Production → List Production
numbered rules = outer ∷ rules

-- the rule of a number; `lines` are numbered rules
abbrev pub line_at : List Production → ℕ → Production
line_at lines k = slice_index_or lines k outer

-- the first and the last symbol of a right side
abbrev pub first : Production → ℕ
first p = slice_index p.rhs 0

abbrev pub final : Production → ℕ
final p = slice_index p.rhs (length p.rhs - 1)
