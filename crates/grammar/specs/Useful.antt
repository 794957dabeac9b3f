-- Useful symbols, worked out: those that are reached from the start symbol through rules and yield a line of terminals.
use Rattle.std.specs.Prelude.{ℕ, Bool, true, false, not, ◌&&◌, List, [], ◌∷◌, map, Some, None, Option}
use Rattle.book.specs.Rules.{Production}
use Rattle.book.specs.Symbols.{is_terminal}
use Rattle.grammar.specs.Sets.{Flags, has, insert, only, codes, every, through, saturate}
use Rattle.grammar.specs.Numbered.{start_symbol}

abbrev pub insert_all : Flags → List ℕ → Flags
insert_all s xs = through insert xs s

-- a rule for a reached symbol reaches all of its right side
abbrev pub reach_step : Flags → Production → Flags
reach_step s p = elim (has s p.lhs) [ true ↦ insert_all s p.rhs | false ↦ s ]

abbrev pub reached_in : List Production → Flags
reached_in rules = saturate reach_step rules (only start_symbol)

-- a rule of which all right symbols yield makes its left side yield
abbrev pub yield_step : Flags → Production → Flags
yield_step s p = elim (every (has s) p.rhs) [ true ↦ insert s p.lhs | false ↦ s ]

abbrev pub terminals : Flags
terminals = map is_terminal codes

abbrev pub yielding_in : List Production → Flags
yielding_in rules = saturate yield_step rules terminals

-- the start symbol and every code that stands in the book
abbrev pub occurring_in : List Production → Flags
occurring_in rules = through (λ s p. insert_all (insert s p.lhs) p.rhs) rules (only start_symbol)

-- the lowest of these symbols that passes the test
abbrev pub lowest : (ℕ → Bool) → List ℕ → Option ℕ
lowest p [] = None
lowest p (x ∷ xs) = elim (p x) [ true ↦ Some x | false ↦ lowest p xs ]

abbrev pub is_useless : Flags → Flags → Flags → ℕ → Bool
is_useless occurring reached yielding x = has occurring x && not (has reached x && has yielding x)

-- the lowest code that occurs and is not useful
abbrev pub useless_in : List Production → Option ℕ
useless_in rules = lowest (is_useless (occurring_in rules) (reached_in rules) (yielding_in rules)) codes
