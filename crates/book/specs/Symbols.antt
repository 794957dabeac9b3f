-- The codes of symbols and the bounds of rules and books. Each bound has its one name here.
use Rattle.std.specs.Prelude.{ℕ, Bool, ◌&&◌, nat_le}

-- 0 is the end mark, 1 to 40 are terminals, 41 to 80 nonterminals
abbrev pub last_terminal : ℕ
last_terminal = 40

abbrev pub first_nonterminal : ℕ
first_nonterminal = 41

abbrev pub last_symbol : ℕ
last_symbol = 80

-- how many symbols a right side has at the most
abbrev pub longest_right : ℕ
longest_right = 6

-- how many rules a book has at the most
abbrev pub most_rules : ℕ
most_rules = 100

abbrev pub within : ℕ → ℕ → ℕ → Bool
within low high x = nat_le low x && nat_le x high

abbrev pub is_terminal : ℕ → Bool
is_terminal x = within 1 last_terminal x

abbrev pub is_nonterminal : ℕ → Bool
is_nonterminal x = within first_nonterminal last_symbol x

-- what may stand in a right side: any symbol but the end mark
abbrev pub is_symbol : ℕ → Bool
is_symbol x = within 1 last_symbol x
