-- Item sets: a row of flags for each numbered rule; place d of a row says whether the rule is in with its dot at d.
use Rattle.std.specs.Prelude.{ℕ, Bool, true, false, ◌&&◌, List, [], ◌∷◌, length, take, replicate, ◌==◌, slice_index_or}
use Rattle.book.specs.Rules.{Production}
use Rattle.book.specs.Symbols.{longest_right}
use Rattle.grammar.specs.Sets.{Flags, has, insert, none, times, keep, up_from}
use Rattle.grammar.specs.Numbered.{line_at}

abbrev pub Items : Type 0
Items = List Flags

-- how many places a dot can have
abbrev pub dot_count : ℕ
dot_count = 7

abbrev pub no_dots : Flags
no_dots = replicate dot_count false

-- the kernel of state 0: the outer rule with its dot at 0
abbrev pub start_kernel : List Production → Items
start_kernel [] = []
start_kernel (l ∷ ls) = insert no_dots 0 ∷ replicate (length ls) no_dots

-- Reads: the symbols behind dots.
abbrev pub read_row : Flags → List ℕ → Flags → Flags
read_row s [] row = s
read_row s (x ∷ xs) [] = s
read_row s (x ∷ xs) (b ∷ bs) = read_row (elim b [ true ↦ insert s x | false ↦ s ]) xs bs

abbrev pub read_rows : Flags → List Production → Items → Flags
read_rows s [] rows = s
read_rows s (l ∷ ls) [] = s
read_rows s (l ∷ ls) (row ∷ rows) = read_rows (read_row s l.rhs row) ls rows

abbrev pub reads : List Production → Items → Flags
reads lines items = read_rows none lines items

-- Closing: all rules for a symbol that is read are put in at dot 0, as often as there are rules.
abbrev pub opened : Flags → List Production → Items → Items
opened s [] rows = rows
opened s (l ∷ ls) [] = []
opened s (l ∷ ls) (row ∷ rows) = elim (has s l.lhs) [ true ↦ insert row 0 | false ↦ row ] ∷ opened s ls rows

abbrev pub close_round : List Production → Items → Items
close_round lines items = opened (reads lines items) lines items

abbrev pub close : List Production → Items → Items
close lines items = times (close_round lines) (length lines) items

-- The next kernel: the dot moved over x in all items that read it.
abbrev pub before : ℕ → List ℕ → Flags → Flags
before x ys [] = []
before x [] (b ∷ bs) = false ∷ before x [] bs
before x (y ∷ ys) (b ∷ bs) = (b && y == x) ∷ before x ys bs

abbrev pub onward : ℕ → List Production → Items → Items
onward x [] rows = []
onward x (l ∷ ls) [] = []
onward x (l ∷ ls) (row ∷ rows) = (false ∷ before x l.rhs (take longest_right row)) ∷ onward x ls rows

-- Complete rules: those with their dot at the end.
abbrev pub is_complete : List Production → Items → ℕ → Bool
is_complete lines items r = has (slice_index_or items r []) (length (line_at lines r).rhs)

abbrev pub complete_in : List Production → Items → List ℕ
complete_in lines items = keep (is_complete lines items) (up_from 0 (length lines))
