-- What a script does to the rules of a book, and what is printed of it.
use Rattle.std.specs.Prelude.{ℕ, ◌+◌, Bool, true, cond, List, [], ◌∷◌, ◌++◌, Some, None, codes, decimal, Option, ◌==◌}
use Rattle.book.specs.Rules.{Production, ◌⟶◌, entered, struck}
use Rattle.revise.specs.Scripts.{Change, strikes, enters, cut, change_read}
use Rattle.revise.specs.Lines.{strike_line, enter_line}

-- the rules after a change
abbrev pub changed : List Production → Change → List Production
changed rules (strikes k) = struck rules k
changed rules (enters l ws) = entered rules (l ⟶ ws)

-- the line that says what came of it
abbrev pub change_line : List Production → Change → List ℕ
change_line rules (strikes k) = strike_line rules k
change_line rules (enters l ws) = enter_line rules (l ⟶ ws)

-- an empty line and a comment are passed over
abbrev pub is_passed : List ℕ → Bool
is_passed [] = true
is_passed (b ∷ bytes) = b == 35

-- a line that cannot be read changes nothing
abbrev pub read_leaves : List Production → Option Change → List Production
read_leaves rules None = rules
read_leaves rules (Some step) = changed rules step

-- what is printed where this change, or none, was read of the line of a number
abbrev pub read_text : ℕ → List Production → Option Change → List ℕ
read_text n rules None = codes "line " ++ (decimal n ++ (codes ": cannot be read" ++ 10 ∷ []))
read_text n rules (Some step) = change_line rules step ++ 10 ∷ []

-- the rules after a line
abbrev pub line_leaves : List Production → List ℕ → List Production
line_leaves rules bytes = cond (is_passed bytes) rules (read_leaves rules (change_read bytes))

-- what is printed of the line of a number
abbrev pub line_text : ℕ → List Production → List ℕ → List ℕ
line_text n rules bytes = cond (is_passed bytes) [] (read_text n rules (change_read bytes))

-- the rules after some lines
abbrev pub lines_leave : List Production → List (List ℕ) → List Production
lines_leave rules [] = rules
lines_leave rules (l ∷ ls) = lines_leave (line_leaves rules l) ls

-- what is printed of some lines, of which the first has this number
abbrev pub lines_text : ℕ → List Production → List (List ℕ) → List ℕ
lines_text n rules [] = []
lines_text n rules (l ∷ ls) = line_text n rules l ++ lines_text (n + 1) (line_leaves rules l) ls

-- the rules after a script, and all that is printed of it
abbrev pub script_leaves : List Production → List ℕ → List Production
script_leaves rules bytes = lines_leave rules (cut 10 bytes)

abbrev pub script_text : List Production → List ℕ → List ℕ
script_text rules bytes = lines_text 1 rules (cut 10 bytes)
