-- The lines that the program prints, byte for byte.
use Rattle.std.specs.Prelude.{◌≡◌, ℕ, ◌+◌, ◌-◌, Bool, true, false, cond, List, [], ◌∷◌, ◌++◌, length, Ok, Err, codes, decimal, Result}
use Rattle.std.specs.List.{flat_map}
use Rattle.book.specs.Answers.{Answer, granted, refused, said, and_then}
use Rattle.book.specs.Files.{load_says}
use Rattle.book.specs.Refusals.{load_refusal}
use Rattle.book.specs.Texts.{refusal_text, load_text}
use Rattle.book.specs.Rules.{Production, rule_in, enter_says, strike_says}
use Rattle.book.specs.Symbols.{within}
use Rattle.book.specs.declared.files.LoadError.{LoadError}

-- Rules.

-- the two sides of a rule, as in `41 -> 42 2`
abbrev pub sides_text : Production → List ℕ
sides_text p = decimal p.lhs ++ codes " ->" ++ flat_map (λ w. 32 ∷ decimal w) p.rhs

-- a line for each rule, from a number on
abbrev pub list_text : ℕ → List Production → List ℕ
list_text n [] = []
list_text n (p ∷ ps) = decimal n ++ (codes ": " ++ (sides_text p ++ 10 ∷ [])) ++ list_text (n + 1) ps

-- the sides of the rule of a number; no text where there is none
abbrev pub sides_at : List Production → ℕ → List ℕ
sides_at rules k = cond (within 1 (length rules) k) (sides_text (rule_in rules (k - 1))) []

-- Files. `file` is the file's name, and n how many rules the book has after a load.

-- the line of a load
abbrev pub load_line : List ℕ → Result (Unit {0}) LoadError → ℕ → List ℕ
load_line file (Ok x) n = codes "load " ++ (file ++ (codes ": " ++ (decimal n ++ codes " rules")))
load_line file (Err e) n = codes "load " ++ (file ++ (codes ": refused " ++ load_text e))

-- what is told of a load of these bytes: the line of an outcome that says what the bytes say
abbrev pub LoadTold : List ℕ → List ℕ → ℕ → List ℕ → Type 0
LoadTold file bytes n text = (o : Result (Unit {0}) LoadError) × (said load_refusal o ≡ and_then (load_says bytes) (λ _. granted tt)) × (text ≡ load_line file o n)

-- whether an answer is a grant
abbrev pub is_granted : {A : Type 0} → Answer A → Bool
is_granted (granted x) = true
is_granted (refused n) = false

-- the line of a save, which answers how many bytes the file has
abbrev pub save_line : List ℕ → Answer ℕ → List ℕ
save_line file (granted n) = codes "save " ++ (file ++ (codes ": " ++ (decimal n ++ codes " bytes")))
save_line file (refused n) = codes "save " ++ (file ++ (codes ": refused " ++ refusal_text n))

-- Steps.

-- the rule that was struck, or the refusal
abbrev pub strike_end : Answer (Unit {0}) → List ℕ → List ℕ
strike_end (granted x) sides = sides
strike_end (refused n) sides = codes "refused " ++ refusal_text n

-- the line of a strike
abbrev pub strike_line : List Production → ℕ → List ℕ
strike_line rules k = codes "strike " ++ (decimal k ++ (codes ": " ++ strike_end (strike_says rules k) (sides_at rules k)))

-- a new rule with the number that it has, or the refusal
abbrev pub enter_text : Answer (Unit {0}) → ℕ → List ℕ → List ℕ
enter_text (granted x) n sides = codes "enter " ++ (decimal n ++ (codes ": " ++ sides))
enter_text (refused n) k sides = codes "enter " ++ (sides ++ (codes ": refused " ++ refusal_text n))

-- the line of an enter
abbrev pub enter_line : List Production → Production → List ℕ
enter_line rules p = enter_text (enter_says rules p) (length rules + 1) (sides_text p)
