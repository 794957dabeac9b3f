-- A whole revision: the new file, and what is printed up to it.
use Rattle.std.specs.Prelude.{◌≡◌, ℕ, List, [], ◌∷◌, ◌++◌, length, Some, None, Option}
use Rattle.book.specs.Answers.{Answer, granted, refused, leaves}
use Rattle.book.specs.Files.{file_of, load_says, loaded}
use Rattle.book.specs.Rules.{Production}
use Rattle.revise.specs.Lines.{LoadTold, save_line}
use Rattle.revise.specs.Runs.{script_leaves, script_text}

-- the new file holds the rules that the script leaves of the old file's; there is none where the old file does not load
abbrev pub revised_file : List ℕ → List ℕ → Option (List ℕ)
revised_file old steps = leaves (load_says old) (λ rules. Some (file_of (script_leaves rules steps))) None

-- The new file loads, as the rules that the script leaves.
abbrev pub LoadsRevised : List ℕ → List ℕ → Option (List ℕ) → Type 0
LoadsRevised old steps None = Unit {0}
LoadsRevised old steps (Some bytes) = load_says bytes ≡ granted (script_leaves (loaded [] old) steps)

-- what follows the line of the load
abbrev pub after_load : Answer (List Production) → List ℕ → List ℕ → List ℕ
after_load (granted rules) steps to = script_text rules steps ++ (save_line to (granted (length (file_of (script_leaves rules steps)))) ++ 10 ∷ [])
after_load (refused n) steps to = []

-- all that is printed: what is told of the load of the file named `from`, then of the steps and of the save to `to`
abbrev pub Reported : List ℕ → List ℕ → List ℕ → List ℕ → List ℕ → Type 0
Reported from old steps to printed =
    (told : List ℕ) × LoadTold from old (length (loaded [] old)) told × (printed ≡ told ++ 10 ∷ after_load (load_says old) steps to)
