-- What is printed of a refusal: its number, and words.
use Rattle.std.specs.Prelude.{ℕ, cond, List, ◌++◌, codes, decimal, ◌==◌, slice_index}
use Rattle.book.specs.Answers.{Refusal, no}
use Rattle.book.specs.Refusals.{enter_refusal}
use Rattle.book.specs.declared.files.LoadError.{LoadError}
use Rattle.book.specs.declared.files.LoadError.TheVariants as load

-- each number has its fixed words; 4 names the index of the code
abbrev pub refusal_text : Refusal → List ℕ
refusal_text (no n names) =
    cond (n == 1) (codes "1, the book is full")
    (cond (n == 2) (codes "2, the left code is no nonterminal")
    (cond (n == 3) (codes "3, the right side has no symbol or more than 6")
    (cond (n == 4) (codes "4, right code at index " ++ (decimal (slice_index names 0) ++ codes " is no symbol"))
    (cond (n == 5) (codes "5, an equal rule is in the book")
    (cond (n == 6) (codes "6, there is no rule of that number")
    (codes "20, the buffer is too short"))))))

-- an enter that is refused inside a load
abbrev pub enter_at_text : ℕ → List ℕ → List ℕ
enter_at_text at refusal = codes "17 at " ++ (decimal at ++ (codes ", the rule is refused (" ++ (refusal ++ codes ")")))

-- a refused load has the place in the file too
abbrev pub load_text : LoadError → List ℕ
load_text (load.Kind at) = codes "15 at " ++ (decimal at ++ codes ", no record has that kind")
load_text (load.Ended at) = codes "16 at " ++ (decimal at ++ codes ", the bytes end where a byte is due")
load_text (load.Enter at cause) = enter_at_text at (refusal_text (enter_refusal cause))
load_text (load.Count at) = codes "18 at " ++ (decimal at ++ codes ", the count is wrong")
load_text (load.Trailing at) = codes "19 at " ++ (decimal at ++ codes ", a byte follows the end")
