-- Worked cases of building: books, and what a build of each answers under a policy.
use Rattle.std.specs.Prelude.{◌≡◌, ℕ, suc, false, List, [], ◌∷◌, map, length, slice_index_or}
use Rattle.book.specs.Answers.{Answer, granted, refused, no}
use Rattle.book.specs.Rules.{Production, ◌⟶◌}
use Rattle.grammar.specs.Lookahead.{Policy, slr, slr_if_adequate, lslr}
use Rattle.grammar.specs.Build.{Act, nothing, accept, shift, reduce, conflict, build_says}

-- Books.

-- two lists of the same words, told apart by the word behind them
abbrev pub T : List Production
T = 41 ⟶ (42 ∷ 2 ∷ []) ∷ 41 ⟶ (43 ∷ 3 ∷ []) ∷ 42 ⟶ (42 ∷ 44 ∷ []) ∷ 42 ⟶ (44 ∷ []) ∷ 43 ⟶ (43 ∷ 45 ∷ []) ∷ 43 ⟶ (45 ∷ []) ∷ 44 ⟶ (1 ∷ []) ∷ 45 ⟶ (1 ∷ []) ∷ []

-- T without its last rule
abbrev pub T7 : List Production
T7 = 41 ⟶ (42 ∷ 2 ∷ []) ∷ 41 ⟶ (43 ∷ 3 ∷ []) ∷ 42 ⟶ (42 ∷ 44 ∷ []) ∷ 42 ⟶ (44 ∷ []) ∷ 43 ⟶ (43 ∷ 45 ∷ []) ∷ 43 ⟶ (45 ∷ []) ∷ 44 ⟶ (1 ∷ []) ∷ []

abbrev pub E : List Production
E = 41 ⟶ (42 ∷ 43 ∷ 3 ∷ []) ∷ 41 ⟶ (44 ∷ 45 ∷ 4 ∷ []) ∷ 42 ⟶ (1 ∷ []) ∷ 44 ⟶ (1 ∷ []) ∷ 43 ⟶ (43 ∷ 2 ∷ []) ∷ 43 ⟶ (46 ∷ []) ∷ 45 ⟶ (45 ∷ 2 ∷ []) ∷ 45 ⟶ (47 ∷ []) ∷ 46 ⟶ (5 ∷ 6 ∷ []) ∷ 47 ⟶ (5 ∷ 7 ∷ []) ∷ []

abbrev pub Doubled : List Production
Doubled = 41 ⟶ (41 ∷ 41 ∷ []) ∷ 41 ⟶ (1 ∷ []) ∷ []

abbrev pub Self : List Production
Self = 41 ⟶ (41 ∷ []) ∷ 41 ⟶ (1 ∷ []) ∷ []

abbrev pub Apart : List Production
Apart = 41 ⟶ (1 ∷ []) ∷ 42 ⟶ (2 ∷ []) ∷ []

-- a symbol twice in a row, its word two rules below it; SLR is adequate
abbrev pub Twice : List Production
Twice = 41 ⟶ (42 ∷ 42 ∷ []) ∷ 42 ⟶ (43 ∷ []) ∷ 43 ⟶ (1 ∷ []) ∷ []

-- a list of two words or more, where only the end tells which word is the last
abbrev pub Tail : List Production
Tail = 41 ⟶ (1 ∷ 43 ∷ []) ∷ 41 ⟶ (42 ∷ 41 ∷ []) ∷ 42 ⟶ (1 ∷ []) ∷ 43 ⟶ (1 ∷ []) ∷ []

-- two symbols, each twice in a row in a rule for the other; SLR is adequate in some states and not in others
abbrev pub Mutual : List Production
Mutual = 41 ⟶ (42 ∷ 42 ∷ 2 ∷ []) ∷ 42 ⟶ (1 ∷ 1 ∷ []) ∷ 42 ⟶ (41 ∷ 41 ∷ 1 ∷ []) ∷ []

-- pairs of words or pairs; a pair may be all, or the start of another, and two states have conflicts
abbrev pub Pairs : List Production
Pairs = 41 ⟶ (42 ∷ 42 ∷ []) ∷ 42 ⟶ (1 ∷ []) ∷ 42 ⟶ (41 ∷ []) ∷ []

-- one word for three symbols, of which the first and the last have the same word behind them
abbrev pub Three : List Production
Three = 41 ⟶ (42 ∷ 2 ∷ []) ∷ 41 ⟶ (43 ∷ 2 ∷ []) ∷ 42 ⟶ (1 ∷ []) ∷ 41 ⟶ (1 ∷ []) ∷ 43 ⟶ (1 ∷ []) ∷ []

-- A policy that always says no. Above it, SLR where adequate leaves no conflict.
abbrev pub never : Policy
never rel items r x = false

-- What is asked, and what is answered.

pub data Question : Type 0 where
  states : Question
  entries : ℕ → Question

pub data Result : Type 0 where
  many : ℕ → Result
  row : List (ℕ × Act) → Result
  none : ℕ → List ℕ → Result

-- the entries of a row that are not nothing, with their symbols
abbrev pub some : ℕ → List Act → List (ℕ × Act)
some x [] = []
some x (nothing ∷ acts) = some (suc x) acts
some x (accept ∷ acts) = (x, accept) ∷ some (suc x) acts
some x (shift k ∷ acts) = (x, shift k) ∷ some (suc x) acts
some x (reduce r ∷ acts) = (x, reduce r) ∷ some (suc x) acts
some x (conflict ∷ acts) = (x, conflict) ∷ some (suc x) acts

abbrev pub answer_to : Question → Answer (List (List Act)) → Result
answer_to q (refused (no n names)) = none n names
answer_to states (granted rows) = many (length rows)
answer_to (entries s) (granted rows) = row (some 0 (slice_index_or rows s []))

pub record Case : Type 0 where
  pub policy : Policy
  pub book : List Production
  pub asked : Question
  pub answer : Result

abbrev pub case : Policy → List Production → Question → Result → Case
case p b q a = record { policy = p; book = b; asked = q; answer = a }

abbrev pub yielded : Case → Result
yielded c = answer_to c.asked (build_says c.policy c.book)

abbrev pub cases : List Case
cases =
    case lslr T states (many 13)
    ∷ case lslr T (entries 1) (row ((1, shift 1) ∷ (2, reduce 7) ∷ (3, reduce 8) ∷ (44, reduce 7) ∷ (45, reduce 8) ∷ []))
    ∷ case slr T states (none 9 (1 ∷ 1 ∷ []))
    ∷ case lslr Doubled states (none 9 (3 ∷ 41 ∷ []))
    ∷ case slr Doubled states (none 9 (3 ∷ 1 ∷ []))
    ∷ case lslr Self states (none 9 (2 ∷ 0 ∷ []))
    ∷ case lslr [] states (none 7 (41 ∷ []))
    ∷ case lslr Apart states (none 7 (2 ∷ []))
    ∷ case lslr T7 states (none 7 (43 ∷ []))
    ∷ case lslr E states (many 18)
    ∷ case lslr Twice (entries 1) (row ((0, reduce 3) ∷ (1, reduce 3) ∷ (42, reduce 3) ∷ (43, reduce 3) ∷ []))
    ∷ case lslr Tail (entries 4) (row ((0, reduce 4) ∷ (1, shift 4) ∷ (41, reduce 3) ∷ (42, shift 3) ∷ (43, shift 5) ∷ []))
    ∷ case lslr Mutual (entries 4) (row ((1, reduce 2) ∷ (2, reduce 2) ∷ (41, reduce 2) ∷ (42, reduce 2) ∷ []))
    ∷ case slr Pairs states (none 9 (2 ∷ 0 ∷ []))
    ∷ case (slr_if_adequate never) Pairs states (many 6)
    ∷ case (slr_if_adequate never) Three states (many 7)
    ∷ []

-- the definitions yield the answer of each case
abbrev pub CasesHold : Type 0
CasesHold = map yielded cases ≡ map (λ c. c.answer) cases
