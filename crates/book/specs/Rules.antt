-- Rules, and what entering and striking one does to the rules of a book.
use Rattle.std.specs.Prelude.{◌≡◌, ℕ, suc, ◌-◌, ◌<◌, ◌≤◌, Bool, true, false, cond, not, ◌&&◌, ◌||◌, List, [], ◌∷◌, ◌++◌, length, take, drop, Some, None, Option, ◌==◌, ◌≢◌, nat_le, slice_index, slice_index_or}
use Rattle.std.specs.Option.{option_map}
use Rattle.std.specs.Str.{bytes_eq}
use Rattle.book.specs.Answers.{Answer, granted, refused, no, refuse_if, and_then, leaves}
use Rattle.book.specs.Symbols.{first_nonterminal, last_symbol, longest_right, most_rules, within, is_nonterminal, is_symbol}

-- a rule as a pair of sides
pub record Production : Type 0 where
  pub lhs : ℕ
  pub rhs : List ℕ

infix 75 ◌⟶◌
abbrev pub ◌⟶◌ : ℕ → List ℕ → Production
l ⟶ ws = record { lhs = l; rhs = ws }

-- Bounds.

abbrev pub all_symbols : List ℕ → Bool
all_symbols [] = true
all_symbols (x ∷ xs) = is_symbol x && all_symbols xs

-- whether a rule keeps the bounds
abbrev pub is_bounded : Production → Bool
is_bounded p = is_nonterminal p.lhs && (within 1 longest_right (length p.rhs) && all_symbols p.rhs)

-- the index of the first code that may not stand in a right side
abbrev pub first_bad : List ℕ → Option ℕ
first_bad [] = None
first_bad (x ∷ xs) = cond (is_symbol x) (option_map suc (first_bad xs)) (Some 0)

abbrev pub codes_say : Production → Option ℕ → Answer Production
codes_say p None = granted p
codes_say p (Some i) = refused (no 4 (i ∷ []))

-- the rule, or the refusal of one that does not keep them: 2, 3 or 4
abbrev pub rule_says : Production → Answer Production
rule_says p =
    refuse_if (not (is_nonterminal p.lhs)) (no 2 [])
    (refuse_if (not (within 1 longest_right (length p.rhs))) (no 3 [])
    (codes_say p (first_bad p.rhs)))

-- Entering.

abbrev pub same_rule : Production → Production → Bool
same_rule p q = p.lhs == q.lhs && bytes_eq p.rhs q.rhs

-- whether a rule is among these
abbrev pub holds : List Production → Production → Bool
holds [] p = false
holds (q ∷ qs) p = same_rule q p || holds qs p

abbrev pub enter_says : List Production → Production → Answer (Unit {0})
enter_says rules p =
    refuse_if (nat_le most_rules (length rules)) (no 1 [])
    (and_then (rule_says p) (λ q. refuse_if (holds rules q) (no 5 []) (granted tt)))

-- the rules after an enter
abbrev pub entered : List Production → Production → List Production
entered rules p = leaves (enter_says rules p) (λ _. rules ++ p ∷ []) rules

-- Striking: rules are numbered from 1.

abbrev pub strike_says : List Production → ℕ → Answer (Unit {0})
strike_says rules k = refuse_if (not (within 1 (length rules) k)) (no 6 []) (granted tt)

-- the rules after a strike
abbrev pub struck : List Production → ℕ → List Production
struck rules k = leaves (strike_says rules k) (λ _. take (k - 1) rules ++ drop k rules) rules

-- The rules that a book can have, in words ..

-- a nonterminal on the left; one to six symbols on the right, none of them the end mark
pub record Bounded (p : Production) : Type 0 where
  pub left_in : (first_nonterminal ≤ p.lhs) × (p.lhs ≤ last_symbol)
  pub size_in : (1 ≤ length p.rhs) × (length p.rhs ≤ longest_right)
  pub codes_in : (i : ℕ) → i < length p.rhs → (1 ≤ slice_index p.rhs i) × (slice_index p.rhs i ≤ last_symbol)

-- the rule at an index
abbrev pub rule_in : List Production → ℕ → Production
rule_in rules k = slice_index_or rules k (0 ⟶ [])

-- few enough, each within its bounds, no two equal
pub record WellFormed (rules : List Production) : Type 0 where
  pub few : length rules ≤ most_rules
  pub bounded : (k : ℕ) → k < length rules → Bounded (rule_in rules k)
  pub apart : (i j : ℕ) → i < j → j < length rules → rule_in rules i ≢ rule_in rules j

-- .. and as a test, which is true of just these.

abbrev pub all_bounded : List Production → Bool
all_bounded [] = true
all_bounded (p ∷ ps) = is_bounded p && all_bounded ps

abbrev pub distinct : List Production → Bool
distinct [] = true
distinct (p ∷ ps) = not (holds ps p) && distinct ps

abbrev pub is_well_formed : List Production → Bool
is_well_formed rules = nat_le (length rules) most_rules && (all_bounded rules && distinct rules)

abbrev pub TestIsExact : Type 0
TestIsExact = (rules : List Production) → (is_well_formed rules ≡ true → WellFormed rules) × (WellFormed rules → is_well_formed rules ≡ true)

-- a call on a book that can exist leaves one
abbrev pub Keeps : List Production → List Production → Type 0
Keeps before after = is_well_formed before ≡ true → is_well_formed after ≡ true
