-- What the theory of reading takes of tables: states with kernels, the action of each state at each symbol, and the facts that tie them to a book.
use Rattle.std.specs.Prelude.{◌≡◌, ℕ, Bool, true, ◌↔◌, List, [], Some, None, Option}
use Rattle.book.specs.Rules.{Production}
use Rattle.grammar.specs.Meaning.{rule_of, InBook, LeftmostFollower, ItemSet, after, Closed, Expanded, Next, Move, shifts, Applies}
use Rattle.grammar.specs.Build.{Act, nothing, accept, shift, reduce, conflict}
use Rattle.grammar.specs.Laws.{move_of}
use Rattle.tables.specs.Looked.{act_in}

-- the set of items that a test has
abbrev pub Passing : (ℕ → ℕ → Bool) → ItemSet
Passing test r d = test r d ≡ true

-- the law of a lookahead policy, at one closed set: every leftmost follower of the left side of a complete rule gets yes
abbrev pub LawKept : List Production → ItemSet → (ℕ → ℕ → Bool) → Type 0
LawKept rules K look = (r d y : ℕ) → Closed rules K r d → after rules r d ≡ [] → InBook rules r → LeftmostFollower rules (rule_of rules r).lhs y → look r y ≡ true

-- an action, if there is one, is one that applies
abbrev pub Applying : List Production → ItemSet → (ℕ → ℕ → Bool) → ℕ → Option Move → Type 0
Applying rules K look x None = Unit {0}
Applying rules K look x (Some m) = Applies rules K look x m

-- Tables that the rules of a book give, without a conflict, under a policy that keeps its law. A state is a number, `in_kernel s r d` says whether
-- its kernel has rule r with the dot at d, and `in_lookahead s` is what the policy answers at its closed set.
pub record Faithful (rules : List Production) : Type 0 where
  pub start_state : ℕ
  pub next_state : ℕ → ℕ → ℕ
  pub action_at : ℕ → ℕ → Option Move
  pub in_kernel : ℕ → ℕ → ℕ → Bool
  pub in_lookahead : ℕ → ℕ → ℕ → Bool
  pub lawful : (s : ℕ) → LawKept rules (Passing (in_kernel s)) (in_lookahead s)
  pub starts : (r d : ℕ) → Passing (in_kernel start_state) r d ↔ ((r ≡ 0) × (d ≡ 0))
  pub moves : (s x : ℕ) → Applies rules (Passing (in_kernel s)) (in_lookahead s) x shifts
      → (r d : ℕ) → Passing (in_kernel (next_state s x)) r d ↔ Next rules (Expanded rules (Passing (in_kernel s)) (in_lookahead s)) x r d
  -- the action applies, and nothing else does
  pub chosen : (s x : ℕ) → Applying rules (Passing (in_kernel s)) (in_lookahead s) x (action_at s x)
  pub sole : (s x : ℕ) (m : Move) → Applies rules (Passing (in_kernel s)) (in_lookahead s) x m → action_at s x ≡ Some m

-- Tables as rows of actions, one for each state and symbol.

-- the state that an action goes to
abbrev pub target_of : Act → ℕ
target_of nothing = 0
target_of accept = 0
target_of (shift k) = k
target_of (reduce r) = 0
target_of conflict = 0

-- the action of a state at a symbol
abbrev pub action_in : List (List Act) → ℕ → ℕ → Option Move
action_in rows s x = move_of (act_in rows s x)

-- the state that follows a shift
abbrev pub next_in : List (List Act) → ℕ → ℕ → ℕ
next_in rows s x = target_of (act_in rows s x)
