-- The construction in words: inductive relations that a reader believes. Rules go by their numbers, the outer rule by 0.
use Rattle.std.specs.Prelude.{◌≡◌, ℕ, suc, ◌≤◌, Bool, true, false, List, [], ◌∷◌, length, drop, slice_index_or}
use Rattle.book.specs.Rules.{Production}
use Rattle.book.specs.Symbols.{is_terminal, is_nonterminal}
use Rattle.grammar.specs.Sets.{has}
use Rattle.grammar.specs.Numbered.{start_symbol, numbered, line_at, first, final}
use Rattle.grammar.specs.Items.{Items}

-- the rule of a number, and the numbers that the book's own rules have
abbrev pub rule_of : List Production → ℕ → Production
rule_of rules k = line_at (numbered rules) k

pub record InBook (rules : List Production) (k : ℕ) : Type 0 where
  pub low : 1 ≤ k
  pub high : k ≤ length rules

-- Corners.

-- z is x, or some rule for x has at the given end of its right side a symbol of which z is such a corner
pub data Corner (end : Production → ℕ) (rules : List Production) (z : ℕ) : ℕ → Type 0 where
  itself : Corner end rules z z
  through : {x : ℕ} (k : ℕ) → InBook rules k → (rule_of rules k).lhs ≡ x → Corner end rules z (end (rule_of rules k)) → Corner end rules z x

abbrev pub LeftCorner : List Production → ℕ → ℕ → Type 0
LeftCorner rules z x = Corner first rules z x

abbrev pub RightCorner : List Production → ℕ → ℕ → Type 0
RightCorner rules z x = Corner final rules z x

-- Followers.

-- x stands directly before y
pub data Adjacent (x y : ℕ) : List ℕ → Type 0 where
  here : {ws : List ℕ} → Adjacent x y (x ∷ y ∷ ws)
  later : {w : ℕ} {ws : List ℕ} → Adjacent x y ws → Adjacent x y (w ∷ ws)

-- some right side has x directly before y, and a is a right corner of x; the end mark, if a is one of the start symbol
pub data LeftmostFollower (rules : List Production) (a : ℕ) : ℕ → Type 0 where
  inside : {y : ℕ} (k x : ℕ) → InBook rules k → Adjacent x y (rule_of rules k).rhs → RightCorner rules a x → LeftmostFollower rules a y
  at_end : RightCorner rules a start_symbol → LeftmostFollower rules a 0

-- a left corner of a leftmost follower
pub record Follower (rules : List Production) (a z : ℕ) : Type 0 where
  pub leftmost : ℕ
  pub follows : LeftmostFollower rules a leftmost
  pub corner : LeftCorner rules z leftmost

-- Useful symbols.

pub data Member (x : ℕ) : List ℕ → Type 0 where
  front : {ws : List ℕ} → Member x (x ∷ ws)
  behind : {w : ℕ} {ws : List ℕ} → Member x ws → Member x (w ∷ ws)

-- the start symbol is reached, and so is what stands on the right of a rule for a reached symbol
pub data Reached (rules : List Production) : ℕ → Type 0 where
  start : Reached rules start_symbol
  onto : {x : ℕ} (k : ℕ) → InBook rules k → Reached rules (rule_of rules k).lhs → Member x (rule_of rules k).rhs → Reached rules x

-- a terminal yields; a nonterminal yields if all symbols of one of its rules do
pub data Yields (rules : List Production) : ℕ → Type 0 where
  terminal : {x : ℕ} → is_terminal x ≡ true → Yields rules x
  by_rule : {x : ℕ} (k : ℕ) → InBook rules k → (rule_of rules k).lhs ≡ x → ((y : ℕ) → Member y (rule_of rules k).rhs → Yields rules y) → Yields rules x

-- the start symbol and the codes that stand in the book
pub data Occurs (rules : List Production) : ℕ → Type 0 where
  as_start : Occurs rules start_symbol
  on_left : {x : ℕ} (k : ℕ) → InBook rules k → (rule_of rules k).lhs ≡ x → Occurs rules x
  on_right : {x : ℕ} (k : ℕ) → InBook rules k → Member x (rule_of rules k).rhs → Occurs rules x

-- Items. A set of items is a relation between rules and the places of their dots.

abbrev pub ItemSet : Type 1
ItemSet = ℕ → ℕ → Type 0

-- the set that flags stand for
abbrev pub Holds : Items → ItemSet
Holds items r d = has (slice_index_or items r []) d ≡ true

-- the symbols behind the dot
abbrev pub after : List Production → ℕ → ℕ → List ℕ
after rules r d = drop d (rule_of rules r).rhs

-- the set, and for each of its items with the dot before a symbol, all rules for that symbol at dot 0
pub data Closed (rules : List Production) (K : ItemSet) : ℕ → ℕ → Type 0 where
  kept : {r d : ℕ} → K r d → Closed rules K r d
  opens : {r d x : ℕ} {ws : List ℕ} (q : ℕ) → Closed rules K r d → after rules r d ≡ x ∷ ws → InBook rules q → (rule_of rules q).lhs ≡ x → Closed rules K q 0

-- the items of a state with the kernel K, where `look` is what a policy says at its closed set
pub data Expanded (rules : List Production) (K : ItemSet) (look : ℕ → ℕ → Bool) : ℕ → ℕ → Type 0 where
  closed : {r d : ℕ} → Closed rules K r d → Expanded rules K look r d
  expands : {r d y : ℕ} (q : ℕ) → Closed rules K r d → after rules r d ≡ [] → InBook rules r → LeftmostFollower rules (rule_of rules r).lhs y → is_nonterminal y ≡ true
      → InBook rules q → LeftCorner rules (rule_of rules q).lhs y → look r (first (rule_of rules q)) ≡ false → Expanded rules K look q 0

-- the kernel of the next state: the dot moved over x in all items that read it
pub data Next (rules : List Production) (W : ItemSet) (x : ℕ) : ℕ → ℕ → Type 0 where
  moved : {r d : ℕ} {ws : List ℕ} → W r d → after rules r d ≡ x ∷ ws → Next rules W x r (suc d)

-- Actions.

pub data Move : Type 0 where
  shifts : Move
  accepts : Move
  reduces : ℕ → Move

-- the actions that apply at x in a state with the kernel K; a conflict is a symbol where two apply
pub data Applies (rules : List Production) (K : ItemSet) (look : ℕ → ℕ → Bool) (x : ℕ) : Move → Type 0 where
  reads : {r d : ℕ} {ws : List ℕ} → Expanded rules K look r d → after rules r d ≡ x ∷ ws → Applies rules K look x shifts
  looks : {r d : ℕ} → Closed rules K r d → after rules r d ≡ [] → InBook rules r → look r x ≡ true → Applies rules K look x (reduces r)
  ends : {d : ℕ} → Closed rules K 0 d → after rules 0 d ≡ [] → x ≡ 0 → Applies rules K look x accepts
