-- Laws that tie what is worked out to what it means, for every book within its bounds.
use Rattle.std.specs.Prelude.{◌≡◌, ℕ, ◌<◌, ◌≤◌, true, ◌↔◌, List, [], ◌∷◌, length, get_or, Some, None, Option, ◌≢◌, slice_index_or}
use Rattle.book.specs.Answers.{granted, refused, no}
use Rattle.book.specs.Rules.{Production, all_bounded}
use Rattle.grammar.specs.Sets.{Flags, has, symbol_count}
use Rattle.grammar.specs.Numbered.{numbered, first, final}
use Rattle.grammar.specs.Relations.{Relations, corners, relations_of}
use Rattle.grammar.specs.Useful.{reached_in, yielding_in, useless_in}
use Rattle.grammar.specs.Items.{Items, dot_count, reads, close, onward, start_kernel}
use Rattle.grammar.specs.Lookahead.{Policy, Look, slr, leftmost_follow, slr_if_adequate, expand}
use Rattle.grammar.specs.States.{items_of, number_of, kernels_of, most_states}
use Rattle.grammar.specs.Build.{Act, nothing, accept, shift, reduce, conflict, build_says}
use Rattle.grammar.specs.Meaning.{rule_of, InBook, LeftCorner, RightCorner, LeftmostFollower, Follower, Reached, Yields, Occurs, Holds, after, Closed, Expanded, Next, Move, shifts, accepts, reduces, Applies}

-- Corners and followers.

-- a table of symbols has in the row of each x exactly the z that are related to x
abbrev pub Tells : List Flags → (ℕ → ℕ → Type 0) → Type 0
Tells table R = (x z : ℕ) → x < symbol_count → (has (slice_index_or table x []) z ≡ true) ↔ R x z

abbrev pub LeftCornersMean : Type 0
LeftCornersMean = (rules : List Production) → all_bounded rules ≡ true → Tells (corners first rules) (λ x z. LeftCorner rules z x)

abbrev pub RightCornersMean : Type 0
RightCornersMean = (rules : List Production) → all_bounded rules ≡ true → Tells (corners final rules) (λ x z. RightCorner rules z x)

abbrev pub LeftmostFollowersMean : Type 0
LeftmostFollowersMean = (rules : List Production) → all_bounded rules ≡ true → Tells (relations_of rules).leftmosts (LeftmostFollower rules)

abbrev pub FollowersMean : Type 0
FollowersMean = (rules : List Production) → all_bounded rules ≡ true → Tells (relations_of rules).followers (Follower rules)

-- what the relations of a book tell
pub record RelationsTell (rules : List Production) (rel : Relations) : Type 0 where
  pub lefts : Tells rel.lefts (λ x z. LeftCorner rules z x)
  pub leftmosts : Tells rel.leftmosts (LeftmostFollower rules)
  pub followers : Tells rel.followers (Follower rules)

-- Useful symbols.

abbrev pub ReachedMeans : Type 0
ReachedMeans = (rules : List Production) → all_bounded rules ≡ true → (x : ℕ) → (has (reached_in rules) x ≡ true) ↔ Reached rules x

abbrev pub YieldsMeans : Type 0
YieldsMeans = (rules : List Production) → all_bounded rules ≡ true → (x : ℕ) → (has (yielding_in rules) x ≡ true) ↔ Yields rules x

-- what makes a code useless: it occurs, and is not reached or does not yield
pub record Useless (rules : List Production) (x : ℕ) : Type 0 where
  pub occurs : Occurs rules x
  pub idle : Reached rules x → Yields rules x → ⊥

-- the code that is answered is useless and the lowest such; where none is answered there is none
abbrev pub LowestUseless : List Production → Option ℕ → Type 0
LowestUseless rules (Some x) = Useless rules x × ((y : ℕ) → Useless rules y → x ≤ y)
LowestUseless rules None = (y : ℕ) → Useless rules y → ⊥

abbrev pub UselessMeans : Type 0
UselessMeans = (rules : List Production) → all_bounded rules ≡ true → LowestUseless rules (useless_in rules)

-- Items. An item set of a book: a row for each numbered rule with a place for each dot, and no dot past a right side.

pub record Shaped (rules : List Production) (items : Items) : Type 0 where
  pub rows : length items ≡ length (numbered rules)
  pub dots : (r : ℕ) → r < length (numbered rules) → length (slice_index_or items r []) ≡ dot_count
  pub within : (r d : ℕ) → Holds items r d → d ≤ length (rule_of rules r).rhs

abbrev pub ClosingMeans : Type 0
ClosingMeans = (rules : List Production) → all_bounded rules ≡ true → (k : Items) → Shaped rules k
    → Shaped rules (close (numbered rules) k) × ((r d : ℕ) → Holds (close (numbered rules) k) r d ↔ Closed rules (Holds k) r d)

abbrev pub ReadsMean : Type 0
ReadsMean = (rules : List Production) → all_bounded rules ≡ true → (items : Items) → Shaped rules items → (x : ℕ)
    → (has (reads (numbered rules) items) x ≡ true) ↔ ((r d : ℕ) × (ws : List ℕ) × Holds items r d × (after rules r d ≡ x ∷ ws))

-- the items of a state, from its kernel
abbrev pub ExpansionMeans : Type 0
ExpansionMeans = (rules : List Production) → all_bounded rules ≡ true → (look : Look) → (k : Items) → Shaped rules k
    → Shaped rules (expand (relations_of rules) look (close (numbered rules) k))
    × ((r d : ℕ) → Holds (expand (relations_of rules) look (close (numbered rules) k)) r d ↔ Expanded rules (Holds k) look r d)

abbrev pub NextMeans : Type 0
NextMeans = (rules : List Production) → all_bounded rules ≡ true → (items : Items) → Shaped rules items → (x : ℕ)
    → Shaped rules (onward x (numbered rules) items) × ((r d : ℕ) → Holds (onward x (numbered rules) items) r d ↔ Next rules (Holds items) x r d)

-- Policies. The law: every leftmost follower of the rule's left side gets yes.

abbrev pub Lawful : Policy → Type 0
Lawful policy = (rules : List Production) → all_bounded rules ≡ true → (items : Items) (r y : ℕ) → InBook rules r
    → LeftmostFollower rules (rule_of rules r).lhs y → policy (relations_of rules) items r y ≡ true

abbrev pub PoliciesLawful : Type 0
PoliciesLawful = Lawful slr × Lawful leftmost_follow × ((below : Policy) → Lawful below → Lawful (slr_if_adequate below))

-- States.

-- the kernels of the construction: that of state 0, and what follows a kernel over a symbol that its items read
pub data Kernel (policy : Policy) (rel : Relations) : Items → Type 0 where
  initial : Kernel policy rel (start_kernel rel.lines)
  following : {k : Items} (x : ℕ) → Kernel policy rel k → has (reads rel.lines (items_of policy rel k)) x ≡ true → Kernel policy rel (onward x rel.lines (items_of policy rel k))

-- The states are kernels of the construction, no two equal, that of state 0 first. If they are at most 200, every kernel of the construction
-- is among them, at its number. So there are more than 200 states exactly when the list is longer than 200.
pub record NumbersStates (rules : List Production) (policy : Policy) (ks : List Items) : Type 0 where
  pub begins : get_or ks 0 [] ≡ start_kernel (numbered rules)
  pub some : 0 < length ks
  pub shaped : (s : ℕ) → s < length ks → Shaped rules (slice_index_or ks s [])
  pub reached : (s : ℕ) → s < length ks → Kernel policy (relations_of rules) (slice_index_or ks s [])
  pub apart : (s t : ℕ) → s < t → t < length ks → slice_index_or ks s [] ≢ slice_index_or ks t []
  pub all : length ks ≤ most_states → (k : Items) → Kernel policy (relations_of rules) k → (number_of ks k < length ks) × (slice_index_or ks (number_of ks k) [] ≡ k)

abbrev pub StatesMean : Type 0
StatesMean = (rules : List Production) → all_bounded rules ≡ true → (policy : Policy) → NumbersStates rules policy (kernels_of policy (relations_of rules))

-- Actions.

-- the action of a state at a symbol, as a move; a shift goes to a state
abbrev pub move_of : Act → Option Move
move_of nothing = None
move_of accept = Some accepts
move_of (shift k) = Some shifts
move_of (reduce r) = Some (reduces r)
move_of conflict = None

-- what the table has at a symbol is what applies there, and nothing else does
pub record Sole (rules : List Production) (policy : Policy) (k : Items) (x : ℕ) (a : Act) : Type 0 where
  pub clear : a ≡ conflict → ⊥
  pub applies : (m : Move) → move_of a ≡ Some m → Applies rules (Holds k) (policy (relations_of rules) (close (numbered rules) k)) x m
  pub only : (m : Move) → Applies rules (Holds k) (policy (relations_of rules) (close (numbered rules) k)) x m → move_of a ≡ Some m

-- what a granted build gives
pub record TablesMean (rules : List Production) (policy : Policy) (rows : List (List Act)) : Type 0 where
  pub useful : useless_in rules ≡ None
  pub few : length (kernels_of policy (relations_of rules)) ≤ most_states
  pub many : length rows ≡ length (kernels_of policy (relations_of rules))
  pub sole : (s x : ℕ) → s < length rows → x < symbol_count → Sole rules policy (slice_index_or (kernels_of policy (relations_of rules)) s []) x (slice_index_or (slice_index_or rows s []) x nothing)
  pub goes : (s x k : ℕ) → s < length rows → x < symbol_count → slice_index_or (slice_index_or rows s []) x nothing ≡ shift k
      → (k < length rows) × (slice_index_or (kernels_of policy (relations_of rules)) k [] ≡ onward x (numbered rules) (items_of policy (relations_of rules) (slice_index_or (kernels_of policy (relations_of rules)) s [])))

-- two actions apply at a state and a symbol
pub record Conflict (rules : List Production) (policy : Policy) (s x : ℕ) : Type 0 where
  pub one : Move
  pub other : Move
  pub apart : one ≡ other → ⊥
  pub first : Applies rules (Holds (slice_index_or (kernels_of policy (relations_of rules)) s [])) (policy (relations_of rules) (close (numbered rules) (slice_index_or (kernels_of policy (relations_of rules)) s []))) x one
  pub second : Applies rules (Holds (slice_index_or (kernels_of policy (relations_of rules)) s [])) (policy (relations_of rules) (close (numbered rules) (slice_index_or (kernels_of policy (relations_of rules)) s []))) x other

-- the lowest state with a conflict, and its lowest symbol in conflict
pub record LowestConflict (rules : List Production) (policy : Policy) (s x : ℕ) : Type 0 where
  pub here : Conflict rules policy s x
  pub lower_state : (t y : ℕ) → t < s → y < symbol_count → Conflict rules policy t y → ⊥
  pub lower_symbol : (y : ℕ) → y < x → Conflict rules policy s y → ⊥

-- What each answer of a build says. Refusal 7 names the lowest useless code, exactly if there is one; 8 is the answer exactly if there is none
-- and there are too many states; 9 names the lowest conflict where neither is the case.
pub record BuildTells (rules : List Production) (policy : Policy) : Type 0 where
  pub grants : (rows : List (List Act)) → build_says policy rules ≡ granted rows → TablesMean rules policy rows
  pub useless : (x : ℕ) → (build_says policy rules ≡ refused (no 7 (x ∷ []))) ↔ (useless_in rules ≡ Some x)
  pub many : (build_says policy rules ≡ refused (no 8 [])) ↔ ((useless_in rules ≡ None) × (most_states < length (kernels_of policy (relations_of rules))))
  pub useful : (s x : ℕ) → build_says policy rules ≡ refused (no 9 (s ∷ x ∷ [])) → (useless_in rules ≡ None) × (length (kernels_of policy (relations_of rules)) ≤ most_states)
  pub clashes : (s x : ℕ) → build_says policy rules ≡ refused (no 9 (s ∷ x ∷ [])) → LowestConflict rules policy s x

abbrev pub BuildMeans : Type 0
BuildMeans = (rules : List Production) → all_bounded rules ≡ true → (policy : Policy) → BuildTells rules policy
