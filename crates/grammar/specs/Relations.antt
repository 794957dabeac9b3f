-- The relations of a book, worked out: corners and followers of every symbol.
use Rattle.std.specs.Prelude.{ℕ, Bool, true, false, List, [], ◌∷◌, map, get_or, drop, slice_index_or}
use Rattle.book.specs.Rules.{Production}
use Rattle.grammar.specs.Sets.{Flags, has, insert, none, only, union, codes, keep, through, saturate}
use Rattle.grammar.specs.Numbered.{start_symbol, numbered, first, final}

-- Corners. A rule for a symbol of the set puts the symbol at the given end of its right side in.
abbrev pub corner_step : (Production → ℕ) → Flags → Production → Flags
corner_step end s p = elim (has s p.lhs) [ true ↦ insert s (end p) | false ↦ s ]

abbrev pub corners_of : (Production → ℕ) → List Production → ℕ → Flags
corners_of end rules x = saturate (corner_step end) rules (only x)

-- the corners of every symbol: the left ones where `end` is `first`, the right ones where it is `final`
abbrev pub corners : (Production → ℕ) → List Production → List Flags
corners end rules = map (corners_of end rules) codes

-- Leftmost followers. The symbols directly behind one that passes the test go into s; x is the one before ys.
abbrev pub behind : (ℕ → Bool) → Flags → ℕ → List ℕ → Flags
behind p s x [] = s
behind p s x (y ∷ ys) = behind p (elim (p x) [ true ↦ insert s y | false ↦ s ]) y ys

-- the leftmost followers of a, where `rights` are the right corners of every symbol
abbrev pub leftmost_of : List Flags → List Production → ℕ → Flags
leftmost_of rights rules a =
    through (λ s p. behind (λ x. has (slice_index_or rights x []) a) s (first p) (drop 1 p.rhs)) rules
    (elim (has (slice_index_or rights start_symbol []) a) [ true ↦ only 0 | false ↦ none ])

-- Followers: the left corners of the leftmost followers.
abbrev pub union_of : Flags → List Flags → Flags
union_of s [] = s
union_of s (t ∷ ts) = union_of (union s t) ts

abbrev pub followers_of : List Flags → Flags → Flags
followers_of lefts leftmost = union_of none (map (λ y. get_or lefts y []) (keep (has leftmost) codes))

-- what a build works out once and hands on: the numbered rules and the sets of each symbol
pub record Relations : Type 0 where
  pub lines : List Production
  pub lefts : List Flags
  pub leftmosts : List Flags
  pub followers : List Flags

abbrev pub with_followers : List Production → List Flags → List Flags → Relations
with_followers rules lefts leftmosts =
    record { lines = numbered rules; lefts = lefts; leftmosts = leftmosts; followers = map (followers_of lefts) leftmosts }

abbrev pub with_leftmosts : List Production → List Flags → List Flags → Relations
with_leftmosts rules lefts rights = with_followers rules lefts (map (leftmost_of rights rules) codes)

abbrev pub relations_of : List Production → Relations
relations_of rules = with_leftmosts rules (corners first rules) (corners final rules)
