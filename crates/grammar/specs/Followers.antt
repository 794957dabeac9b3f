-- The leftmost followers and the followers that are worked out are those that the words name.
use Rattle.std.specs.Prelude.{◌≡◌, ℕ, ◌<◌, ◌≤◌, Bool, true, false, ◌⊎◌, List, [], ◌∷◌, map, length, get_or, drop, slice_index, slice_index_or, refl}
use Rattle.std.proofs.Common.{inl, inr, sym, ap, ◌∙◌, subst, arith}
use Rattle.std.proofs.lemmas.List.{get_or-map}
use Rattle.std.proofs.lemmas.Bool.{both_ways}
use Rattle.book.specs.Rules.{Production, all_bounded}
use Rattle.grammar.specs.Sets.{Flags, has, none, only, union, symbol_count, codes, keep}
use Rattle.grammar.specs.Numbered.{start_symbol, first, final}
use Rattle.grammar.specs.Relations.{corners, behind, leftmost_of, union_of, followers_of, relations_of}
use Rattle.grammar.specs.Meaning.{rule_of, InBook, Adjacent, here, later, LeftmostFollower, inside, at_end}
use Rattle.grammar.specs.Laws.{LeftmostFollowersMean, FollowersMean}
use Rattle.grammar.specs.Rounds.{In, none_has, only_from}
use Rattle.grammar.specs.Bounded.{rule_in, of_each, size_in, member_in, adjacent_members}
use Rattle.grammar.specs.Listed.{kept_from, kept_has}
use Rattle.grammar.specs.Flagging.{at_code, in_codes, insert_if, insert_if_long, insert_if_keeps, insert_if_from, insert_if_has, union_left, union_right, union_from, through_keeps, through_brings}
use Rattle.grammar.specs.Corners.{left_corners_mean, right_corners_mean}

-- The symbols behind those that pass a test.

module _ (p : ℕ → Bool) where
  behind_long : (s : Flags) (x : ℕ) (ys : List ℕ) → length (behind p s x ys) ≡ length s
  behind_long s x [] = refl
  behind_long s x (y ∷ ys) = behind_long (insert_if (p x) s y) y ys ∙ insert_if_long (p x) s y

  behind_keeps : (s : Flags) (x : ℕ) (ys : List ℕ) (z : ℕ) → has s z ≡ true → has (behind p s x ys) z ≡ true
  behind_keeps s x [] z e = e
  behind_keeps s x (y ∷ ys) z e = behind_keeps (insert_if (p x) s y) y ys z (insert_if_keeps (p x) s y z e)

  behind_has : (s : Flags) (x : ℕ) (ys : List ℕ) (w z : ℕ) → Adjacent w z (x ∷ ys) → p w ≡ true → z < length s → has (behind p s x ys) z ≡ true
  behind_has s x [] w z (later n) e h = elim n [ ]
  behind_has s x (y ∷ ys) w z here e h = behind_keeps (insert_if (p x) s y) y ys z (insert_if_has (p x) s y e h)
  behind_has s x (y ∷ ys) w z (later n) e h = behind_has (insert_if (p x) s y) y ys w z n e (omega (arith, insert_if_long (p x) s y))

  behind_from : (s : Flags) (x : ℕ) (ys : List ℕ) (z : ℕ) → has (behind p s x ys) z ≡ true → (has s z ≡ true) ⊎ ((w : ℕ) × Adjacent w z (x ∷ ys) × (p w ≡ true))
  behind_from s x [] z e = inl e
  behind_from s x (y ∷ ys) z e =
      elim (behind_from (insert_if (p x) s y) y ys z e) [
        | inl o ↦ elim (insert_if_from (p x) s y z o) [ inl q ↦ inl q | inr n ↦ inr (x, subst (λ v. Adjacent x v (x ∷ y ∷ ys)) (sym n.1) here, n.0) ]
        | inr r ↦ inr (r.0, later r.1, r.2)
      ]

-- Leftmost followers.

-- the set to begin with: the end mark if the test passes
abbrev end_mark_if : Bool → Flags
end_mark_if b = elim b [ true ↦ only 0 | false ↦ none ]

end_mark_long : (b : Bool) → length (end_mark_if b) ≡ symbol_count
end_mark_long true = refl
end_mark_long false = refl

-- a right side is its first symbol and the rest
first_and_rest : (ws : List ℕ) → 1 ≤ length ws → slice_index ws 0 ∷ drop 1 ws ≡ ws
first_and_rest [] h = absurd (omega arith)
first_and_rest (w ∷ ws) h = refl

module _ (rules : List Production) (a : all_bounded rules ≡ true) where
  adjacent_in : (k x y : ℕ) → InBook rules k → Adjacent x y (rule_of rules k).rhs → (x < symbol_count) × (y < symbol_count)
  adjacent_in k x y b n =
      let m = adjacent_members (rule_of rules k).rhs n in
      (omega (arith, (member_in rules a k b x m.0).1), omega (arith, (member_in rules a k b y m.1).1))

  pub leftmost_in : (z y : ℕ) → LeftmostFollower rules z y → y < symbol_count
  leftmost_in z y (inside k x b n c) = (adjacent_in k x y b n).1
  leftmost_in z y (at_end c) = omega arith

  module _ (z : ℕ) where
    -- whether z is a right corner of x
    abbrev ends_in : ℕ → Bool
    ends_in x = has (slice_index_or (corners final rules) x []) z

    -- what one rule puts in
    abbrev gather : Flags → Production → Flags
    gather s p = behind ends_in s (first p) (drop 1 p.rhs)

    whole : (k : ℕ) → InBook rules k → first (rule_of rules k) ∷ drop 1 (rule_of rules k).rhs ≡ (rule_of rules k).rhs
    whole k b = first_and_rest (rule_of rules k).rhs (size_in rules a k b).0

    -- all in the set are leftmost followers of z
    abbrev Sound : Flags → Type 0
    Sound s = (y : ℕ) → has s y ≡ true → LeftmostFollower rules z y

    gathered_sound : Sound (leftmost_of (corners final rules) rules z)
    gathered_sound = through_keeps gather Sound rules (of_each (λ p. (s : Flags) → Sound s → Sound (gather s p)) rules step) (end_mark_if (ends_in start_symbol)) (start (ends_in start_symbol) refl)
      where
        start : (b : Bool) → ends_in start_symbol ≡ b → Sound (end_mark_if b)
        start true f y e = subst (LeftmostFollower rules z) (sym (only_from 0 y e)) (at_end ((right_corners_mean rules a start_symbol z (omega arith)).0 f))
        start false f y e = absurd (both_ways (has none y) (none_has symbol_count y) e)

        step : (k : ℕ) → InBook rules k → (s : Flags) → Sound s → Sound (gather s (rule_of rules k))
        step k b s h y e =
            elim (behind_from ends_in s (first (rule_of rules k)) (drop 1 (rule_of rules k).rhs) y e) [
              | inl o ↦ h y o
              | inr r ↦
                  let n = subst (Adjacent r.0 y) (whole k b) r.1 in
                  inside k r.0 b n ((right_corners_mean rules a r.0 z (adjacent_in k r.0 y b n).0).0 r.2)
            ]

    gathered_has : (y : ℕ) → LeftmostFollower rules z y → has (leftmost_of (corners final rules) rules z) y ≡ true
    gathered_has y (inside k x b n c) =
        through_brings gather (λ s. length s ≡ symbol_count) (λ s. has s y ≡ true) rules
        (λ p s l. behind_long ends_in s (first p) (drop 1 p.rhs) ∙ l)
        (λ p s. behind_keeps ends_in s (first p) (drop 1 p.rhs) y)
        (rule_of rules k) (rule_in rules k b)
        (λ s l. behind_has ends_in s (first (rule_of rules k)) (drop 1 (rule_of rules k).rhs) x y (subst (Adjacent x y) (sym (whole k b)) n)
        ((right_corners_mean rules a x z (adjacent_in k x y b n).0).1 c) (omega (arith, (adjacent_in k x y b n).1)))
        (end_mark_if (ends_in start_symbol)) (end_mark_long (ends_in start_symbol))
    gathered_has y (at_end c) =
        through_keeps gather (λ s. has s 0 ≡ true) rules (λ p m s. behind_keeps ends_in s (first p) (drop 1 p.rhs) 0)
        (end_mark_if (ends_in start_symbol)) (ap (λ b. has (end_mark_if b) 0) ((right_corners_mean rules a start_symbol z (omega arith)).1 c))

pub leftmost_followers_mean : LeftmostFollowersMean
leftmost_followers_mean rules a z y h =
    let at : get_or (relations_of rules).leftmosts z [] ≡ leftmost_of (corners final rules) rules z = at_code (leftmost_of (corners final rules) rules) [] z h in
    (λ e. gathered_sound rules a z y (sym (ap (λ s. has s y) at) ∙ e), λ l. ap (λ s. has s y) at ∙ gathered_has rules a z y l)

-- Followers.

union_of_keeps : (f : ℕ → Flags) (s : Flags) (ys : List ℕ) (z : ℕ) → has s z ≡ true → has (union_of s (map f ys)) z ≡ true
union_of_keeps f s [] z e = e
union_of_keeps f s (y ∷ ys) z e = union_of_keeps f (union s (f y)) ys z (union_left s (f y) z e)

union_of_has : (f : ℕ → Flags) (s : Flags) (ys : List ℕ) (y z : ℕ) → In y ys → has (f y) z ≡ true → has (union_of s (map f ys)) z ≡ true
union_of_has f s [] y z m e = absurd m
union_of_has f s (x ∷ ys) y z (inl q) e = union_of_keeps f (union s (f x)) ys z (union_right s (f x) z (ap (λ w. has (f w) z) (sym q) ∙ e))
union_of_has f s (x ∷ ys) y z (inr m) e = union_of_has f (union s (f x)) ys y z m e

union_of_from : (f : ℕ → Flags) (s : Flags) (ys : List ℕ) (z : ℕ) → has (union_of s (map f ys)) z ≡ true → (has s z ≡ true) ⊎ ((y : ℕ) × In y ys × (has (f y) z ≡ true))
union_of_from f s [] z e = inl e
union_of_from f s (x ∷ ys) z e =
    elim (union_of_from f (union s (f x)) ys z e) [
      | inl o ↦ elim (union_from s (f x) z o) [ inl q ↦ inl q | inr q ↦ inr (x, inl refl, q) ]
      | inr r ↦ inr (r.0, inr r.1, r.2)
    ]

pub followers_mean : FollowersMean
followers_mean rules a x z h =
    let leftmost : Flags = get_or (relations_of rules).leftmosts x [] in
    let lefts : ℕ → Flags = λ y. get_or (corners first rules) y [] in
    let at : get_or (relations_of rules).followers x [] ≡ followers_of (corners first rules) leftmost =
    get_or-map (followers_of (corners first rules)) (relations_of rules).leftmosts x [] [] h in (
      λ e. elim (union_of_from lefts none (keep (has leftmost) codes) z (sym (ap (λ s. has s z) at) ∙ e)) [
        | inl o ↦ absurd (both_ways (has none z) (none_has symbol_count z) o)
        | inr r ↦
            let f : LeftmostFollower rules x r.0 = (leftmost_followers_mean rules a x r.0 h).0 (kept_from (has leftmost) codes r.0 r.1).1 in
            record { leftmost = r.0; follows = f; corner = (left_corners_mean rules a r.0 z (leftmost_in rules a x r.0 f)).0 r.2 }
      ],
      λ f. ap (λ s. has s z) at
          ∙ union_of_has lefts none (keep (has leftmost) codes) f.leftmost z
          (kept_has (has leftmost) codes f.leftmost (in_codes f.leftmost (leftmost_in rules a x f.leftmost f.follows)) ((leftmost_followers_mean rules a x f.leftmost h).1 f.follows))
          ((left_corners_mean rules a f.leftmost z (leftmost_in rules a x f.leftmost f.follows)).1 f.corner),
    )
