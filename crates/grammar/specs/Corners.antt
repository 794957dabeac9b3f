-- The corners that are worked out are the corners, at either end of right sides.
use Rattle.std.specs.Prelude.{◌≡◌, ℕ, ◌<◌, true, ◌↔◌, List, [], get_or, slice_index_or}
use Rattle.std.proofs.Common.{inl, inr, sym, ap, ◌∙◌, subst, arith}
use Rattle.book.specs.Rules.{Production}
use Rattle.grammar.specs.Sets.{Flags, has, only, symbol_count}
use Rattle.grammar.specs.Numbered.{first, final}
use Rattle.grammar.specs.Relations.{corner_step, corners_of, corners}
use Rattle.grammar.specs.Meaning.{rule_of, InBook, Corner, itself, through}
use Rattle.grammar.specs.Laws.{LeftCornersMean, RightCornersMean}
use Rattle.grammar.specs.Rounds.{In, only_has, only_from, length_only, saturated, saturate_keeps}
use Rattle.grammar.specs.Bounded.{rule_in, number_of, of_each, first_in, final_in}
use Rattle.grammar.specs.Flagging.{at_code, insert_if_long, insert_if_keeps, insert_if_from, insert_if_or}

module _ (end : Production → ℕ) (rules : List Production) where
  pub corner_of_corner : (z y x : ℕ) → Corner end rules z y → Corner end rules y x → Corner end rules z x
  corner_of_corner z y x c itself = c
  corner_of_corner z y x c (through k b p d) = through k b p (corner_of_corner z y (end (rule_of rules k)) c d)

  -- a rule for a symbol of the set has its end there too
  abbrev Ended : Flags → Production → Type 0
  Ended s p = has s p.lhs ≡ true → has s (end p) ≡ true

  -- whatever is in such a set has its corners there
  ended_corners : (s : Flags) → ((p : Production) → In p rules → Ended s p) → (z x : ℕ) → Corner end rules z x → has s x ≡ true → has s z ≡ true
  ended_corners s all z x itself e = e
  ended_corners s all z x (through k b p c) e = ended_corners s all z (end (rule_of rules k)) c (all (rule_of rules k) (rule_in rules k b) (ap (has s) p ∙ e))

  -- all in the set are corners of x
  abbrev Sound : ℕ → Flags → Type 0
  Sound x s = (y : ℕ) → has s y ≡ true → Corner end rules y x

  -- what a rule puts in is a corner of its left side
  step_sound : (x : ℕ) (s : Flags) (p : Production) → In p rules → Sound x s → Sound x (corner_step end s p)
  step_sound x s p m h y e =
      elim (insert_if_from (has s p.lhs) s (end p) y e) [
        | inl o ↦ h y o
        | inr n ↦
            let r = number_of rules p m in
            let c : Corner end rules y (end (rule_of rules r.0)) = subst (Corner end rules y) (n.1 ∙ ap end (sym r.2)) itself in
            corner_of_corner y p.lhs x (through r.0 r.1 (ap (λ q. q.lhs) r.2) c) (h p.lhs n.0)
      ]

  corners_sound : (x : ℕ) → Sound x (corners_of end rules x)
  corners_sound x =
      saturate_keeps (corner_step end) (Sound x) rules (step_sound x) (only x)
      (λ y e. subst (Corner end rules y) (only_from x y e) itself)

  -- the corners that are worked out are the corners, if the ends of all rules are codes
  pub corners_mean : ((k : ℕ) → InBook rules k → end (rule_of rules k) < symbol_count) → (x z : ℕ) → x < symbol_count
      → (has (slice_index_or (corners end rules) x []) z ≡ true) ↔ Corner end rules z x
  corners_mean below x z h =
      let at : get_or (corners end rules) x [] ≡ corners_of end rules x = at_code (corners_of end rules) [] x h in
      let done = saturated (corner_step end) (λ p. end p < symbol_count) Ended
      (λ s p. insert_if_long (has s p.lhs) s (end p))
      (λ s p b l. insert_if_or (has s p.lhs) s (end p) (omega arith))
      rules (of_each (λ p. end p < symbol_count) rules below) (only x) (length_only x) in
      let stays = saturate_keeps (corner_step end) (λ s. has s x ≡ true) rules (λ s p m. insert_if_keeps (has s p.lhs) s (end p) x) (only x) (only_has x h) in (
        λ e. corners_sound x z (sym (ap (λ s. has s z) at) ∙ e),
        λ c. ap (λ s. has s z) at ∙ ended_corners (corners_of end rules x) done.1 z x c stays,
      )

pub left_corners_mean : LeftCornersMean
left_corners_mean rules a = corners_mean first rules (λ k b. omega (arith, (first_in rules a k b).1))

pub right_corners_mean : RightCornersMean
right_corners_mean rules a = corners_mean final rules (λ k b. omega (arith, (final_in rules a k b).1))
