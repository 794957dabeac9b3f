-- Closing an item set gives its closed set.
use Rattle.std.proofs.Common.{◌≡◌, ℕ, ◌<◌, Bool, true, ◌⊎◌, List, ◌∷◌, length, sym, refl, ap, ◌∙◌, subst, inl, inr, arith}
use Rattle.std.proofs.lemmas.Bool.{cases_eq}
use Rattle.book.specs.Rules.{Production, all_bounded}
use Rattle.grammar.specs.Sets.{has}
use Rattle.grammar.specs.Numbered.{numbered}
use Rattle.grammar.specs.Items.{Items, reads, close_round, close}
use Rattle.grammar.specs.Meaning.{rule_of, InBook, Holds, after, Closed, kept, opens}
use Rattle.grammar.specs.Laws.{Shaped, ClosingMeans}
use Rattle.grammar.specs.Rounds.{rests}
use Rattle.grammar.proofs.Rights.{rule_fits, behind_at}
use Rattle.grammar.proofs.Reading.{reads_mean}
use Rattle.grammar.proofs.Opening.{open_by, opened_is, open_keeps, open_from, open_has, open_shaped, missing, missing_le, open_or}

module _ (rules : List Production) (b : all_bounded rules ≡ true) (k : Items) where
  -- whether a rule's left side is read
  abbrev opens_in : Items → ℕ → Bool
  opens_in t q = has (reads (numbered rules) t) (rule_of rules q).lhs

  round_is : (t : Items) → Shaped rules t → close_round (numbered rules) t ≡ open_by (opens_in t) t
  round_is t sh = opened_is (reads (numbered rules) t) (numbered rules) t (omega (arith, sh.rows))

  -- what stands behind a dot is not the left side of the outer rule
  inner : (r d q : ℕ) (ws : List ℕ) → after rules r d ≡ (rule_of rules q).lhs ∷ ws → q < length (numbered rules) → InBook rules q
  inner r d q ws e h =
      let at = behind_at (rule_of rules r).rhs d (rule_of rules q).lhs ws e in
      let low = ((rule_fits rules b r).symbols d at.0).0 in
      elim (cases_eq q 0) [
        | inl z ↦ let y : (rule_of rules q).lhs ≡ 0 = ap (λ j. (rule_of rules j).lhs) z in absurd (omega (arith, at.1))
        | inr n ↦ record { low = omega arith; high = omega arith }
      ]

  -- what rounds keep: the shape, that only items of the closed set are in, and that all of the kernel are
  record Between (t : Items) : Type 0 where
    shaped : Shaped rules t
    sound : (r d : ℕ) → Holds t r d → Closed rules (Holds k) r d
    full : (r d : ℕ) → Holds k r d → Holds t r d

  round_sound : (t : Items) → Between t → (q e : ℕ) → Holds (open_by (opens_in t) t) q e → Closed rules (Holds k) q e
  round_sound t w q e h =
      elim (open_from (opens_in t) t q e h) [
        | inl p ↦ w.sound q e p
        | inr p ↦
            let m = (reads_mean rules b t w.shaped (rule_of rules q).lhs).0 p.0 in
            subst (λ z. Closed rules (Holds k) q z) (sym p.2)
            (opens q (w.sound m.0 m.1 m.3) m.4 (inner m.0 m.1 q m.2 m.4 (omega (arith, p.1, w.shaped.rows))) refl)
      ]

  round_keeps : (t : Items) → Between t → Between (close_round (numbered rules) t)
  round_keeps t w = subst Between (sym (round_is t w.shaped)) record {
    shaped = open_shaped rules (opens_in t) t w.shaped;
    sound = round_sound t w;
    full = λ r d h. open_keeps (opens_in t) t r d (w.full r d h);
  }

  round_or : (t : Items) → Between t → (close_round (numbered rules) t ≡ t) ⊎ (missing (close_round (numbered rules) t) < missing t)
  round_or t w = rw (round_is t w.shaped) (open_or (opens_in t) t)

  -- a set that a round leaves as it is holds all of the closed set
  rest_full : (t : Items) → Between t → close_round (numbered rules) t ≡ t → (r d : ℕ) → Closed rules (Holds k) r d → Holds t r d
  rest_full t w still r d (kept h) = w.full r d h
  rest_full t w still _ _ (opens {r} {d} {x} {ws} q c behind i left) =
      let h : Holds t r d = rest_full t w still r d c in
      let m : has (reads (numbered rules) t) x ≡ true = (reads_mean rules b t w.shaped x).1 (r, d, ws, h, behind) in
      let n : opens_in t q ≡ true = ap (has (reads (numbered rules) t)) left ∙ m in
      let size = w.shaped.dots q (omega (arith, i.high)) in
      subst (λ u. Holds u q 0) (sym (round_is t w.shaped) ∙ still) (open_has (opens_in t) t q (omega (arith, w.shaped.rows, i.high)) (omega arith) n)

pub closing_means : ClosingMeans
closing_means rules b k sh =
    let at_first : Between rules b k k = record { shaped = sh; sound = λ r d h. kept h; full = λ r d h. h } in
    let end = rests (close_round (numbered rules)) (Between rules b k) missing (round_keeps rules b k) (round_or rules b k) (length (numbered rules)) k at_first
    (omega (arith, missing_le k, sh.rows)) in
    (end.1.shaped, λ r d. (end.1.sound r d, rest_full rules b k (close (numbered rules) k) end.1 end.0 r d))
