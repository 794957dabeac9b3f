-- The reader follows every tree: completeness.
use Rattle.std.proofs.Common.{◌≡◌, ℕ, zero, suc, ◌+◌, ◌*◌, true, ◌⊎◌, List, [], ◌∷◌, Some, sym, refl, ap, ◌∙◌, subst, subst₂, inl, inr, arith}
use Rattle.book.specs.Rules.{Production, all_bounded}
use Rattle.grammar.specs.Meaning.{rule_of, Adjacent, later, RightCorner, at_end, ends, accepts}
use Rattle.reading.specs.Trees.{Tree, Forest, node, none, ◌&◌, label, labels, Made, MadeAll, Derives}
use Rattle.reading.proofs.Basics.{Ends, ends_here, ends_there}
use Rattle.reading.specs.Tables.{Faithful}
use Rattle.reading.specs.Reader.{Pile, base, push, done, top_of, obey, step_from, Runs, run_done, run_go, as_leaves}
use Rattle.reading.proofs.Stacks.{size, Kids, k_none, k_more, step_reduce}
use Rattle.reading.proofs.Uppers.{Up, whole, fronts, nds, some?, up, whole_up, front_up, end, fr, nd}
use Rattle.reading.proofs.Cuts.{C, c_start, c_reduce, c_look, Cut₀, p_none, p_some}
use Rattle.reading.proofs.Diving.{Into, into}
use Rattle.reading.proofs.Lifting.{Moved, Reduced, Result, moves_on, all_here, deep}
use Rattle.reading.proofs.Advancing.{advance}

module _ (rules : List Production) (T : Faithful rules) (bounded : all_bounded rules ≡ true) where
  open T use {start_state, next_state, in_lookahead, action_at, sole}

  abbrev at : Pile → ℕ
  at σ = top_of start_state σ

  ends_one : {Z X : ℕ} → Ends Z (X ∷ []) → Z ≡ X
  ends_one ends_here = refl
  ends_one (ends_there h) = elim h [ ]

  beside_one : {X Y Z : ℕ} → Adjacent X Y (Z ∷ []) → ⊥
  beside_one (later h) = elim h [ ]

  kids_zero : {σ₀ σ : Pile} → Kids none σ₀ σ → σ ≡ σ₀
  kids_zero k_none = refl

  kids_one : {t : Tree} {σ₀ σ : Pile} → Kids (t & none) σ₀ σ → (s : ℕ) × (σ ≡ push σ₀ t s)
  kids_one (k_more {s = s} k) = (s, kids_zero k)

  some_whole : (us : Up) {t : Tree} → whole us ≡ t & none → some? us ≡ true
  some_whole end e = cc
  some_whole (fr t us) e = refl
  some_whole (nd r vs us) e = refl

  -- the reader at a cut of the outer node: it moves on along the tree, or it is done
  module _ (t : Tree) (made : Made rules t) (root : label rules t ≡ 41) where
    at_start : (us : Up) → whole us ≡ t & none → Moved rules T bounded none 0 true us base base (fronts us none)
    at_start us e =
        let c : C rules T start_state 0 (labels rules (whole us)) = rw (e, root) (c_start rules T) in
        let I : Into rules T bounded none 0 us base = into rules T bounded none 0 us base c (subst (MadeAll rules) (sym e) (made, tt)) (some_whole us e) in
        record { us₂ = us; σ₂ = push base I.x I.s; ρ₂ = I.ρ; steps = I.steps; same = refl; less = let l = I.less in omega arith; cut = p_some I.cut }

    at_last : (us : Up) (σ : Pile) (ρ : Forest) → whole us ≡ t & none → Result rules T bounded none 0 true us base σ ρ → Moved rules T bounded none 0 true us base σ ρ ⊎ (step_from rules T σ ρ ≡ done t)
    at_last us σ ρ e (moves_on m) = inl m
    at_last us σ ρ e (all_here _ k c f n h) =
        let (s, z) = kids_one (subst (λ f. Kids f base σ) e k) in
        let a : action_at (at σ) 0 ≡ (Some accepts) = sole (at σ) 0 accepts (ends c.1 c.2 refl) in
        inr (rw h (ap (λ x. obey rules T x σ none) a ∙ rw z refl))
    at_last us σ ρ e (deep d h) =
        let R : Reduced rules T bounded none 0 true us base d.σ₀ (node d.p d.ks) none = d.red none in
        let z : d.Z ≡ 41 = ends_one (rw e at d.ends) ∙ root in
        let l : in_lookahead (at σ) d.p 0 ≡ true = c_look rules T d.p_whole.complete d.p_whole.book (at_end (subst (RightCorner rules (rule_of rules d.p).lhs) z d.corner)) in
        inl record {
          us₂ = R.us₂;
          σ₂ = d.σ₀;
          ρ₂ = node d.p d.ks & ρ;
          steps = step_reduce rules T d.σ₀ σ ρ d.ks d.p d.p_whole.kids d.p_whole.fits (rw h (c_reduce rules T d.p_whole.complete d.p_whole.book l));
          same = R.same;
          less = let k = R.less in omega arith;
          cut = rw h R.cut;
        }

    round : (us : Up) {σ : Pile} {ρ : Forest} → whole us ≡ t & none → Cut₀ rules T none 0 true us base σ ρ → Moved rules T bounded none 0 true us base σ ρ ⊎ (step_from rules T σ ρ ≡ done t)
    round us e p_none = inl (at_start us e)
    round us {σ} {ρ} e (p_some p) = at_last us σ ρ e (advance rules T bounded p (subst (MadeAll rules) (sym e) (made, tt)) (λ X Y A h _. absurd (beside_one (rw e at h))))

    follow : (n : ℕ) (us : Up) (σ : Pile) (ρ : Forest) → whole us ≡ t & none → Cut₀ rules T none 0 true us base σ ρ → 2 * nds us + size ρ ≡ n → Runs rules T σ ρ t
    follow zero us σ ρ e p h = elim (round us e p) [ inl m ↦ absurd (let l = m.less in omega arith) | inr d ↦ run_done d ]
    follow (suc n) us σ ρ e p h = elim (round us e p) [
      | inl m ↦ run_go m.steps (follow n m.us₂ m.σ₂ m.ρ₂ (m.same ∙ e) m.cut (let l = m.less in omega arith))
      | inr d ↦ run_done d
    ]

-- Every tree of a line is the tree that the reader builds.
pub complete : (rules : List Production) (T : Faithful rules) → all_bounded rules ≡ true → (t : Tree) (line : List ℕ) → Derives rules t line → Runs rules T base (as_leaves line) t
complete rules T bounded t line D =
    let e : fronts (up t end) none ≡ as_leaves line = front_up t end none [] refl ∙ ap as_leaves D.spells in
    subst (λ ρ. Runs rules T base ρ t) e (follow rules T bounded t D.made D.root _ (up t end) base (fronts (up t end) none) (whole_up t end) p_none refl)

same_run : (rules : List Production) (T : Faithful rules) {σ : Pile} {ρ : Forest} {t t' : Tree} → Runs rules T σ ρ t → Runs rules T σ ρ t' → t ≡ t'
same_run rules T (run_done e) (run_done e') = cc
same_run rules T (run_done e) (run_go e' r') = cc
same_run rules T (run_go e r) (run_done e') = cc
same_run rules T {σ} {ρ} {t} {t'} (run_go {σ' = σ₁} {ρ' = ρ₁} e r) (run_go {σ' = σ₂} {ρ' = ρ₂} e' r') =
    let p : σ₂ ≡ σ₁ = cc in
    let q : ρ₂ ≡ ρ₁ = cc in
    same_run rules T r (subst₂ (λ x y. Runs rules T x y t') p q r')

pub unique : (rules : List Production) (T : Faithful rules) → all_bounded rules ≡ true → (t t' : Tree) (line : List ℕ) → Derives rules t line → Derives rules t' line → t ≡ t'
unique rules T bounded t t' line D D' = same_run rules T (complete rules T bounded t line D) (complete rules T bounded t' line D')
