-- At accept the stack holds one tree, with the start symbol as its label.
use Rattle.std.proofs.Common.{◌≡◌, ℕ, suc, ◌≤◌, true, List, [], ◌∷◌, ◌++◌, Some, None, Option, sym, refl, ap, ◌∙◌, subst, append-nil, arith}
use Rattle.book.specs.Rules.{Production, all_bounded}
use Rattle.grammar.specs.Meaning.{kept, opens, closed, expands, Next, moved, ends, Move, shifts, accepts, reduces}
use Rattle.reading.specs.Trees.{Tree, Forest, node, leaf, none, ◌&◌, label, labels, Made, MadeAll}
use Rattle.reading.specs.Tables.{Passing, Faithful}
use Rattle.reading.specs.Reader.{Pile, base, push, done, top_of, next_symbol, obey, step_from}
use Rattle.reading.proofs.Basics.{terminal_in, left_code, zero_one}
use Rattle.reading.proofs.Stacks.{Kids, k_none, k_more}
use Rattle.reading.proofs.Behind.{W, Ap, Linked, Behind, lies_behind}
use Rattle.reading.proofs.Stepping.{by_chosen, linked_kids}

module _ (rules : List Production) (T : Faithful rules) where
  open T use {start_state, next_state, action_at, in_kernel, in_lookahead, starts, moves, chosen}

  abbrev at : Pile → ℕ
  at σ = top_of start_state σ

  abbrev depth : Pile → ℕ
  depth base = 0
  depth (push σ t s) = suc (depth σ)

  pub over_zero : {s : ℕ} {X r d : ℕ} → Next rules (W rules T s) X r d → d ≡ 0 → ⊥
  over_zero (moved w e) z = omega arith

  -- only state 0 has the outer rule at dot 0
  pub not_above : (σ : Pile) (t : Tree) (s : ℕ) {r d : ℕ} → Linked rules T (push σ t s) → W rules T s r d → r ≡ 0 → d ≡ 0 → ⊥
  not_above σ t s L (closed (kept {r = r} {d = d} k)) z y = over_zero ((moves (at σ) (label rules t) L.1 r d).0 (subst (λ x. Passing (in_kernel x) r d) L.2 k)) y
  not_above σ t s L (closed (opens q c e h l)) z y = let f = h.low in omega arith
  not_above σ t s L (expands q c e h lm ph hq hd nl) z y = let f = hq.low in omega arith

  pub only_base : (σ : Pile) → Linked rules T σ → W rules T (at σ) 0 0 → σ ≡ base
  only_base base L w = refl
  only_base (push σ t s) L w = absurd (not_above σ t s L w refl refl)

  module _ (bounded : all_bounded rules ≡ true) where
    pub label_some : (t : Tree) → Made rules t → label rules t ≡ 0 → ⊥
    label_some (leaf w) m e = let p = terminal_in w m in omega arith
    label_some (node r ks) m e = let p = left_code rules bounded r m.0 in omega arith

    pub none_left : (ρ : Forest) → MadeAll rules ρ → next_symbol rules ρ ≡ 0 → ρ ≡ none
    none_left none m e = refl
    none_left (t & ts) m e = absurd (label_some t m.0 e)

    -- at accept the stack holds one tree, with the label 41, and nothing is pending
    pub record Accepted (σ : Pile) (ρ : Forest) (t : Tree) : Type 0 where
      pub s : ℕ
      pub alone : σ ≡ push base t s
      pub nothing : ρ ≡ none
      pub root : label rules t ≡ 41

    pub one_kid : (ks : Forest) → labels rules ks ≡ 41 ∷ [] → (k : Tree) × (ks ≡ k & none) × (label rules k ≡ 41)
    one_kid none e = absurd (zero_one (cc))
    one_kid (k & none) e = (k, refl, cc)
    one_kid (k & (l & ks)) e = absurd (zero_one (cc))

    pub accepted_ends : {σ : Pile} {ρ : Forest} {t : Tree} {s : ℕ} → Linked rules T (push σ t s) → MadeAll rules ρ → Ap rules T s (next_symbol rules ρ) accepts → Accepted (push σ t s) ρ t
    accepted_ends {σ} {ρ} {t} {s} L m (ends {d = d} c e z) =
        let B : Behind rules T (push σ t s) 0 d = lies_behind rules T (push σ t s) L 0 d (closed c) in
        let f : labels rules B.ks ≡ 41 ∷ [] = sym (append-nil (labels rules B.ks)) ∙ ap (λ l. labels rules B.ks ++ l) (sym e) ∙ B.fits in
        let (k, ek, lk) = one_kid B.ks f in
        let p : B.σ₀ ≡ base = only_base B.σ₀ (linked_kids rules T B.kids L) B.begun in
        let (s₁, q) = kids_one (subst (λ x. Kids x B.σ₀ (push σ t s)) ek B.kids) in
        record { s = s; alone = cc; nothing = none_left ρ m z; root = let u : t ≡ k = cc in ap (label rules) u ∙ lk }
      where
        kids_zero : {σ₀ σ : Pile} → Kids none σ₀ σ → σ ≡ σ₀
        kids_zero k_none = refl

        kids_one : {t : Tree} {σ₀ σ : Pile} → Kids (t & none) σ₀ σ → (s : ℕ) × (σ ≡ push σ₀ t s)
        kids_one (k_more {s = s} k) = (s, kids_zero k)

    pub accepted_as : (a : Option Move) (σ : Pile) (ρ : Forest) {t : Tree} → Linked rules T σ → MadeAll rules ρ → action_at (at σ) (next_symbol rules ρ) ≡ a → obey rules T a σ ρ ≡ done t → Accepted σ ρ t
    accepted_as None σ ρ L m e h = absurd (zero_one (cc))
    accepted_as (Some shifts) σ none L m e h = absurd (zero_one (cc))
    accepted_as (Some shifts) σ (t & ts) L m e h = absurd (zero_one (cc))
    accepted_as (Some (reduces r)) σ ρ L m e h = absurd (zero_one (cc))
    accepted_as (Some accepts) base ρ L m e h = absurd (zero_one (cc))
    accepted_as (Some accepts) (push σ t s) ρ {t = t'} L m e h =
        let q : t ≡ t' = cc in
        subst (Accepted (push σ t s) ρ) q (accepted_ends L m (by_chosen rules T e))

    pub accepted : {σ : Pile} {ρ : Forest} {t : Tree} → Linked rules T σ → MadeAll rules ρ → step_from rules T σ ρ ≡ done t → Accepted σ ρ t
    accepted {σ} {ρ} L m e = accepted_as (action_at (at σ) (next_symbol rules ρ)) σ ρ L m refl e

    -- at accept a tree is on the stack
    pub accepts_some : (σ : Pile) {X : ℕ} → Linked rules T σ → Ap rules T (at σ) X accepts → (t : Tree) × (σ₁ : Pile) × (s : ℕ) × (σ ≡ push σ₁ t s)
    accepts_some (push σ t s) L a = (t, σ, s, refl)
    accepts_some base L (ends {d = d} c e z) =
        let B : Behind rules T base 0 d = lies_behind rules T base L 0 d (closed c) in
        let f : labels rules B.ks ≡ 41 ∷ [] = sym (append-nil (labels rules B.ks)) ∙ ap (λ l. labels rules B.ks ++ l) (sym e) ∙ B.fits in
        let (k, ek, lk) = one_kid B.ks f in
        absurd (empty (subst (λ x. Kids x B.σ₀ base) ek B.kids))
      where
        deeper : {ks : Forest} {σ₀ σ : Pile} → Kids ks σ₀ σ → depth σ₀ ≤ depth σ
        deeper k_none = omega arith
        deeper (k_more k) = let h = deeper k in omega arith

        empty : {t : Tree} {σ₀ : Pile} → Kids (t & none) σ₀ base → ⊥
        empty (k_more k) = let h = deeper k in omega arith
