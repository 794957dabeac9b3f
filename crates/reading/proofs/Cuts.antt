-- Where the stack of the reader lies in an upper forest.
use Rattle.std.proofs.Common.{◌≡◌, ℕ, suc, Bool, true, false, List, [], ◌∷◌, Some, refl, subst}
use Rattle.book.specs.Rules.{Production, all_bounded}
use Rattle.grammar.specs.Meaning.{rule_of, InBook, LeftCorner, itself, through, LeftmostFollower, after, Closed, kept, opens, Expanded, closed, moved, reads, looks, shifts, reduces}
use Rattle.reading.specs.Trees.{Tree, Forest, labels}
use Rattle.reading.proofs.Basics.{right_first}
use Rattle.reading.specs.Tables.{Passing, Faithful}
use Rattle.reading.specs.Reader.{Pile, push, top_of}
use Rattle.reading.proofs.Stacks.{drop_suc}
use Rattle.reading.proofs.Uppers.{Up, whole, fronts, end, fr, nd}

module _ (rules : List Production) (T : Faithful rules) where
  open T use {start_state, next_state, in_kernel, in_lookahead, action_at, lawful, starts, moves, chosen, sole}

  -- items by the symbols after the dot
  abbrev pub C : ℕ → ℕ → List ℕ → Type 0
  C s r β = (d : ℕ) × Closed rules (Passing (in_kernel s)) r d × (after rules r d ≡ β)

  abbrev pub It : ℕ → ℕ → List ℕ → Type 0
  It s r β = (d : ℕ) × Expanded rules (Passing (in_kernel s)) (in_lookahead s) r d × (after rules r d ≡ β)

  pub c_start : C start_state 0 (41 ∷ [])
  c_start = (0, kept ((starts 0 0).1 (refl, refl)), refl)

  pub c_close : {s : ℕ} {r X : ℕ} {α : List ℕ} (q : ℕ) → C s r (X ∷ α) → InBook rules q → (rule_of rules q).lhs ≡ X → C s q (rule_of rules q).rhs
  c_close q c h e = (0, opens q c.1 c.2 h e, refl)

  pub c_corner : {s : ℕ} (q : ℕ) → all_bounded rules ≡ true → InBook rules q → {Y : ℕ} → LeftCorner rules (rule_of rules q).lhs Y → {r : ℕ} {α : List ℕ} → C s r (Y ∷ α) → C s q (rule_of rules q).rhs
  c_corner q a h itself c = c_close q c h refl
  c_corner q a h (through p hp el hd) c = c_corner q a h hd (subst (C _ p) (right_first rules a p hp) (c_close p c hp el))

  pub it_next : {s : ℕ} {r X : ℕ} {α : List ℕ} → It s r (X ∷ α) → C (next_state s X) r α
  it_next {s} {r} {X} {α} i = (suc i.0, kept ((moves s X (reads i.1 i.2) r (suc i.0)).1 (moved i.1 i.2)), drop_suc i.0 (rule_of rules r).rhs i.2)

  pub it_shift : {s : ℕ} {r X : ℕ} {α : List ℕ} → It s r (X ∷ α) → action_at s X ≡ (Some shifts)
  it_shift {s} {r} {X} {α} i = sole s X shifts (reads i.1 i.2)

  pub c_reduce : {s : ℕ} {r X : ℕ} → C s r [] → InBook rules r → in_lookahead s r X ≡ true → action_at s X ≡ Some (reduces r)
  c_reduce {s} {r} {X} c h l = sole s X (reduces r) (looks c.1 c.2 h l)

  pub c_look : {s : ℕ} {r Y : ℕ} → C s r [] → InBook rules r → LeftmostFollower rules (rule_of rules r).lhs Y → in_lookahead s r Y ≡ true
  c_look {s} {r} {Y} c h l = lawful s r c.0 Y c.1 c.2 h l

  pub c_it : {s : ℕ} {r : ℕ} {α : List ℕ} → C s r α → It s r α
  c_it c = (c.0, closed c.1, c.2)

  abbrev at : Pile → ℕ
  at σ = top_of start_state σ

  -- Where the stack lies in an upper forest: us are children of a node with rule r, the last ones; the flag says that all children before them
  -- are front trees and stand on the stack, right below.
  -- Scanned r dense us σ σ': all front trees of us (at least one) were shifted, and took the stack from σ to σ'.
  pub data Scanned : ℕ → Bool → Up → Pile → Pile → Type 0 where
    f_last : {r : ℕ} {σ : Pile} {t : Tree} {s : ℕ} → C s r [] → Scanned r true (fr t end) σ (push σ t s)
    f_more : {r : ℕ} {us : Up} {σ σ' : Pile} {t : Tree} {s : ℕ} → C s r (labels rules (whole us)) → Scanned r true us (push σ t s) σ' → Scanned r true (fr t us) σ σ'
    f_node : {r q : ℕ} {dense : Bool} {vs : Up} {σ σ' : Pile} → Scanned q true vs σ σ' → Scanned r dense (nd q vs end) σ σ'
    f_over : {r q : ℕ} {dense : Bool} {vs us : Up} {σ σ₁ σ' : Pile} → Scanned q true vs σ σ₁ → Scanned r false us σ₁ σ' → Scanned r dense (nd q vs us) σ σ'

  -- Cut τ r dense us σ σ' ρ: the dot stands in us; what is left of it (at least one tree) took the stack from σ to σ', and ρ is what is right of it, before τ.
  pub data Cut : Forest → ℕ → Bool → Up → Pile → Pile → Forest → Type 0 where
    p_last : {τ : Forest} {r : ℕ} {us : Up} {σ : Pile} {t : Tree} {s : ℕ} → C s r (labels rules (whole us)) → Cut τ r true (fr t us) σ (push σ t s) (fronts us τ)
    p_more : {τ ρ : Forest} {r : ℕ} {us : Up} {σ σ' : Pile} {t : Tree} {s : ℕ} → C s r (labels rules (whole us)) → Cut τ r true us (push σ t s) σ' ρ → Cut τ r true (fr t us) σ σ' ρ
    p_in : {τ ρ : Forest} {r q : ℕ} {dense : Bool} {vs us : Up} {σ σ' : Pile} → Cut (fronts us τ) q true vs σ σ' ρ → Cut τ r dense (nd q vs us) σ σ' ρ
    p_over : {τ ρ : Forest} {r q : ℕ} {dense : Bool} {vs us : Up} {σ σ₁ σ' : Pile} → Scanned q true vs σ σ₁ → Cut τ r false us σ₁ σ' ρ → Cut τ r dense (nd q vs us) σ σ' ρ

  -- the same, where nothing need be left of the dot
  pub data Cut₀ : Forest → ℕ → Bool → Up → Pile → Pile → Forest → Type 0 where
    p_none : {τ : Forest} {r : ℕ} {dense : Bool} {us : Up} {σ : Pile} → Cut₀ τ r dense us σ σ (fronts us τ)
    p_some : {τ ρ : Forest} {r : ℕ} {dense : Bool} {us : Up} {σ σ' : Pile} → Cut τ r dense us σ σ' ρ → Cut₀ τ r dense us σ σ' ρ

  pub to_cut : {r : ℕ} {dense : Bool} {us : Up} {σ σ' : Pile} → Scanned r dense us σ σ' → (τ : Forest) → Cut τ r dense us σ σ' τ
  to_cut (f_last c) τ = p_last c
  to_cut (f_more c f) τ = p_more c (to_cut f τ)
  to_cut (f_node f) τ = p_in (to_cut f τ)
  to_cut (f_over f g) τ = p_over f (to_cut g τ)

  pub more₀ : {τ ρ : Forest} {r : ℕ} {us : Up} {σ : Pile} {t : Tree} {s : ℕ} {σ' : Pile} → C s r (labels rules (whole us)) → Cut₀ τ r true us (push σ t s) σ' ρ → Cut₀ τ r true (fr t us) σ σ' ρ
  more₀ c p_none = p_some (p_last c)
  more₀ c (p_some p) = p_some (p_more c p)

  pub in₀ : {τ ρ : Forest} {r q : ℕ} {dense : Bool} {vs us : Up} {σ σ' : Pile} → Cut₀ (fronts us τ) q true vs σ σ' ρ → Cut₀ τ r dense (nd q vs us) σ σ' ρ
  in₀ p_none = p_none
  in₀ (p_some p) = p_some (p_in p)

  pub over₀ : {τ ρ : Forest} {r q : ℕ} {dense : Bool} {vs us : Up} {σ σ₁ σ' : Pile} → Scanned q true vs σ σ₁ → Cut₀ τ r false us σ₁ σ' ρ → Cut₀ τ r dense (nd q vs us) σ σ' ρ
  over₀ f p_none = p_some (p_in (to_cut f _))
  over₀ f (p_some p) = p_some (p_over f p)
