-- What stands left of the dot of an item lies on the stack of the reader.
use Rattle.std.proofs.Common.{◌≡◌, ℕ, suc, List, ◌∷◌, ◌++◌, sym, refl, ap, ◌∙◌, subst, append_assoc}
use Rattle.book.specs.Rules.{Production}
use Rattle.grammar.specs.Meaning.{rule_of, after, kept, opens, Expanded, closed, expands, Next, moved, Applies, Move, shifts}
use Rattle.reading.specs.Trees.{Tree, Forest, none, ◌&◌, label, labels}
use Rattle.reading.specs.Tables.{Passing, Faithful}
use Rattle.reading.specs.Reader.{Pile, base, push, top_of}
use Rattle.reading.proofs.Stacks.{drop_suc, Kids, k_none, k_more, ◌⁺◌}

pub kids_snoc : {ks : Forest} {σ₀ σ : Pile} {t : Tree} {s : ℕ} → Kids ks σ₀ σ → Kids (ks ⁺ (t & none)) σ₀ (push σ t s)
kids_snoc k_none = k_more k_none
kids_snoc (k_more k) = k_more (kids_snoc k)

pub labels-⁺ : (rules : List Production) (ks ts : Forest) → labels rules (ks ⁺ ts) ≡ labels rules ks ++ labels rules ts
labels-⁺ rules none ts = refl
labels-⁺ rules (k & ks) ts = ap (λ l. label rules k ∷ l) (labels-⁺ rules ks ts)

module _ (rules : List Production) (T : Faithful rules) where
  open T use {start_state, next_state, action_at, in_kernel, in_lookahead, starts, moves, chosen}

  abbrev at : Pile → ℕ
  at σ = top_of start_state σ

  -- items of a state, and what applies there
  abbrev pub W : ℕ → ℕ → ℕ → Type 0
  W s r d = Expanded rules (Passing (in_kernel s)) (in_lookahead s) r d

  abbrev pub Ap : ℕ → ℕ → Move → Type 0
  Ap s X a = Applies rules (Passing (in_kernel s)) (in_lookahead s) X a

  -- each state is the next one of the state below it
  abbrev pub Linked : Pile → Type 0
  Linked base = Unit {0}
  Linked (push σ t s) = Linked σ × Ap (at σ) (label rules t) shifts × (s ≡ next_state (at σ) (label rules t))

  -- what stands left of an item's dot lies on the stack
  pub record Behind (σ : Pile) (r d : ℕ) : Type 0 where
    pub ks : Forest
    pub σ₀ : Pile
    pub kids : Kids ks σ₀ σ
    pub fits : labels rules ks ++ after rules r d ≡ (rule_of rules r).rhs
    pub begun : W (at σ₀) r 0

  pub behind_over : {σ : Pile} {t : Tree} {s : ℕ} {r d : ℕ} → Next rules (W (at σ)) (label rules t) r d → ((r d : ℕ) → W (at σ) r d → Behind σ r d) → Behind (push σ t s) r d
  behind_over {σ} {t} {s} (moved {r = r} {d = d} {ws = α} w e) ih =
      let B : Behind σ r d = ih r d w in
      let f : after rules r (suc d) ≡ α = drop_suc d (rule_of rules r).rhs e in
      record {
        ks = B.ks ⁺ (t & none);
        σ₀ = B.σ₀;
        kids = kids_snoc B.kids;
        fits = rw (f, labels-⁺, append_assoc) (ap (λ l. labels rules B.ks ++ l) (sym e) ∙ B.fits);
        begun = B.begun;
      }

  pub behind_push : {σ : Pile} {t : Tree} {s : ℕ} {r d : ℕ} → Linked (push σ t s) → W s r d → ((r d : ℕ) → W (at σ) r d → Behind σ r d) → Behind (push σ t s) r d
  behind_push {σ} {t} {s} L (closed (kept {r = r} {d = d} k)) ih =
      behind_over ((moves (at σ) (label rules t) L.1 r d).0 (subst (λ x. Passing (in_kernel x) r d) L.2 k)) ih
  behind_push {σ} {t} {s} L (closed (opens q c e h l)) ih = record { ks = none; σ₀ = push σ t s; kids = k_none; fits = refl; begun = closed (opens q c e h l) }
  behind_push {σ} {t} {s} L (expands q c e h lm ph hq hd nl) ih = record { ks = none; σ₀ = push σ t s; kids = k_none; fits = refl; begun = expands q c e h lm ph hq hd nl }

  pub behind_base : {r d : ℕ} → W start_state r d → Behind base r d
  behind_base (closed (kept {r = r} {d = d} k)) =
      let z : (r ≡ 0) × (d ≡ 0) = (starts r d).0 k in
      record { ks = none; σ₀ = base; kids = k_none; fits = rw z.1 refl; begun = subst (W start_state r) z.1 (closed (kept k)) }
  behind_base (closed (opens q c e h l)) = record { ks = none; σ₀ = base; kids = k_none; fits = refl; begun = closed (opens q c e h l) }
  behind_base (expands q c e h lm ph hq hd nl) = record { ks = none; σ₀ = base; kids = k_none; fits = refl; begun = expands q c e h lm ph hq hd nl }

  pub lies_behind : (σ : Pile) → Linked σ → (r d : ℕ) → W (at σ) r d → Behind σ r d
  lies_behind base L r d w = behind_base w
  lies_behind (push σ t s) L r d w = behind_push L w (lies_behind σ L.0)
