-- Forests, stacks and single steps of the reader: what completeness and soundness share.
use Rattle.std.proofs.Common.{◌≡◌, ℕ, zero, suc, ◌+◌, List, [], ◌∷◌, length, drop, Some, sym, refl, ap, ◌∙◌, add-zero, arith}
use mathlib.Core.List.{nil≢cons}
use Rattle.book.specs.Rules.{Production}
use Rattle.grammar.specs.Meaning.{rule_of, shifts, reduces}
use Rattle.reading.specs.Trees.{Tree, Forest, node, none, ◌&◌, label, labels}
use Rattle.reading.specs.Tables.{Faithful}
use Rattle.reading.specs.Reader.{Pile, push, go, top_of, unstack, next_symbol, obey, step_from}

abbrev pub size : Forest → ℕ
size none = 0
size (t & ts) = suc (size ts)

pub drop_suc : (d : ℕ) (xs : List ℕ) {X : ℕ} {α : List ℕ} → drop d xs ≡ X ∷ α → drop (suc d) xs ≡ α
drop_suc zero xs e = ap (drop 1) e
drop_suc (suc d) [] e = absurd (nil≢cons e)
drop_suc (suc d) (x ∷ xs) e = drop_suc d xs e

infixr 50 ◌⁺◌
abbrev pub ◌⁺◌ : Forest → Forest → Forest
none ⁺ ts = ts
(k & ks) ⁺ ts = k & (ks ⁺ ts)

pub ⁺-none : (ks : Forest) → ks ⁺ none ≡ ks
⁺-none none = refl
⁺-none (k & ks) = ap (λ r. k & r) (⁺-none ks)

-- the stack σ' is σ with the trees pushed
pub data Kids : Forest → Pile → Pile → Type 0 where
  k_none : {σ : Pile} → Kids none σ σ
  k_more : {t : Tree} {s : ℕ} {ks : Forest} {σ σ' : Pile} → Kids ks (push σ t s) σ' → Kids (t & ks) σ σ'

pub unstack_kids : {ks : Forest} {σ σ' : Pile} → Kids ks σ σ' → (n : ℕ) (ts : Forest) → unstack (size ks + n) σ' ts ≡ unstack n σ (ks ⁺ ts)
unstack_kids {σ} k_none n ts = ap (λ (m : ℕ). unstack m σ ts) (omega arith)
unstack_kids {σ} {σ'} (k_more {ks = ks} k) n ts =
    let e : suc (size ks) + n ≡ size ks + suc n = omega arith in
    rw e (unstack_kids k (suc n) ts)

module _ (rules : List Production) (T : Faithful rules) where
  open T use {start_state, next_state, action_at}

  abbrev pub St : Type 0
  St = Pile

  abbrev pub at : St → ℕ
  at σ = top_of start_state σ

  pub step_shift : (σ : St) (ρ : Forest) (x : Tree) (ρ' : Forest) → ρ ≡ x & ρ' → action_at (at σ) (label rules x) ≡ (Some shifts)
      → step_from rules T σ ρ ≡ go (push σ x (next_state (at σ) (label rules x))) ρ'
  step_shift σ ρ x ρ' e a = rw e (ap (λ c. obey rules T c σ (x & ρ')) a)

  pub labels_size : (ks : Forest) → length (labels rules ks) ≡ size ks
  labels_size none = refl
  labels_size (k & ks) = ap suc (labels_size ks)

  pub unstack_reduce : (σ₀ σ : St) (ks : Forest) (r : ℕ) → Kids ks σ₀ σ → labels rules ks ≡ (rule_of rules r).rhs → unstack (length (rule_of rules r).rhs) σ none ≡ (σ₀, ks)
  unstack_reduce σ₀ σ ks r k e =
      let n : length (rule_of rules r).rhs ≡ size ks + 0 = ap length (sym e) ∙ labels_size ks ∙ sym (add-zero (size ks)) in
      rw n (unstack_kids k 0 none ∙ ap (λ f. (σ₀, f)) (⁺-none ks))

  pub step_reduce : (σ₀ σ : St) (ρ ks : Forest) (r : ℕ) → Kids ks σ₀ σ → labels rules ks ≡ (rule_of rules r).rhs → action_at (at σ) (next_symbol rules ρ) ≡ Some (reduces r)
      → step_from rules T σ ρ ≡ go σ₀ (node r ks & ρ)
  step_reduce σ₀ σ ρ ks r k e a = ap (λ c. obey rules T c σ ρ) a ∙ ap (λ v. go v.0 (node r v.1 & ρ)) (unstack_reduce σ₀ σ ks r k e)
