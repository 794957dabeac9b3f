-- What a step of the reader does, and that the stack and the trees stay made of the rules, over the line.
use Rattle.std.proofs.Common.{◌≡◌, ℕ, List, [], ◌++◌, Some, None, Option, sym, refl, ap, ◌∙◌, subst, append-nil}
use Rattle.book.specs.Rules.{Production}
use Rattle.grammar.specs.Meaning.{rule_of, InBook, closed, looks, Move, shifts, accepts, reduces}
use Rattle.reading.specs.Trees.{Tree, Forest, node, none, ◌&◌, label, labels, leaves, leaves_of, Made, MadeAll}
use Rattle.reading.specs.Tables.{Passing, Applying, Faithful}
use Rattle.reading.specs.Reader.{Pile, base, push, go, top_of, next_symbol, obey, step_from}
use Rattle.reading.proofs.Basics.{zero_one}
use Rattle.reading.proofs.Stacks.{Kids, k_none, k_more, step_reduce}
use Rattle.reading.proofs.Behind.{Ap, Linked, Behind, lies_behind}

-- the words under the stack, before what follows
abbrev pub under : Pile → List ℕ → List ℕ
under base ws = ws
under (push σ t s) ws = under σ (leaves t ws)

pub under_kids : {ks : Forest} {σ₀ σ : Pile} → Kids ks σ₀ σ → (ws : List ℕ) → under σ ws ≡ under σ₀ (leaves_of ks ws)
under_kids k_none ws = refl
under_kids (k_more k) ws = under_kids k ws

module _ (rules : List Production) (T : Faithful rules) where
  open T use {start_state, next_state, action_at, in_kernel, in_lookahead, starts, moves, chosen}

  abbrev at : Pile → ℕ
  at σ = top_of start_state σ

  -- a step of the reader is a shift or a reduce of the children of a rule
  pub data Stepped (σ : Pile) (ρ : Forest) (σ' : Pile) (ρ' : Forest) : Type 0 where
    shifted : (t : Tree) (s : ℕ) → action_at (at σ) (next_symbol rules ρ) ≡ (Some shifts) → ρ ≡ t & ρ' → σ' ≡ push σ t s → Linked rules T (push σ t s) → Stepped σ ρ σ' ρ'
    reduced : (r : ℕ) (ks : Forest) → action_at (at σ) (next_symbol rules ρ) ≡ Some (reduces r) → InBook rules r → Kids ks σ' σ → labels rules ks ≡ (rule_of rules r).rhs → ρ' ≡ node r ks & ρ → Stepped σ ρ σ' ρ'

  pub by_chosen : {s : ℕ} {X : ℕ} {m : Move} → action_at s X ≡ Some m → Ap rules T s X m
  by_chosen {s} {X} {m} e = subst (Applying rules (Passing (in_kernel s)) (in_lookahead s) X) e (chosen s X)

  -- a reduce finds the children of its rule on the stack
  pub record Popped (σ : Pile) (r : ℕ) : Type 0 where
    pub ks : Forest
    pub σ₀ : Pile
    pub book : InBook rules r
    pub kids : Kids ks σ₀ σ
    pub fits : labels rules ks ≡ (rule_of rules r).rhs

  pub popped_by : {σ : Pile} {X r : ℕ} → Linked rules T σ → Ap rules T (at σ) X (reduces r) → Popped σ r
  popped_by {σ} L (looks {r = r} {d = d} c e h l) =
      let B : Behind rules T σ r d = lies_behind rules T σ L r d (closed c) in
      record { ks = B.ks; σ₀ = B.σ₀; book = h; kids = B.kids; fits = sym (append-nil (labels rules B.ks)) ∙ ap (λ l. labels rules B.ks ++ l) (sym e) ∙ B.fits }

  pub stepped_reduce : {σ σ' : Pile} {ρ ρ' : Forest} {r : ℕ} → Popped σ r → action_at (at σ) (next_symbol rules ρ) ≡ Some (reduces r) → step_from rules T σ ρ ≡ go σ' ρ' → Stepped σ ρ σ' ρ'
  stepped_reduce {σ} {σ'} {ρ} {ρ'} {r} P a g =
      let g₂ : step_from rules T σ ρ ≡ go P.σ₀ (node r P.ks & ρ) = step_reduce rules T P.σ₀ σ ρ P.ks r P.kids P.fits a in
      let p : P.σ₀ ≡ σ' = cc in
      let q : ρ' ≡ node r P.ks & ρ = cc in
      reduced r P.ks a P.book (subst (λ x. Kids P.ks x σ) p P.kids) P.fits q

  pub popped : {σ : Pile} {X r : ℕ} → Linked rules T σ → action_at (at σ) X ≡ Some (reduces r) → Popped σ r
  popped L e = popped_by L (by_chosen e)

  pub stepped_as : (a : Option Move) (σ : Pile) (ρ : Forest) {σ' : Pile} {ρ' : Forest} → Linked rules T σ → action_at (at σ) (next_symbol rules ρ) ≡ a → step_from rules T σ ρ ≡ go σ' ρ' → obey rules T a σ ρ ≡ go σ' ρ' → Stepped σ ρ σ' ρ'
  stepped_as None σ ρ L e g h = absurd (zero_one (cc))
  stepped_as (Some shifts) σ none L e g h = absurd (zero_one (cc))
  stepped_as (Some shifts) σ (t & ts) L e g h = shifted t (next_state (at σ) (label rules t)) e (cc) (cc) (L, by_chosen e, refl)
  stepped_as (Some accepts) base ρ L e g h = absurd (zero_one (cc))
  stepped_as (Some accepts) (push σ t s) ρ L e g h = absurd (zero_one (cc))
  stepped_as (Some (reduces r)) σ ρ L e g h = stepped_reduce (popped L e) e g

  pub stepped : {σ σ' : Pile} {ρ ρ' : Forest} → Linked rules T σ → step_from rules T σ ρ ≡ go σ' ρ' → Stepped σ ρ σ' ρ'
  stepped {σ} {σ'} {ρ} {ρ'} L g = stepped_as (action_at (at σ) (next_symbol rules ρ)) σ ρ L refl g g

  pub linked_kids : {ks : Forest} {σ₀ σ : Pile} → Kids ks σ₀ σ → Linked rules T σ → Linked rules T σ₀
  linked_kids k_none L = L
  linked_kids (k_more k) L = (linked_kids k L).0

  abbrev pub MadeStack : Pile → Type 0
  MadeStack base = Unit {0}
  MadeStack (push σ t s) = MadeStack σ × Made rules t

  pub made_kids : {ks : Forest} {σ₀ σ : Pile} → Kids ks σ₀ σ → MadeStack σ → MadeStack σ₀ × MadeAll rules ks
  made_kids k_none m = (m, tt)
  made_kids (k_more k) m = let (p, q) = made_kids k m in (p.0, (p.1, q))

  -- the stack and the pending trees are made of the rules, and stand over the line
  pub record Sane (line : List ℕ) (σ : Pile) (ρ : Forest) : Type 0 where
    pub linked : Linked rules T σ
    pub made_σ : MadeStack σ
    pub made_ρ : MadeAll rules ρ
    pub covers : under σ (leaves_of ρ []) ≡ line

  pub sane_stepped : {line : List ℕ} {σ σ' : Pile} {ρ ρ' : Forest} → Sane line σ ρ → Stepped σ ρ σ' ρ' → Sane line σ' ρ'
  sane_stepped {line} {σ} {σ'} {ρ} {ρ'} S (shifted t s a e₁ e₂ L) =
      let m : MadeAll rules (t & ρ') = subst (MadeAll rules) e₁ S.made_ρ in
      subst (λ x. Sane line x ρ') (sym e₂) (record {
        linked = L;
        made_σ = (S.made_σ, m.0);
        made_ρ = m.1;
        covers = ap (λ f. under σ (leaves_of f [])) (sym e₁) ∙ S.covers;
      })
  sane_stepped {line} {σ} {σ'} {ρ} S (reduced r ks a h k f q) =
      let (m, n) = made_kids k S.made_σ in
      subst (Sane line σ') (sym q) (record {
        linked = linked_kids k S.linked;
        made_σ = m;
        made_ρ = ((h, f, n), S.made_ρ);
        covers = sym (under_kids k (leaves_of ρ [])) ∙ S.covers;
      })

  pub sane_step : {line : List ℕ} {σ σ' : Pile} {ρ ρ' : Forest} → Sane line σ ρ → step_from rules T σ ρ ≡ go σ' ρ' → Sane line σ' ρ'
  sane_step S e = sane_stepped S (stepped S.linked e)
