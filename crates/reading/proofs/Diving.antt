-- The first tree below a node that is not yet reduced, and the shift of it.
use Rattle.std.proofs.Common.{◌≡◌, ℕ, suc, Bool, true, List, ◌∷◌, sym, refl, ap, subst}
use mathlib.Core.Bool.{false≢true}
use Rattle.book.specs.Rules.{Production, all_bounded}
use Rattle.grammar.specs.Meaning.{rule_of, InBook, LeftCorner, itself}
use Rattle.reading.specs.Trees.{Tree, Forest, node, ◌&◌, label, labels, Made, MadeAll}
use Rattle.reading.proofs.Basics.{left_through, right_some}
use Rattle.reading.specs.Tables.{Faithful}
use Rattle.reading.specs.Reader.{Pile, push, go, top_of, step_from}
use Rattle.reading.proofs.Stacks.{size, step_shift}
use Rattle.reading.proofs.Uppers.{Up, whole, fronts, some?, end, fr, nd}
use Rattle.reading.proofs.Cuts.{C, It, c_corner, it_next, it_shift, c_it, Cut, p_last, p_in}

module _ (rules : List Production) (T : Faithful rules) (bounded : all_bounded rules ≡ true) where
  open T use {start_state, next_state, in_lookahead, action_at, sole}

  abbrev at : Pile → ℕ
  at σ = top_of start_state σ

  -- the first front tree below a node that is not reduced, and the rule q that it is the first child of
  pub record Dive (q₀ : ℕ) (vs : Up) : Type 0 where
    pub x : Tree
    pub q : ℕ
    pub α : List ℕ
    pub book : InBook rules q
    pub corner : LeftCorner rules (rule_of rules q).lhs (rule_of rules q₀).lhs
    pub begins : (rule_of rules q).rhs ≡ label rules x ∷ α
    pub tail : Forest → Forest
    pub is_front : (τ : Forest) → fronts vs τ ≡ x & tail τ
    pub enter : (τ : Forest) (r : ℕ) (dense : Bool) (us : Up) (σ : Pile) (s : ℕ) → C rules T s q α → Cut rules T τ r dense (nd q₀ vs us) σ (push σ x s) (tail (fronts us τ))

  pub dive : (q₀ : ℕ) (vs : Up) → Made rules (node q₀ (whole vs)) → Dive q₀ vs
  dive q₀ end m = absurd (right_some rules bounded q₀ m.0 (sym m.1))
  dive q₀ (fr x vs) m = record {
    x = x;
    q = q₀;
    α = labels rules (whole vs);
    book = m.0;
    corner = itself;
    begins = sym m.1;
    tail = fronts vs;
    is_front = λ τ. refl;
    enter = λ τ r dense us σ s c. p_in (p_last c);
  }
  dive q₀ (nd q₁ vs₁ vs) m =
      let D : Dive q₁ vs₁ = dive q₁ vs₁ m.2.0 in
      record {
        x = D.x;
        q = D.q;
        α = D.α;
        book = D.book;
        corner = left_through q₀ m.0 refl (sym m.1) D.corner;
        begins = D.begins;
        tail = λ τ. D.tail (fronts vs τ);
        is_front = λ τ. D.is_front (fronts vs τ);
        enter = λ τ r dense us σ s c. p_in (D.enter (fronts us τ) q₀ true vs σ s c);
      }

  -- the closed set reads what comes next below the symbol after the dot: a shift
  pub record Into (τ : Forest) (r : ℕ) (us : Up) (σ : Pile) : Type 0 where
    pub x : Tree
    pub s : ℕ
    pub ρ : Forest
    pub steps : step_from rules T σ (fronts us τ) ≡ go (push σ x s) ρ
    pub less : size (fronts us τ) ≡ suc (size ρ)
    pub cut : Cut rules T τ r true us σ (push σ x s) ρ

  pub into : (τ : Forest) (r : ℕ) (us : Up) (σ : Pile) → C rules T (at σ) r (labels rules (whole us)) → MadeAll rules (whole us) → some? us ≡ true → Into τ r us σ
  into τ r end σ c m no_end = absurd (false≢true no_end)
  into τ r (fr x us) σ c m no_end = record {
    x = x;
    s = next_state (at σ) (label rules x);
    ρ = fronts us τ;
    steps = step_shift rules T σ _ x (fronts us τ) refl (it_shift rules T (c_it rules T c));
    less = refl;
    cut = p_last (it_next rules T (c_it rules T c));
  }
  into τ r (nd q₀ vs us) σ c m no_end =
      let D : Dive q₀ vs = dive q₀ vs m.0 in
      let i : It rules T (at σ) D.q (label rules D.x ∷ D.α) = c_it rules T (subst (C rules T (at σ) D.q) D.begins (c_corner rules T D.q bounded D.book D.corner c)) in
      record {
        x = D.x;
        s = next_state (at σ) (label rules D.x);
        ρ = D.tail (fronts us τ);
        steps = step_shift rules T σ _ D.x _ (D.is_front (fronts us τ)) (it_shift rules T i);
        less = ap size (D.is_front (fronts us τ));
        cut = D.enter τ r true us σ _ (it_next rules T i);
      }
