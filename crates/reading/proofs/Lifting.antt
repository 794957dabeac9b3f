-- What a turn of the reader makes of a cut, behind trees that stand on the stack.
use Rattle.std.proofs.Common.{◌≡◌, ℕ, suc, ◌+◌, ◌*◌, Bool, true, false, List, [], sym, refl, ap, subst, arith}
use mathlib.Core.Bool.{false≢true}
use Rattle.book.specs.Rules.{Production, all_bounded}
use Rattle.grammar.specs.Meaning.{rule_of, InBook, Adjacent, itself, RightCorner, LeftmostFollower}
use Rattle.reading.specs.Trees.{Tree, Forest, node, ◌&◌, labels, Made}
use Rattle.reading.proofs.Basics.{Ends, ends_there, right_through}
use Rattle.reading.specs.Tables.{Faithful}
use Rattle.reading.specs.Reader.{Pile, push, go, top_of, step_from}
use Rattle.reading.proofs.Stacks.{size, Kids, k_more}
use Rattle.reading.proofs.Uppers.{Up, whole, fronts, nds, fr, nd}
use Rattle.reading.proofs.Cuts.{C, Scanned, Cut₀, more₀, in₀, over₀, f_more, f_over, p_none}

module _ (rules : List Production) (T : Faithful rules) (bounded : all_bounded rules ≡ true) where
  open T use {start_state, next_state, in_lookahead, action_at, sole}

  abbrev at : Pile → ℕ
  at σ = top_of start_state σ

  -- where X stands beside Y among the children, Y is a leftmost follower of the right corners of X
  abbrev pub Follows : Up → Type 0
  Follows us = (X Y A : ℕ) → Adjacent X Y (labels rules (whole us)) → RightCorner rules A X → LeftmostFollower rules A Y

  -- the reader moves on, and stays on the tree
  pub record Moved (τ : Forest) (r : ℕ) (dense : Bool) (us : Up) (σ σ' : Pile) (ρ : Forest) : Type 0 where
    pub us₂ : Up
    pub σ₂ : Pile
    pub ρ₂ : Forest
    pub steps : step_from rules T σ' ρ ≡ go σ₂ ρ₂
    pub same : whole us₂ ≡ whole us
    pub less : suc (2 * nds us₂ + size ρ₂) ≡ 2 * nds us + size ρ
    pub cut : Cut₀ rules T τ r dense us₂ σ σ₂ ρ₂

  -- us with one node reduced, to the tree n, which is pending
  pub record Reduced (τ : Forest) (r : ℕ) (dense : Bool) (us : Up) (σ σ₀ : Pile) (n : Tree) (ρ : Forest) : Type 0 where
    pub us₂ : Up
    pub same : whole us₂ ≡ whole us
    pub less : suc (nds us₂) ≡ nds us
    pub cut : Cut₀ rules T τ r dense us₂ σ σ₀ (n & ρ)

  -- the dot stands behind the last child of p, whose children are all on the stack
  pub record Whole (p : ℕ) (ks : Forest) (σ₀ σ' : Pile) : Type 0 where
    pub book : InBook rules p
    pub complete : C rules T (at σ') p []
    pub kids : Kids ks σ₀ σ'
    pub fits : labels rules ks ≡ (rule_of rules p).rhs

  -- that p stands at the right end of us
  pub record Deep (r : ℕ) (dense : Bool) (us : Up) (σ σ' : Pile) : Type 0 where
    pub p : ℕ
    pub ks : Forest
    pub σ₀ : Pile
    pub p_whole : Whole p ks σ₀ σ'
    pub Z : ℕ
    pub ends : Ends Z (labels rules (whole us))
    pub corner : RightCorner rules (rule_of rules p).lhs Z
    pub full : Scanned rules T r dense us σ σ'
    pub red : (τ : Forest) → Reduced τ r dense us σ σ₀ (node p ks) τ

  pub data Result (τ : Forest) (r : ℕ) (dense : Bool) (us : Up) (σ σ' : Pile) (ρ : Forest) : Type 0 where
    moves_on : Moved τ r dense us σ σ' ρ → Result τ r dense us σ σ' ρ
    -- all of us stands on the stack, and r is complete
    all_here : dense ≡ true → Kids (whole us) σ σ' → C rules T (at σ') r [] → Scanned rules T r dense us σ σ' → nds us ≡ 0 → ρ ≡ τ → Result τ r dense us σ σ' ρ
    deep : Deep r dense us σ σ' → ρ ≡ τ → Result τ r dense us σ σ' ρ

  pub c_same : {s : ℕ} {r : ℕ} {f g : Forest} → f ≡ g → C rules T s r (labels rules g) → C rules T s r (labels rules f)
  c_same {s} {r} e c = subst (λ f. C rules T s r (labels rules f)) (sym e) c

  -- behind a front tree
  pub lift_more : {τ ρ : Forest} {r : ℕ} {us : Up} {σ σ' : Pile} {t : Tree} {s : ℕ} → C rules T s r (labels rules (whole us)) → Result τ r true us (push σ t s) σ' ρ → Result τ r true (fr t us) σ σ' ρ
  lift_more {t = t} c (moves_on m) = moves_on record {
    us₂ = fr t m.us₂;
    σ₂ = m.σ₂;
    ρ₂ = m.ρ₂;
    steps = m.steps;
    same = ap (λ f. t & f) m.same;
    less = m.less;
    cut = more₀ rules T (c_same m.same c) m.cut;
  }
  lift_more c (all_here e k cr f n h) = all_here refl (k_more k) cr (f_more c f) n h
  lift_more {t = t} c (deep d h) = deep record {
    p = d.p;
    ks = d.ks;
    σ₀ = d.σ₀;
    p_whole = d.p_whole;
    Z = d.Z;
    ends = ends_there d.ends;
    corner = d.corner;
    full = f_more c d.full;
    red = λ τ. let e = d.red τ in record { us₂ = fr t e.us₂; same = ap (λ f. t & f) e.same; less = e.less; cut = more₀ rules T (c_same e.same c) e.cut };
  } h

  -- behind a node that was shifted whole and is not reduced
  pub lift_over : {τ ρ : Forest} {r q : ℕ} {dense : Bool} {vs us : Up} {σ σ₁ σ' : Pile} → Scanned rules T q true vs σ σ₁ → Result τ r false us σ₁ σ' ρ → Result τ r dense (nd q vs us) σ σ' ρ
  lift_over {q} {vs} f (moves_on m) = moves_on record {
    us₂ = nd q vs m.us₂;
    σ₂ = m.σ₂;
    ρ₂ = m.ρ₂;
    steps = m.steps;
    same = ap (λ g. node q (whole vs) & g) m.same;
    less = let l = m.less in omega arith;
    cut = over₀ rules T f m.cut;
  }
  lift_over f (all_here e k cr g n h) = absurd (false≢true e)
  lift_over {q} {vs} f (deep d h) = deep record {
    p = d.p;
    ks = d.ks;
    σ₀ = d.σ₀;
    p_whole = d.p_whole;
    Z = d.Z;
    ends = ends_there d.ends;
    corner = d.corner;
    full = f_over f d.full;
    red = λ τ. let e = d.red τ in record {
      us₂ = nd q vs e.us₂;
      same = ap (λ g. node q (whole vs) & g) e.same;
      less = let l = e.less in omega arith;
      cut = over₀ rules T f e.cut;
    };
  } h

  -- the same for a node with rule q and the children vs, before any siblings
  pub record EndNode (q : ℕ) (vs : Up) (σ σ' : Pile) : Type 0 where
    pub p : ℕ
    pub ks : Forest
    pub σ₀ : Pile
    pub p_whole : Whole p ks σ₀ σ'
    pub corner : RightCorner rules (rule_of rules p).lhs (rule_of rules q).lhs
    pub full : Scanned rules T q true vs σ σ'
    pub red : (τ : Forest) (r : ℕ) (dense : Bool) (us : Up) → Reduced τ r dense (nd q vs us) σ σ₀ (node p ks) (fronts us τ)

  pub end_here : {q : ℕ} {vs : Up} {σ σ' : Pile} → Made rules (node q (whole vs)) → Kids (whole vs) σ σ' → C rules T (at σ') q [] → Scanned rules T q true vs σ σ' → nds vs ≡ 0 → EndNode q vs σ σ'
  end_here {q} {vs} {σ} m k c f n = record {
    p = q;
    ks = whole vs;
    σ₀ = σ;
    p_whole = record { book = m.0; complete = c; kids = k; fits = m.1 };
    corner = itself;
    full = f;
    red = λ τ r dense us. record { us₂ = fr (node q (whole vs)) us; same = refl; less = omega arith; cut = p_none };
  }

  pub end_deep : {q : ℕ} {vs : Up} {σ σ' : Pile} → Made rules (node q (whole vs)) → Deep q true vs σ σ' → EndNode q vs σ σ'
  end_deep {q} {vs} {σ} m d = record {
    p = d.p;
    ks = d.ks;
    σ₀ = d.σ₀;
    p_whole = d.p_whole;
    corner = right_through q m.0 refl (subst (Ends d.Z) m.1 d.ends) d.corner;
    full = d.full;
    red = λ τ r dense us. let e = d.red (fronts us τ) in record {
      us₂ = nd q e.us₂ us;
      same = ap (λ f. node q f & whole us) e.same;
      less = let l = e.less in omega arith;
      cut = in₀ rules T e.cut;
    };
  }
