-- At each cut the reader moves on along the tree.
use Rattle.std.proofs.Common.{◌≡◌, ℕ, suc, ◌+◌, Bool, true, false, List, [], ◌∷◌, sym, refl, ap, ◌∙◌, subst, arith}
use Rattle.book.specs.Rules.{Production, all_bounded}
use Rattle.grammar.specs.Meaning.{rule_of, InBook, Adjacent, here, later, LeftmostFollower, inside, expands}
use Rattle.reading.specs.Trees.{Tree, Forest, node, ◌&◌, label, labels, MadeAll}
use Rattle.reading.proofs.Basics.{ends_here, left_nonterminal, first_is}
use Rattle.reading.specs.Tables.{Faithful}
use Rattle.reading.specs.Reader.{Pile, push, top_of, next_symbol}
use Rattle.reading.proofs.Stacks.{size, k_none, k_more, step_shift, step_reduce}
use Rattle.reading.proofs.Uppers.{Up, whole, fronts, nds, some?, end, fr, nd}
use Rattle.reading.proofs.Cuts.{C, It, it_next, it_shift, c_reduce, c_look, Cut, Cut₀, in₀, f_last, f_node, p_last, p_more, p_in, p_over, p_some}
use Rattle.reading.proofs.Diving.{Dive, dive, Into, into}
use Rattle.reading.proofs.Lifting.{Follows, Moved, Reduced, Result, lift_more, lift_over, EndNode, end_here, end_deep, moves_on, all_here, deep}

module _ (rules : List Production) (T : Faithful rules) (bounded : all_bounded rules ≡ true) where
  open T use {start_state, next_state, in_lookahead, action_at, sole}

  abbrev at : Pile → ℕ
  at σ = top_of start_state σ

  -- a reduce by p
  pub by_reduce : {τ ρ : Forest} {r q : ℕ} {dense : Bool} {vs us : Up} {σ σ' : Pile} (E : EndNode rules T bounded q vs σ σ') → ρ ≡ fronts us τ → in_lookahead (at σ') E.p (next_symbol rules ρ) ≡ true → Moved rules T bounded τ r dense (nd q vs us) σ σ' ρ
  by_reduce {τ} {ρ} {r} {q} {dense} {vs} {us} {σ} {σ'} E e l =
      let R : Reduced rules T bounded τ r dense (nd q vs us) σ E.σ₀ (node E.p E.ks) (fronts us τ) = E.red τ r dense us in
      let k : nds R.us₂ + 1 ≡ nds (nd q vs us) = let h = R.less in omega arith in
      record {
        us₂ = R.us₂;
        σ₂ = E.σ₀;
        ρ₂ = node E.p E.ks & ρ;
        steps = step_reduce rules T E.σ₀ σ' ρ E.ks E.p E.p_whole.kids E.p_whole.fits (c_reduce rules T E.p_whole.complete E.p_whole.book l);
        same = R.same;
        less = omega arith;
        cut = subst (λ f. Cut₀ rules T τ r dense R.us₂ σ E.σ₀ (node E.p E.ks & f)) (sym e) R.cut;
      }

  -- a shift of the first tree below the next sibling, which is not in the lookahead of p: expansion reads it
  pub by_shift : {τ ρ : Forest} {r q q₀ : ℕ} {dense : Bool} {vs vs₀ us : Up} {σ σ' : Pile} (E : EndNode rules T bounded q vs σ σ') (D : Dive rules T bounded q₀ vs₀) → ρ ≡ fronts vs₀ (fronts us τ) → InBook rules q₀ → LeftmostFollower rules (rule_of rules E.p).lhs (rule_of rules q₀).lhs
      → in_lookahead (at σ') E.p (label rules D.x) ≡ false → Moved rules T bounded τ r dense (nd q vs (nd q₀ vs₀ us)) σ σ' ρ
  by_shift {τ} {ρ} {r} {q} {q₀} {dense} {vs} {vs₀} {us} {σ} {σ'} E D e h lm l =
      let c : C rules T (at σ') E.p [] = E.p_whole.complete in
      let i : It rules T (at σ') D.q (label rules D.x ∷ D.α) = (0, expands D.q c.1 c.2 E.p_whole.book lm (left_nonterminal rules bounded q₀ h) D.book D.corner (rw (first_is rules D.q D.begins) l), D.begins) in
      let w : ρ ≡ D.x & D.tail (fronts us τ) = e ∙ D.is_front (fronts us τ) in
      let z : size ρ ≡ suc (size (D.tail (fronts us τ))) = ap size w in
      record {
        us₂ = nd q vs (nd q₀ vs₀ us);
        σ₂ = push σ' D.x (next_state (at σ') (label rules D.x));
        ρ₂ = D.tail (fronts us τ);
        steps = step_shift rules T σ' ρ D.x _ w (it_shift rules T i);
        same = refl;
        less = omega arith;
        cut = p_some (p_over E.full (D.enter τ r false us σ' _ (it_next rules T i)));
      }

  -- at the right end of a node: what comes next decides
  pub turn : {τ ρ : Forest} {r q : ℕ} {dense : Bool} {vs : Up} (us : Up) {σ σ' : Pile} → EndNode rules T bounded q vs σ σ' → MadeAll rules (whole us) → Follows rules T bounded (nd q vs us) → ρ ≡ fronts us τ → Result rules T bounded τ r dense (nd q vs us) σ σ' ρ
  turn {q} end E m fol e = deep record {
    p = E.p;
    ks = E.ks;
    σ₀ = E.σ₀;
    p_whole = E.p_whole;
    Z = (rule_of rules q).lhs;
    ends = ends_here;
    corner = E.corner;
    full = f_node E.full;
    red = λ τ. E.red τ _ _ end;
  } e
  turn {τ} {ρ} {q} (fr y us) {σ} {σ'} E m fol e =
      let l : in_lookahead (at σ') E.p (next_symbol rules ρ) ≡ true = rw e (c_look rules T E.p_whole.complete E.p_whole.book (fol _ _ _ here E.corner)) in
      moves_on (by_reduce E e l)
  turn {τ} {ρ} {r} {q} {dense} {vs} (nd q₀ vs₀ us) {σ} {σ'} E m fol e = decide (in_lookahead (at σ') E.p (label rules D.x)) refl
    where
      D : Dive rules T bounded q₀ vs₀
      D = dive rules T bounded q₀ vs₀ m.0

      decide : (y : Bool) → in_lookahead (at σ') E.p (label rules D.x) ≡ y → Result rules T bounded τ r dense (nd q vs (nd q₀ vs₀ us)) σ σ' ρ
      decide true l = moves_on (by_reduce E e (rw (e, D.is_front (fronts us τ)) l))
      decide false l = moves_on (by_shift E D e m.0.0 (fol _ _ _ here E.corner) l)

  pub lift_in : {τ ρ : Forest} {r q : ℕ} {dense : Bool} {vs us : Up} {σ σ' : Pile} → MadeAll rules (whole (nd q vs us)) → Follows rules T bounded (nd q vs us) → Result rules T bounded (fronts us τ) q true vs σ σ' ρ → Result rules T bounded τ r dense (nd q vs us) σ σ' ρ
  lift_in {q} {us} m fol (moves_on d) = moves_on record {
    us₂ = nd q d.us₂ us;
    σ₂ = d.σ₂;
    ρ₂ = d.ρ₂;
    steps = d.steps;
    same = ap (λ f. node q f & whole us) d.same;
    less = let l = d.less in omega arith;
    cut = in₀ rules T d.cut;
  }
  lift_in {us} m fol (all_here e k c f n h) = turn us (end_here rules T bounded m.0 k c f n) m.1 fol h
  lift_in {us} m fol (deep d h) = turn us (end_deep rules T bounded m.0 d) m.1 fol h

  -- right behind a front tree
  pub go_into : {τ : Forest} {r : ℕ} (us : Up) {σ : Pile} {t : Tree} {s : ℕ} → C rules T s r (labels rules (whole us)) → MadeAll rules (whole us) → some? us ≡ true → Result rules T bounded τ r true (fr t us) σ (push σ t s) (fronts us τ)
  go_into {τ} {r} us {σ} {t} {s} c m h =
      let I : Into rules T bounded τ r us (push σ t s) = into rules T bounded τ r us (push σ t s) c m h in
      moves_on record {
        us₂ = fr t us;
        σ₂ = push (push σ t s) I.x I.s;
        ρ₂ = I.ρ;
        steps = I.steps;
        same = refl;
        less = let l = I.less in omega arith;
        cut = p_some (p_more c I.cut);
      }

  pub right_behind : {τ : Forest} {r : ℕ} (us : Up) {σ : Pile} {t : Tree} {s : ℕ} → C rules T s r (labels rules (whole us)) → MadeAll rules (whole us) → Result rules T bounded τ r true (fr t us) σ (push σ t s) (fronts us τ)
  right_behind end c m = all_here refl (k_more k_none) c (f_last c) refl refl
  right_behind (fr x us) c m = go_into (fr x us) c m refl
  right_behind (nd q vs us) c m = go_into (nd q vs us) c m refl

  pub advance : {τ : Forest} {r : ℕ} {dense : Bool} {us : Up} {σ σ' : Pile} {ρ : Forest} → Cut rules T τ r dense us σ σ' ρ → MadeAll rules (whole us) → Follows rules T bounded us → Result rules T bounded τ r dense us σ σ' ρ
  advance (p_last {us = us} c) m fol = right_behind us c m.1
  advance (p_more c p) m fol = lift_more rules T bounded c (advance p m.1 (λ X Y A h. fol X Y A (later h)))
  advance (p_in {q = q} p) m fol = lift_in m fol (advance p m.0.2 (λ X Y A h t. inside q X m.0.0 (subst (Adjacent X Y) m.0.1 h) t))
  advance (p_over f p) m fol = lift_over rules T bounded f (advance p m.1 (λ X Y A h. fol X Y A (later h)))
