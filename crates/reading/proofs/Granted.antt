-- The rows of a granted build are faithful to the book.
use Rattle.std.proofs.Common.{◌≡◌, ℕ, zero, suc, ◌<◌, ◌≤◌, Bool, true, false, cond, ltb, ◌↔◌, List, [], ◌∷◌, length, get_or, Some, None, Option, sym, refl, ap, ◌∙◌, subst, inl, inr, arith}
use mathlib.Core.Bool.{false≢true}
use Rattle.std.proofs.lemmas.Bool.{cases_lt, lt-ltb, le-ltb, ltb-true, cond-true, cond-false}
use Rattle.book.specs.Rules.{Production, all_bounded}
use Rattle.grammar.specs.Sets.{has, symbol_count}
use Rattle.grammar.specs.Numbered.{numbered, first}
use Rattle.grammar.specs.Relations.{relations_of}
use Rattle.grammar.specs.Items.{Items, close, onward, start_kernel}
use Rattle.grammar.specs.Lookahead.{Policy}
use Rattle.grammar.specs.States.{items_of, kernels_of}
use Rattle.grammar.specs.Build.{Act, nothing, accept, shift, reduce, conflict}
use Rattle.grammar.specs.Meaning.{rule_of, InBook, Holds, after, Closed, kept, opens, Expanded, closed, expands, Next, moved, Move, shifts, Applies, reads, looks, ends}
use Rattle.grammar.specs.Laws.{Lawful, Shaped, Sole, move_of}
use Rattle.grammar.specs.Bounded.{first_in}
use Rattle.grammar.proofs.Rights.{rule_fits, behind_at}
use Rattle.grammar.specs.Corners.{left_corners_mean}
use Rattle.grammar.specs.Followers.{leftmost_in, leftmost_followers_mean}
use Rattle.grammar.proofs.Expanding.{expansion_means}
use Rattle.grammar.proofs.Moving.{next_means, start_holds}
use Rattle.tables.specs.Looked.{act_in}
use Rattle.reading.specs.Tables.{LawKept, Applying, Faithful, target_of, action_in, next_in}
use Rattle.reading.specs.Building.{RowsFaithful}

get_d_past : {A : Type 0} (xs : List A) (i : ℕ) (d : A) → length xs ≤ i → get_or xs i d ≡ d
get_d_past [] i d h = refl
get_d_past (x ∷ xs) zero d h = absurd (omega arith)
get_d_past (x ∷ xs) (suc i) d h = get_d_past xs i d (omega arith)

-- a symbol behind a dot is one of the 81
read_in : (rules : List Production) → all_bounded rules ≡ true → (r d : ℕ) {x : ℕ} {ws : List ℕ} → after rules r d ≡ x ∷ ws → x < symbol_count
read_in rules a r d {x} {ws} e =
    let (l, g) = behind_at (rule_of rules r).rhs d x ws e in
    let h = ((rule_fits rules a r).symbols d l).1 in
    omega arith

-- what is asked of the symbols alone
abbrev asked : (ℕ → ℕ → Bool) → ℕ → ℕ → Bool
asked look r x = cond (ltb x symbol_count) (look r x) false

asked_in : (look : ℕ → ℕ → Bool) (r x : ℕ) → x < symbol_count → asked look r x ≡ look r x
asked_in look r x h = cond-true _ _ _ (lt-ltb x symbol_count h)

asked_true : (look : ℕ → ℕ → Bool) (r x : ℕ) → asked look r x ≡ true → (x < symbol_count) × (look r x ≡ true)
asked_true look r x e = go (ltb x symbol_count) refl e
  where
    go : (t : Bool) → ltb x symbol_count ≡ t → cond t (look r x) false ≡ true → (x < symbol_count) × (look r x ≡ true)
    go true l h = (ltb-true x symbol_count l, h)
    go false l h = absurd (false≢true h)

-- the same items and the same actions, whether more is asked or not
module _ (rules : List Production) (a : all_bounded rules ≡ true) (K : ℕ → ℕ → Type 0) (look : ℕ → ℕ → Bool) where
  first_asked : (r q : ℕ) → InBook rules q → asked look r (first (rule_of rules q)) ≡ look r (first (rule_of rules q))
  first_asked r q h = let f = (first_in rules a q h).1 in asked_in look r (first (rule_of rules q)) (omega arith)

  expanded_to : {r d : ℕ} → Expanded rules K (asked look) r d → Expanded rules K look r d
  expanded_to (closed c) = closed c
  expanded_to (expands {r = r} q c e h lm ph hq hd nl) = expands q c e h lm ph hq hd (sym (first_asked r q hq) ∙ nl)

  expanded_from : {r d : ℕ} → Expanded rules K look r d → Expanded rules K (asked look) r d
  expanded_from (closed c) = closed c
  expanded_from (expands {r = r} q c e h lm ph hq hd nl) = expands q c e h lm ph hq hd (first_asked r q hq ∙ nl)

  applies_to : {x : ℕ} {m : Move} → Applies rules K (asked look) x m → (x < symbol_count) × Applies rules K look x m
  applies_to (reads {r = r} {d = d} w e) = (read_in rules a r d e, reads (expanded_to w) e)
  applies_to {x} (looks {r = r} c e h l) = let (i, t) = asked_true look r x l in (i, looks c e h t)
  applies_to (ends c e z) = (omega arith, ends c e z)

  applies_from : {x : ℕ} {m : Move} → x < symbol_count → Applies rules K look x m → Applies rules K (asked look) x m
  applies_from i (reads w e) = reads (expanded_from w) e
  applies_from {x} i (looks {r = r} c e h l) = looks c e h (asked_in look r x i ∙ l)
  applies_from i (ends c e z) = ends c e z

next_by : {rules : List Production} {V W : ℕ → ℕ → Type 0} {x : ℕ} → ((r d : ℕ) → V r d → W r d) → {r d : ℕ} → Next rules V x r d → Next rules W x r d
next_by f (moved {r = r} {d = d} v e) = moved (f r d v) e

-- a shift goes to its state
shift_of : (e : Act) → move_of e ≡ Some shifts → e ≡ shift (target_of e)
shift_of nothing h = cc
shift_of accept h = cc
shift_of (shift k) h = refl
shift_of (reduce r) h = cc
shift_of conflict h = cc

module _ (rules : List Production) (a : all_bounded rules ≡ true) (policy : Policy) (law : Lawful policy) (rows : List (List Act)) (ks : List Items)
    (begins : get_or ks 0 [] ≡ start_kernel (numbered rules))
    (shaped : (s : ℕ) → s < length ks → Shaped rules (get_or ks s []))
    (many : length rows ≡ length ks)
    (sole : (s x : ℕ) → s < length rows → x < symbol_count → Sole rules policy (get_or ks s []) x (get_or (get_or rows s []) x nothing))
    (goes : (s x k : ℕ) → s < length rows → x < symbol_count → get_or (get_or rows s []) x nothing ≡ shift k
    → (k < length rows) × (get_or ks k [] ≡ onward x (numbered rules) (items_of policy (relations_of rules) (get_or ks s []))))
  where
    abbrev kern : ℕ → Items
    kern s = get_or ks s []

    abbrev looking : ℕ → ℕ → ℕ → Bool
    looking s = policy (relations_of rules) (close (numbered rules) (kern s))

    abbrev Ap : ℕ → ℕ → Move → Type 0
    Ap s x m = Applies rules (Holds (kern s)) (asked (looking s)) x m

    -- a number that is no state has no items
    held_state : (s r d : ℕ) → Holds (kern s) r d → s < length rows
    held_state s r d h = elim (cases_lt s (length ks)) [
      | inl l ↦ omega arith
      | inr n ↦ absurd (false≢true (subst (λ k. has (get_or k r []) d ≡ true) (get_d_past ks s [] n) h))
    ]

    closed_state : (s : ℕ) {r d : ℕ} → Closed rules (Holds (kern s)) r d → s < length rows
    closed_state s (kept {r = r} {d = d} h) = held_state s r d h
    closed_state s (opens q c e h l) = closed_state s c

    expanded_state : (s : ℕ) {look : ℕ → ℕ → Bool} {r d : ℕ} → Expanded rules (Holds (kern s)) look r d → s < length rows
    expanded_state s (closed c) = closed_state s c
    expanded_state s (expands q c e h lm ph hq hd nl) = closed_state s c

    state_of : (s : ℕ) {x : ℕ} {m : Move} → Ap s x m → s < length rows
    state_of s (reads w e) = expanded_state s w
    state_of s (looks c e h l) = closed_state s c
    state_of s (ends c e z) = closed_state s c

    entry_in : (s x : ℕ) → x < symbol_count → act_in rows s x ≡ get_or (get_or rows s []) x nothing
    entry_in s x i = cond-true _ _ _ (lt-ltb x symbol_count i)

    abbrev ApAt : ℕ → ℕ → Option Move → Type 0
    ApAt s x o = Applying rules (Holds (kern s)) (asked (looking s)) x o

    sole_at : (s x : ℕ) (m : Move) → Ap s x m → action_in rows s x ≡ Some m
    sole_at s x m p =
        let (i, q) = applies_to rules a (Holds (kern s)) (looking s) p in
        ap move_of (entry_in s x i) ∙ (sole s x (state_of s p) i).only m q

    chosen_here : (s x : ℕ) → s < length rows → x < symbol_count → (o : Option Move) → move_of (get_or (get_or rows s []) x nothing) ≡ o → ApAt s x o
    chosen_here s x l i None e = tt
    chosen_here s x l i (Some m) e = applies_from rules a (Holds (kern s)) (looking s) i ((sole s x l i).applies m e)

    chosen_at : (s x : ℕ) → ApAt s x (action_in rows s x)
    chosen_at s x = elim (cases_lt x symbol_count) [
      | inl i ↦ subst (λ e. ApAt s x (move_of e)) (sym (entry_in s x i)) (in_symbol i)
      | inr n ↦ subst (λ e. ApAt s x (move_of e)) (sym (cond-false _ (get_or (get_or rows s []) x nothing) nothing (le-ltb x symbol_count n))) tt
    ]
      where
        in_symbol : x < symbol_count → ApAt s x (move_of (get_or (get_or rows s []) x nothing))
        in_symbol i = elim (cases_lt s (length rows)) [
          | inl l ↦ chosen_here s x l i (move_of (get_or (get_or rows s []) x nothing)) refl
          | inr n ↦ subst (λ row. ApAt s x (move_of (get_or row x nothing))) (sym (get_d_past rows s [] n)) tt
        ]

    moves_at : (s x : ℕ) → Ap s x shifts → (r d : ℕ) → Holds (kern (next_in rows s x)) r d ↔ Next rules (Expanded rules (Holds (kern s)) (asked (looking s))) x r d
    moves_at s x p r d =
        let (i, q) = applies_to rules a (Holds (kern s)) (looking s) p in
        let l : s < length rows = state_of s p in
        let e : act_in rows s x ≡ shift (next_in rows s x) = shift_of (act_in rows s x) (sole_at s x shifts p) in
        let g = (goes s x (next_in rows s x) l i (sym (entry_in s x i) ∙ e)).1 in
        let (hs, hx) = expansion_means left_corners_mean leftmost_followers_mean rules a (looking s) (kern s) (shaped s (omega arith)) in
        let n = (next_means rules a (items_of policy (relations_of rules) (kern s)) hs x).1 r d in (
          λ h. next_by (λ r' d' v. expanded_from rules a (Holds (kern s)) (looking s) ((hx r' d').0 v)) (n.0 (subst (λ k. Holds k r d) g h)),
          λ w. subst (λ k. Holds k r d) (sym g) (n.1 (next_by (λ r' d' v. (hx r' d').1 (expanded_to rules a (Holds (kern s)) (looking s) v)) w)),
        )

    law_at : (s : ℕ) → LawKept rules (Holds (kern s)) (asked (looking s))
    law_at s r d y c e h lm = asked_in (looking s) r y (leftmost_in rules a (rule_of rules r).lhs y lm) ∙ law rules a (close (numbered rules) (kern s)) r y h lm

    faithful : Faithful rules
    faithful = record {
      start_state = 0;
      next_state = next_in rows;
      action_at = action_in rows;
      in_kernel = λ s r d. has (get_or (kern s) r []) d;
      in_lookahead = λ s. asked (looking s);
      lawful = law_at;
      starts = λ r d. subst (λ k. Holds k r d ↔ ((r ≡ 0) × (d ≡ 0))) (sym begins) (start_holds rules r d);
      moves = moves_at;
      chosen = chosen_at;
      sole = sole_at;
    }

    pub faithful_rows : (T : Faithful rules) × (T.start_state ≡ 0) × (T.next_state ≡ next_in rows) × (T.action_at ≡ action_in rows)
    unfolding faithful
    faithful_rows = (faithful, refl, refl, refl)

pub rows_faithful : RowsFaithful
rows_faithful rules a policy law rows tm ns = faithful_rows rules a policy law rows (kernels_of policy (relations_of rules)) ns.begins ns.shaped tm.many tm.sole tm.goes
