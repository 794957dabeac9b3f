-- What a book can hold: entering and striking keep it.
use Rattle.std.proofs.Common.{◌≡◌, ℕ, ◌+◌, ◌-◌, ◌<◌, ◌≤◌, Bool, true, false, not, ◌&&◌, ◌||◌, eqb, leb, List, [], ◌∷◌, ◌++◌, length, get_or, take, drop, sym, refl, ap, ◌∙◌, ap₂, arith, length-append}
use Rattle.std.proofs.lemmas.List.{take-append-drop, drop_more}
use Rattle.std.proofs.lemmas.Slice.Eq.{bytes_eq-Decides}
use Rattle.std.proofs.lemmas.Bool.{and_parts, and_from, or_parts, or_from, not-true, not_from_false, leb-true, le-leb, lt-leb, leb-false, eqb-true, eq-eqb}
use Rattle.std.proofs.lemmas.Bool.Decides.{same_from_decides, Decides-eqb}
use Rattle.std.specs.Str.{bytes_eq}
use Rattle.book.specs.Answers.{Answer, granted, refused, no, refuse_if, and_then, leaves}
use Rattle.book.specs.Symbols.{most_rules, within}
use Rattle.book.specs.Rules.{Production, ◌⟶◌, is_bounded, all_bounded, distinct, is_well_formed, same_rule, holds, rule_says, enter_says, entered, strike_says, struck}
use Rattle.book.proofs.Codes.{bounded_granted, granted_bounded}

-- Equality of rules is a test of equality, and so symmetric.

same_swap : (p q : Production) → same_rule p q ≡ same_rule q p
same_swap p q = ap₂ ◌&&◌ (eqb_swap p.lhs q.lhs) (bytes_swap p.rhs q.rhs)
  where
    eqb_swap : (a b : ℕ) → eqb a b ≡ eqb b a
    eqb_swap a b = same_from_decides (eqb a b) (eqb b a) (Decides-eqb a b) ((λ e. sym (eqb-true b a e)), (λ e. eq-eqb b a (sym e)))

    bytes_swap : (xs ys : List ℕ) → bytes_eq xs ys ≡ bytes_eq ys xs
    bytes_swap xs ys =
        let d = bytes_eq-Decides ys xs in
        same_from_decides (bytes_eq xs ys) (bytes_eq ys xs) (bytes_eq-Decides xs ys) ((λ e. sym (d.0 e)), (λ e. d.1 (sym e)))

-- Parts of a list of rules.

pub holds_append : (ps qs : List Production) (r : Production) → holds (ps ++ qs) r ≡ (holds ps r || holds qs r)
holds_append [] qs r = refl
holds_append (p ∷ ps) qs r = ap (λ t. same_rule p r || t) (holds_append ps qs r) ∙ assoc (same_rule p r) (holds ps r) (holds qs r)
  where
    assoc : (a b c : Bool) → (a || (b || c)) ≡ ((a || b) || c)
    assoc true b c = refl
    assoc false b c = refl

and_assoc : (a b c : Bool) → (a && (b && c)) ≡ ((a && b) && c)
and_assoc true b c = refl
and_assoc false b c = refl

pub all_bounded_append : (ps qs : List Production) → all_bounded (ps ++ qs) ≡ (all_bounded ps && all_bounded qs)
all_bounded_append [] qs = refl
all_bounded_append (p ∷ ps) qs = ap (λ t. is_bounded p && t) (all_bounded_append ps qs) ∙ and_assoc (is_bounded p) (all_bounded ps) (all_bounded qs)

-- a rule in the middle is none of those before it
pub apart_before : (ps : List Production) (p : Production) (qs : List Production) → distinct (ps ++ p ∷ qs) ≡ true → holds ps p ≡ false
apart_before [] p qs d = refl
apart_before (r ∷ ps) p qs d =
    let here = and_parts (not (holds (ps ++ p ∷ qs) r)) (distinct (ps ++ p ∷ qs)) d in
    let none = or_parts (holds ps r) (holds (p ∷ qs) r) (sym (holds_append ps (p ∷ qs) r) ∙ not-true (holds (ps ++ p ∷ qs) r) here.0) in
    or_from (same_rule r p) (holds ps p) (same_swap r p ∙ (or_parts (same_rule p r) (holds qs r) none.1).0) (apart_before ps p qs here.1)

-- one rule more at the end
distinct_push : (ps : List Production) (p : Production) → distinct ps ≡ true → holds ps p ≡ false → distinct (ps ++ p ∷ []) ≡ true
distinct_push [] p d h = refl
distinct_push (r ∷ ps) p d h =
    let here = and_parts (not (holds ps r)) (distinct ps) d in
    let new = or_parts (same_rule r p) (holds ps p) h in
    let none : holds (ps ++ p ∷ []) r ≡ false =
    holds_append ps (p ∷ []) r ∙ or_from (holds ps r) (holds (p ∷ []) r) (not-true (holds ps r) here.0) (or_from (same_rule p r) false (same_swap p r ∙ new.0) refl) in
    and_from _ _ (not_from_false (holds (ps ++ p ∷ []) r) none) (distinct_push ps p here.1 new.1)

-- Well-formed rules, by their three parts.

pub few : (ps : List Production) → is_well_formed ps ≡ true → length ps ≤ most_rules
few ps w = leb-true (length ps) most_rules (and_parts (leb (length ps) most_rules) (all_bounded ps && distinct ps) w).0

pub bounded : (ps : List Production) → is_well_formed ps ≡ true → all_bounded ps ≡ true
bounded ps w = (and_parts (all_bounded ps) (distinct ps) (and_parts (leb (length ps) most_rules) (all_bounded ps && distinct ps) w).1).0

pub apart : (ps : List Production) → is_well_formed ps ≡ true → distinct ps ≡ true
apart ps w = (and_parts (all_bounded ps) (distinct ps) (and_parts (leb (length ps) most_rules) (all_bounded ps && distinct ps) w).1).1

pub well_formed : (ps : List Production) → length ps ≤ most_rules → all_bounded ps ≡ true → distinct ps ≡ true → is_well_formed ps ≡ true
well_formed ps n b d = and_from _ _ (le-leb (length ps) most_rules n) (and_from _ _ b d)

-- Entering.

abbrev pub done : Answer (Unit {0})
done = granted tt

-- a granted enter, by its three tests
pub enter_granted : (ps : List Production) (p : Production) → enter_says ps p ≡ done → (length ps < most_rules) × (is_bounded p ≡ true) × (holds ps p ≡ false)
enter_granted ps p e = full (leb most_rules (length ps)) refl e
  where
    rest : (a : Answer Production) → rule_says p ≡ a → and_then a (λ q. refuse_if (holds ps q) (no 5 []) (done)) ≡ done → (is_bounded p ≡ true) × (holds ps p ≡ false)
    rest (refused n) f e = let z : ◌≡◌ {A = ℕ} 0 1 = cc in absurd (omega arith)
    rest (granted q) f e = let g = granted_bounded p q f in (g.0, twice (holds ps p) refl (ap (λ r. refuse_if (holds ps r) (no 5 []) (done)) (sym g.1) ∙ e))
      where
        twice : (t : Bool) → holds ps p ≡ t → refuse_if t (no 5 []) (done) ≡ done → holds ps p ≡ false
        twice true f e = let z : ◌≡◌ {A = ℕ} 0 1 = cc in absurd (omega arith)
        twice false f e = f

    full : (t : Bool) → leb most_rules (length ps) ≡ t → refuse_if t (no 1 []) (and_then (rule_says p) (λ q. refuse_if (holds ps q) (no 5 []) (done))) ≡ done
        → (length ps < most_rules) × (is_bounded p ≡ true) × (holds ps p ≡ false)
    full true f e = let z : ◌≡◌ {A = ℕ} 0 1 = cc in absurd (omega arith)
    full false f e = let r = rest (rule_says p) refl e in (leb-false most_rules (length ps) f, r.0, r.1)

pub enter_grants : (ps : List Production) (p : Production) → length ps < most_rules → is_bounded p ≡ true → holds ps p ≡ false → enter_says ps p ≡ done
enter_grants ps p n b h =
    ap (λ t. refuse_if t (no 1 []) (and_then (rule_says p) (λ q. refuse_if (holds ps q) (no 5 []) (done)))) (lt-leb most_rules (length ps) n)
    ∙ ap (λ a. and_then a (λ q. refuse_if (holds ps q) (no 5 []) (done))) (bounded_granted p b)
    ∙ ap (λ t. refuse_if t (no 5 []) (done)) h

-- a rule of well_formed rules can be entered after those before it
pub enters_in_turn : (ps : List Production) (p : Production) (qs : List Production) → is_well_formed (ps ++ p ∷ qs) ≡ true → enter_says ps p ≡ done
enters_in_turn ps p qs w =
    let b = and_parts (all_bounded ps) (all_bounded (p ∷ qs)) (sym (all_bounded_append ps (p ∷ qs)) ∙ bounded (ps ++ p ∷ qs) w) in
    enter_grants ps p (omega (arith, few (ps ++ p ∷ qs) w, length-append ps (p ∷ qs))) (and_parts (is_bounded p) (all_bounded qs) b.1).0 (apart_before ps p qs (apart (ps ++ p ∷ qs) w))

pub push_well_formed : (ps : List Production) (p : Production) → is_well_formed ps ≡ true → enter_says ps p ≡ done → is_well_formed (ps ++ p ∷ []) ≡ true
push_well_formed ps p w e =
    let g = enter_granted ps p e in
    well_formed (ps ++ p ∷ []) (omega (arith, g.0, length-append ps (p ∷ [])))
    (all_bounded_append ps (p ∷ []) ∙ and_from _ _ (bounded ps w) (and_from _ _ g.1 refl))
    (distinct_push ps p (apart ps w) g.2)

pub entered_well_formed : (ps : List Production) (p : Production) → is_well_formed ps ≡ true → is_well_formed (entered ps p) ≡ true
entered_well_formed ps p w = go (enter_says ps p) refl
  where
    go : (a : Answer (Unit {0})) → enter_says ps p ≡ a → is_well_formed (leaves a (λ _. ps ++ p ∷ []) ps) ≡ true
    go (refused n) e = w
    go (granted tt) e = push_well_formed ps p w e

-- Striking.

distinct_without : (ps : List Production) (p : Production) (qs : List Production) → distinct (ps ++ p ∷ qs) ≡ true → distinct (ps ++ qs) ≡ true
distinct_without [] p qs d = (and_parts (not (holds qs p)) (distinct qs) d).1
distinct_without (r ∷ ps) p qs d =
    let here = and_parts (not (holds (ps ++ p ∷ qs) r)) (distinct (ps ++ p ∷ qs)) d in
    let none = or_parts (holds ps r) (holds (p ∷ qs) r) (sym (holds_append ps (p ∷ qs) r) ∙ not-true (holds (ps ++ p ∷ qs) r) here.0) in
    let others : holds (ps ++ qs) r ≡ false = holds_append ps qs r ∙ or_from (holds ps r) (holds qs r) none.0 (or_parts (same_rule p r) (holds qs r) none.1).1 in
    and_from _ _ (not_from_false (holds (ps ++ qs) r) others) (distinct_without ps p qs here.1)

without_well_formed : (ps : List Production) (p : Production) (qs : List Production) → is_well_formed (ps ++ p ∷ qs) ≡ true → is_well_formed (ps ++ qs) ≡ true
without_well_formed ps p qs w =
    let b = and_parts (all_bounded ps) (all_bounded (p ∷ qs)) (sym (all_bounded_append ps (p ∷ qs)) ∙ bounded (ps ++ p ∷ qs) w) in
    well_formed (ps ++ qs) (omega (arith, few (ps ++ p ∷ qs) w, length-append ps (p ∷ qs), length-append ps qs))
    (all_bounded_append ps qs ∙ and_from _ _ b.0 (and_parts (is_bounded p) (all_bounded qs) b.1).1)
    (distinct_without ps p qs (apart (ps ++ p ∷ qs) w))

-- the rules around the k-th
around : (ps : List Production) (k : ℕ) → 1 ≤ k → k ≤ length ps → ps ≡ take (k - 1) ps ++ get_or ps (k - 1) (0 ⟶ []) ∷ drop k ps
around ps k low high =
    let next : k - 1 + 1 ≡ k = omega arith in
    sym (take-append-drop (k - 1) ps)
    ∙ ap (λ t. take (k - 1) ps ++ t) (drop_more ps (k - 1) (0 ⟶ []) (omega arith) ∙ ap (λ j. get_or ps (k - 1) (0 ⟶ []) ∷ drop j ps) next)

strike_granted : (ps : List Production) (k : ℕ) → strike_says ps k ≡ done → (1 ≤ k) × (k ≤ length ps)
strike_granted ps k e = go (within 1 (length ps) k) refl e
  where
    go : (t : Bool) → within 1 (length ps) k ≡ t → refuse_if (not t) (no 6 []) done ≡ done → (1 ≤ k) × (k ≤ length ps)
    go false f e = let z : ◌≡◌ {A = ℕ} 0 1 = cc in absurd (omega arith)
    go true f e = let p = and_parts (leb 1 k) (leb k (length ps)) f in (leb-true 1 k p.0, leb-true k (length ps) p.1)

pub struck_well_formed : (ps : List Production) (k : ℕ) → is_well_formed ps ≡ true → is_well_formed (struck ps k) ≡ true
struck_well_formed ps k w = go (strike_says ps k) refl
  where
    go : (a : Answer (Unit {0})) → strike_says ps k ≡ a → is_well_formed (leaves a (λ _. take (k - 1) ps ++ drop k ps) ps) ≡ true
    go (refused n) e = w
    go (granted tt) e =
        let r = strike_granted ps k e in
        without_well_formed (take (k - 1) ps) (get_or ps (k - 1) (0 ⟶ [])) (drop k ps) (ap is_well_formed (sym (around ps k r.0 r.1)) ∙ w)
