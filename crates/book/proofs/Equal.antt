-- Equal rules are those with equal sides.
use Rattle.std.proofs.Common.{◌≡◌, ℕ, ◌-◌, ◌&&◌, ◌||◌, true, eqb, List, [], ◌∷◌, ◌++◌, length, take, drop, replicate, sym, refl, ap, ◌∙◌, ap₂, subst, arith, length-take, take-append-drop}
use Rattle.std.proofs.lemmas.Bool.{and_parts, and_from, eqb-true, eq-eqb}
use Rattle.std.proofs.lemmas.Bool.Decides.{same_from_decides}
use Rattle.std.proofs.lemmas.Slice.Eq.{bytes_eq-Decides}
use Rattle.std.specs.List.{list_any}
use Rattle.std.specs.Str.{bytes_eq}
use Rattle.book.specs.Held.{production_of, productions_of}
use Rattle.book.specs.Rules.{Production, ◌⟶◌, same_rule, holds}
use Rattle.book.specs.Symbols.{longest_right}
use Rattle.book.specs.declared.rules.Rule.{Rule}

pub same_equal : (p q : Production) → same_rule p q ≡ true → p ≡ q
same_equal p q e =
    let s = and_parts (eqb p.lhs q.lhs) (bytes_eq p.rhs q.rhs) e in
    ap₂ ◌⟶◌ (eqb-true p.lhs q.lhs s.0) ((bytes_eq-Decides p.rhs q.rhs).0 s.1)

pub same_self : (p : Production) → same_rule p p ≡ true
same_self p = and_from _ _ (eq-eqb p.lhs p.lhs refl) ((bytes_eq-Decides p.rhs p.rhs).1 refl)

padded_from : (m n : ℕ) (xs ys : List ℕ) → m ≡ n → take m xs ≡ take n ys → drop m xs ≡ replicate (longest_right - m) 0 → drop n ys ≡ replicate (longest_right - n) 0 → xs ≡ ys
padded_from m n xs ys same front px py =
    let past : drop m xs ≡ drop n ys = px ∙ ap (λ k. replicate (longest_right - k) 0) same ∙ sym py in
    sym (take-append-drop m xs) ∙ ap₂ ◌++◌ front past ∙ take-append-drop n ys

-- the places past the sides are 0, so the sides are all of a rule
module _ (r s : Rule) where
  sides_from : (eqb r.left s.left && (eqb r.len s.len && bytes_eq r.right s.right)) ≡ true → production_of r ≡ production_of s
  sides_from e =
      let a = and_parts (eqb r.left s.left) (eqb r.len s.len && bytes_eq r.right s.right) e in
      let b = and_parts (eqb r.len s.len) (bytes_eq r.right s.right) a.1 in
      ap₂ ◌⟶◌ (eqb-true r.left s.left a.0) (ap₂ take (eqb-true r.len s.len b.0) ((bytes_eq-Decides r.right s.right).0 b.1))

  from_sides : production_of r ≡ production_of s → (eqb r.left s.left && (eqb r.len s.len && bytes_eq r.right s.right)) ≡ true
  from_sides e =
      let side : take r.len r.right ≡ take s.len s.right = ap (λ (p : Production). p.rhs) e in
      let len : r.len ≡ s.len = omega (arith, simp length-take at (ap length side), r.short, s.short, r.whole, s.whole) in
      let right : r.right ≡ s.right = padded_from r.len s.len r.right s.right len side r.padded s.padded in
      and_from _ _ (eq-eqb r.left s.left (ap (λ (p : Production). p.lhs) e)) (and_from _ _ (eq-eqb r.len s.len len) ((bytes_eq-Decides r.right s.right).1 right))

  equal_same : (eqb r.left s.left && (eqb r.len s.len && bytes_eq r.right s.right)) ≡ same_rule (production_of r) (production_of s)
  equal_same =
      let p = production_of r in
      let q = production_of s in
      same_from_decides _ _ (sides_from, from_sides) (same_equal p q, λ e. subst (λ t. same_rule p t ≡ true) e (same_self p))

pub contains_holds : (rules : List Rule) (s : Rule)
    → list_any (λ r. eqb r.left s.left && (eqb r.len s.len && bytes_eq r.right s.right)) rules ≡ holds (productions_of rules) (production_of s)
contains_holds [] s = refl
contains_holds (r ∷ rules) s = ap₂ ◌||◌ (equal_same r s) (contains_holds rules s)
