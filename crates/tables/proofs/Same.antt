-- Comparing item sets, and numbering kernels.
use Rattle.std.proofs.Common.{◌≡◌, ℕ, zero, suc, ◌+◌, ◌<◌, ◌≤◌, ltb, Bool, true, false, cond, ◌&&◌, List, [], ◌∷◌, map, length, get_or, take, Some, None, Option, unwrap_or, refl, sym, ap, ◌∙◌, ap₂, arith}
use lib.Pointwise.{pointwise}
use mathlib.Core.Bool.{beq}
use Rattle.std.proofs.lemmas.Bool.{ltb-false}
use Rattle.std.proofs.lemmas.List.Recursion.{is_position_or_len}
use Rattle.std.specs.List.{position_or_len}
use Rattle.grammar.specs.Sets.{Flags}
use Rattle.grammar.specs.Items.{Items}
use Rattle.grammar.specs.States.{same_flags, same_items, number_of}
use Rattle.tables.specs.declared.moving.ItemSet.{ItemSet}

-- the library's equality of rows and of item sets is this crate's

pub flags_alike : (a b : Flags) → pointwise beq a b ≡ same_flags a b
flags_alike [] [] = refl
flags_alike [] (y ∷ b) = refl
flags_alike (x ∷ a) [] = refl
flags_alike (true ∷ a) (true ∷ b) = flags_alike a b
flags_alike (true ∷ a) (false ∷ b) = refl
flags_alike (false ∷ a) (true ∷ b) = refl
flags_alike (false ∷ a) (false ∷ b) = flags_alike a b

both : (p q t u : Bool) → p ≡ t → q ≡ u → (p && q) ≡ elim t [ true ↦ u | false ↦ false ]
both true q t u e f = ap₂ (λ v w. elim v [ true ↦ w | false ↦ false ]) e f
both false q t u e f = ap (λ v. elim v [ true ↦ u | false ↦ false ]) e

pub items_alike : (a b : Items) → pointwise (pointwise beq) a b ≡ same_items a b
items_alike [] [] = refl
items_alike [] (y ∷ b) = refl
items_alike (x ∷ a) [] = refl
items_alike (x ∷ a) (y ∷ b) = both (pointwise beq x y) (pointwise (pointwise beq) a b) (same_flags x y) (same_items a b) (flags_alike x y) (items_alike a b)

-- sets that differ in some row
pub differ_at : (a b : Items) (k : ℕ) → k < length a → k < length b → same_flags (get_or a k []) (get_or b k []) ≡ false → same_items a b ≡ false
differ_at [] b k h l e = absurd (omega arith)
differ_at (x ∷ a) [] k h l e = refl
differ_at (x ∷ a) (y ∷ b) zero h l e = ap (λ t. elim t [ true ↦ same_items a b | false ↦ false ]) e
differ_at (x ∷ a) (y ∷ b) (suc k) h l e =
    elim (same_flags x y) as (λ t. elim t [ true ↦ same_items a b | false ↦ false ] ≡ false) [ true ↦ differ_at a b k (omega arith) (omega arith) e | false ↦ refl ]

-- the number of a kernel is its position among the code's
module _ (n : ℕ) (f : Items) where
  numbered : List ItemSet → ℕ
  numbered all = number_of (map (λ s. take n s.rows) all) f

  least : (all : List ItemSet) → numbered all ≤ length all
  unfolding numbered
  least [] = omega arith
  least (s ∷ all) = go (same_items (take n s.rows) f) (least all)
    where
      go : (b : Bool) → numbered all ≤ length all → elim b [ true ↦ 0 | false ↦ suc (numbered all) ] ≤ suc (length all)
      go true h = omega arith
      go false h = omega arith

  listed : (all : List ItemSet) → numbered all ≡ position_or_len (λ s. same_items (take n s.rows) f) all
  unfolding numbered
  listed all = is_position_or_len numbered (λ s. same_items (take n s.rows) f) refl (λ s rest. one (same_items (take n s.rows) f) (numbered rest)) all
    where
      one : (b : Bool) (k : ℕ) → elim b [ true ↦ 0 | false ↦ suc k ] ≡ cond b 0 (1 + k)
      one true k = refl
      one false k = omega arith

  placed : (m p : ℕ) (b : Bool) → ltb p m ≡ b → p ≤ m → unwrap_or (cond b (Some p) None) m ≡ p
  placed m p true e h = refl
  placed m p false e h = let l = ltb-false p m e in omega arith

  pub number_is : (all : List ItemSet) (o : Option ℕ)
      → o ≡ cond (ltb (position_or_len (λ s. same_items (take n s.rows) f) all) (length all)) (Some (position_or_len (λ s. same_items (take n s.rows) f) all)) None
      → unwrap_or o (length all) ≡ number_of (map (λ s. take n s.rows) all) f
  unfolding numbered
  number_is all o e =
      let p = position_or_len (λ s. same_items (take n s.rows) f) all in
      let is : p ≡ number_of (map (λ s. take n s.rows) all) f = sym (listed all) in
      ap (λ q. unwrap_or q (length all)) e ∙ placed (length all) p (ltb p (length all)) refl (omega (arith, is, least all)) ∙ is
