-- The tests on flags and on item sets tell whether two are the same.
use Rattle.std.proofs.Common.{◌≡◌, Bool, true, false, ◌↔◌, [], ◌∷◌, sym, refl, ap, ◌∙◌}
use Rattle.grammar.specs.Sets.{Flags}
use Rattle.grammar.specs.Items.{Items}
use Rattle.grammar.specs.States.{same_flags, same_items}

same_flags_is : (s t : Flags) → same_flags s t ≡ true → s ≡ t
same_flags_is [] [] e = refl
same_flags_is [] (b ∷ t) e = cc
same_flags_is (a ∷ s) [] e = cc
same_flags_is (true ∷ s) (true ∷ t) e = ap (λ u. true ∷ u) (same_flags_is s t e)
same_flags_is (true ∷ s) (false ∷ t) e = cc
same_flags_is (false ∷ s) (true ∷ t) e = cc
same_flags_is (false ∷ s) (false ∷ t) e = ap (λ u. false ∷ u) (same_flags_is s t e)

same_flags_self : (s : Flags) → same_flags s s ≡ true
same_flags_self [] = refl
same_flags_self (true ∷ s) = same_flags_self s
same_flags_self (false ∷ s) = same_flags_self s

pub same_flags_lem : (s t : Flags) → (same_flags s t ≡ true) ↔ (s ≡ t)
same_flags_lem s t = (same_flags_is s t, λ e. ap (same_flags s) (sym e) ∙ same_flags_self s)

pub same_items_is : (j k : Items) → same_items j k ≡ true → j ≡ k
same_items_is [] [] e = refl
same_items_is [] (b ∷ k) e = cc
same_items_is (a ∷ j) [] e = cc
same_items_is (a ∷ j) (b ∷ k) e = go (same_flags a b) refl e (same_items_is j k)
  where
    go : (c : Bool) → same_flags a b ≡ c → elim c [ true ↦ same_items j k | false ↦ false ] ≡ true → (same_items j k ≡ true → j ≡ k) → a ∷ j ≡ b ∷ k
    go true p h more = let q = same_flags_is a b p in let r = more h in cc
    go false p h more = cc

pub same_items_self : (k : Items) → same_items k k ≡ true
same_items_self [] = refl
same_items_self (a ∷ k) = rw (same_flags_self a, same_items) (same_items_self k)

pub same_items_lem : (j k : Items) → (same_items j k ≡ true) ↔ (j ≡ k)
same_items_lem j k = (same_items_is j k, λ e. ap (same_items j) (sym e) ∙ same_items_self j)
