-- What stands in a list that a test keeps or that counts up, and when a test holds of some element.
use Rattle.std.specs.Prelude.{◌≡◌, ℕ, zero, suc, ◌+◌, ◌<◌, ◌≤◌, Bool, true, false, ◌⊎◌, List, [], ◌∷◌, refl}
use Rattle.std.proofs.Common.{inl, inr, ap, sym, ◌∙◌, arith}
use Rattle.std.proofs.lemmas.Bool.{cases_eq, false≢true}
use Rattle.grammar.specs.Sets.{up_from, any, keep}
use Rattle.grammar.specs.Rounds.{In}

-- an element in front of a list, if a test says so
module _ {A : Type 0} where
  front_from : (b : Bool) (y : A) (ys : List A) (x : A) → In x (elim b [ true ↦ y ∷ ys | false ↦ ys ]) → ((b ≡ true) × (x ≡ y)) ⊎ In x ys
  front_from true y ys x (inl e) = inl (refl, e)
  front_from true y ys x (inr i) = inr i
  front_from false y ys x i = inr i

  front_has : (b : Bool) (y : A) (ys : List A) (x : A) → ((b ≡ true) × (x ≡ y)) ⊎ In x ys → In x (elim b [ true ↦ y ∷ ys | false ↦ ys ])
  front_has true y ys x (inl q) = inl q.1
  front_has true y ys x (inr i) = inr i
  front_has false y ys x (inl q) = absurd (false≢true q.0)
  front_has false y ys x (inr i) = i

or_from : (b c : Bool) → elim b [ true ↦ true | false ↦ c ] ≡ true → (b ≡ true) ⊎ (c ≡ true)
or_from true c e = inl refl
or_from false c e = inr e

or_has : (b c : Bool) → (b ≡ true) ⊎ (c ≡ true) → elim b [ true ↦ true | false ↦ c ] ≡ true
or_has true c h = refl
or_has false c (inl e) = absurd (false≢true e)
or_has false c (inr e) = e

module _ {A : Type 0} (p : A → Bool) where
  pub kept_from : (xs : List A) (x : A) → In x (keep p xs) → In x xs × (p x ≡ true)
  kept_from [] x i = absurd i
  kept_from (y ∷ ys) x i =
      elim (front_from (p y) y (keep p ys) x i) [ inl q ↦ (inl q.1, ap p q.1 ∙ q.0) | inr j ↦ let m = kept_from ys x j in (inr m.0, m.1) ]

  pub kept_has : (xs : List A) (x : A) → In x xs → p x ≡ true → In x (keep p xs)
  kept_has [] x i h = absurd i
  kept_has (y ∷ ys) x (inl e) h = front_has (p y) y (keep p ys) x (inl (ap p (sym e) ∙ h, e))
  kept_has (y ∷ ys) x (inr i) h = front_has (p y) y (keep p ys) x (inr (kept_has ys x i h))

  pub any_from : (xs : List A) → any p xs ≡ true → (x : A) × In x xs × (p x ≡ true)
  any_from [] e = absurd (false≢true e)
  any_from (y ∷ ys) e = elim (or_from (p y) (any p ys) e) [ inl q ↦ (y, inl refl, q) | inr q ↦ let m = any_from ys q in (m.0, inr m.1, m.2) ]

  pub any_has : (xs : List A) (x : A) → In x xs → p x ≡ true → any p xs ≡ true
  any_has [] x i h = absurd i
  any_has (y ∷ ys) x (inl e) h = or_has (p y) (any p ys) (inl (ap p (sym e) ∙ h))
  any_has (y ∷ ys) x (inr i) h = or_has (p y) (any p ys) (inr (any_has ys x i h))

pub counted_from : (k n x : ℕ) → In x (up_from k n) → (k ≤ x) × (x < k + n)
counted_from k zero x i = absurd i
counted_from k (suc n) x (inl e) = (omega arith, omega arith)
counted_from k (suc n) x (inr i) = let h = counted_from (suc k) n x i in (omega (arith, h.0), omega (arith, h.1))

pub counted_has : (k n x : ℕ) → k ≤ x → x < k + n → In x (up_from k n)
counted_has k zero x l h = absurd (omega arith)
counted_has k (suc n) x l h = elim (cases_eq x k) [ inl e ↦ inl e | inr ne ↦ inr (counted_has (suc k) n x (omega arith) (omega arith)) ]
