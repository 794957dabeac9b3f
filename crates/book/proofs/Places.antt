-- The places of a book: a front of its array.
use Rattle.std.proofs.Common.{◌≡◌, ℕ, ◌+◌, ◌-◌, ◌≤◌, min, List, ◌++◌, map, length, take, drop, sym, refl, ap, ◌∙◌, ap₂, ⊎_elim, arith, length-append, length-drop, length-take, take_all}
use borrow.Rule.Slice.PartMut.{put_mid}
use Rattle.std.proofs.lemmas.Bool.{cases_lt}
use Rattle.std.proofs.lemmas.List.{append_assoc, take_at, take-take, drop-take, drop-drop, take-map, drop-map, map-append}

module _ {X : Type 0} where
  -- a count past the end means the whole list
  pub take_min : (xs : List X) (c m : ℕ) → length xs ≡ m → take (min c m) xs ≡ take c xs
  take_min xs c m e =
      ⊎_elim
      (λ below. let q : min c m ≡ c = omega arith in ap (λ k. take k xs) q)
      (λ past. take_all (min c m) xs (omega arith) ∙ sym (take_all c xs (omega arith)))
      (cases_lt c m)

  -- the front of a list, by its own length
  pub take_own : (xs : List X) (c : ℕ) → take (length (take c xs)) xs ≡ take c xs
  take_own xs c = ap (λ k. take k xs) (length-take c xs) ∙ take_min xs c (length xs) refl

  -- what is left in front when the element at `a` is rotated behind the m - 1 elements that follow it
  pub rotated_out : (xs : List X) (a m : ℕ) (post : List X) → 1 ≤ m → a + m ≤ length xs
      → take (a + m - 1) (take a xs ++ ((drop 1 (take m (drop a xs)) ++ take 1 (take m (drop a xs))) ++ post)) ≡ take a (take (a + m) xs) ++ drop (a + 1) (take (a + m) xs)
  rotated_out xs a m post some fits =
      let mid = take m (drop a xs) in
      let n : length (take a xs ++ drop 1 mid) ≡ a + m - 1 = simp (length-append, length-drop, length-take) (omega arith) in
      ap (take (a + m - 1)) (ap (λ t. take a xs ++ t) (append_assoc (drop 1 mid) (take 1 mid) post) ∙ sym (append_assoc (take a xs) (drop 1 mid) (take 1 mid ++ post)))
      ∙ take_at (take a xs ++ drop 1 mid) (take 1 mid ++ post) (a + m - 1) n
      ∙ ap₂ ◌++◌ (sym (take-take a (a + m) xs (omega arith))) (ap (drop 1) (sym (drop-take a m xs)) ∙ drop-drop 1 a (take (a + m) xs))

  -- the same, for the k-th of the first n elements
  pub struck_out : (xs : List X) (k n : ℕ) (ys : List X) → 1 ≤ k → k ≤ n → n ≤ length xs
      → ys ≡ drop 1 (take (n - (k - 1)) (drop (k - 1) xs)) ++ take 1 (take (n - (k - 1)) (drop (k - 1) xs))
      → take (n - 1) (put_mid (k - 1) (n - (k - 1)) xs ys) ≡ take (k - 1) (take n xs) ++ drop k (take n xs)
  struck_out xs k n ys low high fits e =
      let a = k - 1 in
      let m = n - (k - 1) in
      let whole : a + m ≡ n = omega arith in
      let next : a + 1 ≡ k = omega arith in
      ap (λ t. take (n - 1) (put_mid a m xs t)) e
      ∙ ap (λ j. take (j - 1) (put_mid a m xs (drop 1 (take m (drop a xs)) ++ take 1 (take m (drop a xs))))) (sym whole)
      ∙ rotated_out xs a m _ (omega arith) (omega arith)
      ∙ ap₂ (λ j i. take a (take j xs) ++ drop i (take j xs)) whole next

-- a part in the middle left out of a list, before and after a map
pub map_without : {X Y : Type 0} (f : X → Y) (xs : List X) (i j : ℕ) → map f (take i xs ++ drop j xs) ≡ take i (map f xs) ++ drop j (map f xs)
map_without f xs i j = map-append f (take i xs) (drop j xs) ∙ ap₂ ◌++◌ (sym (take-map f i xs)) (sym (drop-map f j xs))
