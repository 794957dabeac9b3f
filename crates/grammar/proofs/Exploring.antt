-- The states that are found are kernels of the construction, no two equal; if they are not too many, they are all.
use Rattle.std.proofs.Common.{◌≡◌, ℕ, zero, suc, ◌+◌, ◌<◌, ◌≤◌, Bool, true, false, ltb, ◌⊎◌, List, [], ◌∷◌, ◌++◌, length, get_or, sym, refl, ap, ◌∙◌, subst, inl, inr, append_assoc, append-nil, arith, length-append, length-set}
use lib.ListN.{length-replicate}
use Rattle.std.proofs.lemmas.Bool.{ltb-true, ltb-false, cases_lt, cases_eq}
use Rattle.std.proofs.lemmas.List.{get_or_append_left, get_or_push, length_push}
use Rattle.book.specs.Rules.{Production, all_bounded}
use Rattle.grammar.specs.Sets.{Flags, has, insert, none, symbol_count, codes}
use Rattle.grammar.specs.Numbered.{numbered}
use Rattle.grammar.specs.Relations.{Relations, relations_of}
use Rattle.grammar.specs.Items.{Items, read_row, read_rows, reads, close, onward, start_kernel}
use Rattle.grammar.specs.Lookahead.{Policy}
use Rattle.grammar.specs.States.{same_items, items_of, number_of, with_kernel, with_next, visit, explore, most_states, kernels_of}
use Rattle.grammar.specs.Laws.{Shaped, ExpansionMeans, NextMeans, Kernel, initial, following, NumbersStates, StatesMean}
use Rattle.grammar.specs.Rounds.{In}
use Rattle.grammar.specs.Listed.{counted_has}
use Rattle.grammar.proofs.Members.{has_below}
use Rattle.grammar.proofs.Equalling.{same_items_is, same_items_self}

-- The number of a kernel.

pub number_hit : (ks : List Items) (k : Items) → number_of ks k < length ks → get_or ks (number_of ks k) [] ≡ k
number_hit [] k h = absurd (omega arith)
number_hit (j ∷ ks) k h = go (same_items j k) refl h (number_hit ks k)
  where
    go : (c : Bool) → same_items j k ≡ c → elim c [ true ↦ 0 | false ↦ suc (number_of ks k) ] < suc (length ks) → (number_of ks k < length ks → get_or ks (number_of ks k) [] ≡ k)
        → get_or (j ∷ ks) (elim c [ true ↦ 0 | false ↦ suc (number_of ks k) ]) [] ≡ k
    go true e l more = same_items_is j k e
    go false e l more = more (omega arith)

-- what stands at a place has a number no higher than the place
pub number_at : (ks : List Items) (s : ℕ) → s < length ks → number_of ks (get_or ks s []) ≤ s
number_at [] s h = absurd (omega arith)
number_at (j ∷ ks) zero h = rw (same_items_self j, number_of) (omega arith)
number_at (j ∷ ks) (suc s) h = go (same_items j (get_or ks s [])) (number_at ks s (omega arith))
  where
    go : (c : Bool) → number_of ks (get_or ks s []) ≤ s → elim c [ true ↦ 0 | false ↦ suc (number_of ks (get_or ks s [])) ] ≤ suc s
    go true l = omega arith
    go false l = omega arith

number_append : (ks js : List Items) (k : Items) → number_of ks k < length ks → number_of (ks ++ js) k ≡ number_of ks k
number_append [] js k h = absurd (omega arith)
number_append (i ∷ ks) js k h = go (same_items i k) h (number_append ks js k)
  where
    go : (c : Bool) → elim c [ true ↦ 0 | false ↦ suc (number_of ks k) ] < suc (length ks) → (number_of ks k < length ks → number_of (ks ++ js) k ≡ number_of ks k)
        → ◌≡◌ {A = ℕ} (elim c [ true ↦ 0 | false ↦ suc (number_of (ks ++ js) k) ]) (elim c [ true ↦ 0 | false ↦ suc (number_of ks k) ])
    go true l more = refl
    go false l more = ap suc (more (omega arith))

number_last : (ks : List Items) (k : Items) → number_of (ks ++ k ∷ []) k < length (ks ++ k ∷ [])
number_last ks k =
    let l = length_push ks k in
    let e : get_or (ks ++ k ∷ []) (length ks) [] ≡ k = get_or_push ks k [] (length ks) refl in
    let h = number_at (ks ++ k ∷ []) (length ks) (omega arith) in
    let p : number_of (ks ++ k ∷ []) k ≤ length ks = subst (λ j. number_of (ks ++ k ∷ []) j ≤ length ks) e h in
    omega arith

-- A list that goes on from another.

pub record Grows (ks ls : List Items) : Type 0 where
  pub more : List Items
  pub is : ls ≡ ks ++ more

grows_self : (ks : List Items) → Grows ks ks
grows_self ks = record { more = []; is = sym (append-nil ks) }

grows_on : {ks ls ms : List Items} → Grows ks ls → Grows ls ms → Grows ks ms
grows_on {ks} e f = record { more = e.more ++ f.more; is = f.is ∙ ap (λ l. l ++ f.more) e.is ∙ append_assoc ks e.more f.more }

grows_length : {ks ls : List Items} → Grows ks ls → length ks ≤ length ls
grows_length {ks} {ls} g = let e : length ls ≡ length ks + length g.more = ap length g.is ∙ length-append ks g.more in omega arith

grows_at : {ks ls : List Items} → Grows ks ls → (s : ℕ) → s < length ks → get_or ls s [] ≡ get_or ks s []
grows_at {ks} {ls} g s h = ap (λ l. get_or l s []) g.is ∙ get_or_append_left ks g.more [] s h

-- a kernel that has a number keeps it
grows_known : {ks ls : List Items} → Grows ks ls → (k : Items) → number_of ks k < length ks → number_of ls k < length ls
grows_known {ks} {ls} g k h =
    let e : number_of ls k ≡ number_of ks k = ap (λ l. number_of l k) g.is ∙ number_append ks g.more k h in
    let l = grows_length g in
    omega arith

-- A list of which all have a property, no two equal.

pub record Found (P : Items → Type 0) (ks : List Items) : Type 0 where
  pub each : (s : ℕ) → s < length ks → P (get_or ks s [])
  pub apart : (s t : ℕ) → s < t → t < length ks → get_or ks s [] ≡ get_or ks t [] → ⊥

found_one : (P : Items → Type 0) (k : Items) → P k → Found P (k ∷ [])
found_one P k p = record { each = at; apart = λ s t l h e. absurd (omega arith) }
  where
    at : (s : ℕ) → s < 1 → P (get_or (k ∷ []) s [])
    at zero h = p
    at (suc s) h = absurd (omega arith)

-- one more, which was not among them
found_push : (P : Items → Type 0) (ks : List Items) (k : Items) → Found P ks → P k → length ks ≤ number_of ks k → Found P (ks ++ k ∷ [])
found_push P ks k f p n = record { each = at; apart = λ s t l h e. other s t l (cases_lt t (length ks)) h e }
  where
    long : length (ks ++ k ∷ []) ≡ length ks + 1
    long = length_push ks k

    old : (s : ℕ) → s < length ks → get_or (ks ++ k ∷ []) s [] ≡ get_or ks s []
    old s h = get_or_append_left ks (k ∷ []) [] s h

    new : (s : ℕ) → length ks ≤ s → s < length (ks ++ k ∷ []) → get_or (ks ++ k ∷ []) s [] ≡ k
    new s g h = let l = long in get_or_push ks k [] s (omega arith)

    at : (s : ℕ) → s < length (ks ++ k ∷ []) → P (get_or (ks ++ k ∷ []) s [])
    at s h = elim (cases_lt s (length ks)) [ inl l ↦ subst P (sym (old s l)) (f.each s l) | inr g ↦ subst P (sym (new s g h)) p ]

    other : (s t : ℕ) → s < t → (t < length ks) ⊎ (length ks ≤ t) → t < length (ks ++ k ∷ []) → get_or (ks ++ k ∷ []) s [] ≡ get_or (ks ++ k ∷ []) t [] → ⊥
    other s t l (inl m) h e = f.apart s t l m (sym (old s (omega arith)) ∙ e ∙ old t m)
    other s t l (inr g) h e =
        let j = long in
        let m : s < length ks = omega arith in
        let q : get_or ks s [] ≡ k = sym (old s m) ∙ e ∙ new t g h in
        let r : number_of ks k ≤ s = subst (λ i. number_of ks i ≤ s) q (number_at ks s m) in
        omega arith

-- One kernel.

with_grows : (ks : List Items) (k : Items) → Grows ks (with_kernel ks k)
with_grows ks k = go (ltb (number_of ks k) (length ks))
  where
    go : (c : Bool) → Grows ks (elim c [ true ↦ ks | false ↦ ks ++ k ∷ [] ])
    go true = grows_self ks
    go false = record { more = k ∷ []; is = refl }

with_known : (ks : List Items) (k : Items) → number_of (with_kernel ks k) k < length (with_kernel ks k)
with_known ks k = go (ltb (number_of ks k) (length ks)) refl
  where
    go : (c : Bool) → ltb (number_of ks k) (length ks) ≡ c → number_of (elim c [ true ↦ ks | false ↦ ks ++ k ∷ [] ]) k < length {A = Items} (elim c [ true ↦ ks | false ↦ ks ++ k ∷ [] ])
    go true e = ltb-true (number_of ks k) (length ks) e
    go false e = number_last ks k

with_found : (P : Items → Type 0) (ks : List Items) (k : Items) → Found P ks → P k → Found P (with_kernel ks k)
with_found P ks k f p = go (ltb (number_of ks k) (length ks)) refl
  where
    go : (c : Bool) → ltb (number_of ks k) (length ks) ≡ c → Found P (elim c [ true ↦ ks | false ↦ ks ++ k ∷ [] ])
    go true e = f
    go false e = found_push P ks k f p (ltb-false (number_of ks k) (length ks) e)

-- The kernels that follow one.

module _ (lines : List Production) (items : Items) (read : Flags) where
  -- the kernel over x is put in where x is read
  abbrev along : ℕ → List Items → List Items
  along x ks = elim (has read x) [ true ↦ with_kernel ks (onward x lines items) | false ↦ ks ]

  along_grows : (x : ℕ) (ks : List Items) → Grows ks (along x ks)
  along_grows x ks = go (has read x)
    where
      go : (c : Bool) → Grows ks (elim c [ true ↦ with_kernel ks (onward x lines items) | false ↦ ks ])
      go true = with_grows ks (onward x lines items)
      go false = grows_self ks

  along_found : (P : Items → Type 0) → ((x : ℕ) → has read x ≡ true → P (onward x lines items)) → (x : ℕ) (ks : List Items) → Found P ks → Found P (along x ks)
  along_found P next x ks f = go (has read x) refl
    where
      go : (c : Bool) → has read x ≡ c → Found P (elim c [ true ↦ with_kernel ks (onward x lines items) | false ↦ ks ])
      go true e = with_found P ks (onward x lines items) f (next x e)
      go false e = f

  along_known : (x : ℕ) (ks : List Items) → has read x ≡ true → number_of (along x ks) (onward x lines items) < length (along x ks)
  along_known x ks e =
      subst (λ (c : Bool). number_of (elim c [ true ↦ with_kernel ks (onward x lines items) | false ↦ ks ]) (onward x lines items) < length {A = Items} (elim c [ true ↦ with_kernel ks (onward x lines items) | false ↦ ks ]))
      (sym e) (with_known ks (onward x lines items))

  next_grows : (xs : List ℕ) (ks : List Items) → Grows ks (with_next lines items read xs ks)
  next_grows [] ks = grows_self ks
  next_grows (x ∷ xs) ks = grows_on (along_grows x ks) (next_grows xs (along x ks))

  next_found : (P : Items → Type 0) → ((x : ℕ) → has read x ≡ true → P (onward x lines items)) → (xs : List ℕ) (ks : List Items) → Found P ks → Found P (with_next lines items read xs ks)
  next_found P next [] ks f = f
  next_found P next (x ∷ xs) ks f = next_found P next xs (along x ks) (along_found P next x ks f)

  next_known : (xs : List ℕ) (ks : List Items) (x : ℕ) → In x xs → has read x ≡ true
      → number_of (with_next lines items read xs ks) (onward x lines items) < length (with_next lines items read xs ks)
  next_known [] ks x i e = absurd i
  next_known (y ∷ xs) ks x (inl p) e =
      grows_known (next_grows xs (along y ks)) (onward x lines items)
      (subst (λ z. number_of (along y ks) (onward z lines items) < length (along y ks)) (sym p) (along_known y ks (subst (λ z. has read z ≡ true) p e)))
  next_known (y ∷ xs) ks x (inr i) e = next_known xs (along y ks) x i e

-- Symbols that are read are codes.

read_row_long : (s : Flags) (xs : List ℕ) (row : Flags) → length (read_row s xs row) ≡ length s
read_row_long s [] row = refl
read_row_long s (x ∷ xs) [] = refl
read_row_long s (x ∷ xs) (true ∷ row) = read_row_long (insert s x) xs row ∙ length-set s x true
read_row_long s (x ∷ xs) (false ∷ row) = read_row_long s xs row

read_rows_long : (s : Flags) (lines : List Production) (rows : Items) → length (read_rows s lines rows) ≡ length s
read_rows_long s [] rows = refl
read_rows_long s (l ∷ lines) [] = refl
read_rows_long s (l ∷ lines) (row ∷ rows) = read_rows_long (read_row s l.rhs row) lines rows ∙ read_row_long s l.rhs row

pub read_code : (lines : List Production) (items : Items) (x : ℕ) → has (reads lines items) x ≡ true → x < symbol_count
read_code lines items x e =
    let l : length (reads lines items) ≡ symbol_count = read_rows_long none lines items ∙ length-replicate symbol_count false in
    let h = has_below (reads lines items) x e in
    omega arith

-- Visits in turn.

module _ (policy : Policy) (rel : Relations) where
  -- the kernels that follow k are in the list
  abbrev Known : List Items → Items → Type 0
  Known ks k = (x : ℕ) → has (reads rel.lines (items_of policy rel k)) x ≡ true → number_of ks (onward x rel.lines (items_of policy rel k)) < length ks

  abbrev visited : ℕ → List Items → List Items
  visited i ks = visit rel.lines (items_of policy rel (get_or ks i [])) ks

  visit_grows : (i : ℕ) (ks : List Items) → Grows ks (visited i ks)
  visit_grows i ks = next_grows rel.lines (items_of policy rel (get_or ks i [])) (reads rel.lines (items_of policy rel (get_or ks i []))) codes ks

  visit_found : (P : Items → Type 0) (i : ℕ) (ks : List Items)
      → ((x : ℕ) → has (reads rel.lines (items_of policy rel (get_or ks i []))) x ≡ true → P (onward x rel.lines (items_of policy rel (get_or ks i [])))) → Found P ks → Found P (visited i ks)
  visit_found P i ks next f = next_found rel.lines (items_of policy rel (get_or ks i [])) (reads rel.lines (items_of policy rel (get_or ks i []))) P next codes ks f

  visit_known : (i : ℕ) (ks : List Items) → i < length ks → Known (visited i ks) (get_or (visited i ks) i [])
  visit_known i ks h =
      subst (Known (visited i ks)) (sym (grows_at (visit_grows i ks) i h))
      (λ x r. next_known rel.lines (items_of policy rel (get_or ks i [])) (reads rel.lines (items_of policy rel (get_or ks i []))) codes ks x
      (counted_has 0 symbol_count x (omega arith) (read_code rel.lines (items_of policy rel (get_or ks i [])) x r)) r)

  known_grows : {ks ls : List Items} → Grows ks ls → (s : ℕ) → s < length ks → Known ks (get_or ks s []) → Known ls (get_or ls s [])
  known_grows {ks} {ls} g s h known =
      subst (Known ls) (sym (grows_at g s h)) (λ x r. grows_known g (onward x rel.lines (items_of policy rel (get_or ks s []))) (known x r))

  explore_grows : (n i : ℕ) (ks : List Items) → Grows ks (explore policy rel n i ks)
  explore_grows zero i ks = grows_self ks
  explore_grows (suc n) i ks = go (ltb i (length ks)) (grows_on (visit_grows i ks) (explore_grows n (suc i) (visited i ks)))
    where
      go : (c : Bool) → Grows ks (explore policy rel n (suc i) (visited i ks)) → Grows ks (elim c [ true ↦ explore policy rel n (suc i) (visited i ks) | false ↦ ks ])
      go true g = g
      go false g = grows_self ks

  -- what passes on from a kernel to those that follow it holds of all that are found
  explore_found : (P : Items → Type 0) → ((k : Items) → P k → (x : ℕ) → has (reads rel.lines (items_of policy rel k)) x ≡ true → P (onward x rel.lines (items_of policy rel k)))
      → (n i : ℕ) (ks : List Items) → Found P ks → Found P (explore policy rel n i ks)
  explore_found P next zero i ks f = f
  explore_found P next (suc n) i ks f = go (ltb i (length ks)) refl (explore_found P next n (suc i) (visited i ks))
    where
      go : (c : Bool) → ltb i (length ks) ≡ c → (Found P (visited i ks) → Found P (explore policy rel n (suc i) (visited i ks)))
          → Found P (elim c [ true ↦ explore policy rel n (suc i) (visited i ks) | false ↦ ks ])
      go true e more = more (visit_found P i ks (next (get_or ks i []) (f.each i (ltb-true i (length ks) e))) f)
      go false e more = f

  -- what follows each kernel of the list is in it
  abbrev Finished : List Items → Type 0
  Finished ks = (s : ℕ) → s < length ks → Known ks (get_or ks s [])

  -- all states are visited, or there are more than the rounds
  explore_ends : (n i : ℕ) (ks : List Items) → ((s : ℕ) → s < i → s < length ks → Known ks (get_or ks s []))
      → Finished (explore policy rel n i ks) ⊎ (i + n < length (explore policy rel n i ks))
  explore_ends zero i ks known = elim (cases_lt i (length ks)) [ inl l ↦ inr (omega arith) | inr g ↦ inl (λ s h. known s (omega arith) h) ]
  explore_ends (suc n) i ks known = go (ltb i (length ks)) refl (explore_ends n (suc i) (visited i ks))
    where
      next : i < length ks → (s : ℕ) → s < suc i → s < length (visited i ks) → Known (visited i ks) (get_or (visited i ks) s [])
      next l s h m =
          elim (cases_eq s i) [
            | inl e ↦ subst (λ j. Known (visited i ks) (get_or (visited i ks) j [])) (sym e) (visit_known i ks l)
            | inr d ↦ let a : s < i = omega arith in let b : s < length ks = omega arith in known_grows (visit_grows i ks) s b (known s a b)
          ]

      go : (c : Bool) → ltb i (length ks) ≡ c
          → (((s : ℕ) → s < suc i → s < length (visited i ks) → Known (visited i ks) (get_or (visited i ks) s []))
          → Finished (explore policy rel n (suc i) (visited i ks)) ⊎ (suc i + n < length (explore policy rel n (suc i) (visited i ks))))
          → Finished (elim c [ true ↦ explore policy rel n (suc i) (visited i ks) | false ↦ ks ])
          ⊎ (i + suc n < length {A = Items} (elim c [ true ↦ explore policy rel n (suc i) (visited i ks) | false ↦ ks ]))
      go true e more = elim (more (next (ltb-true i (length ks) e))) [ inl k ↦ inl k | inr l ↦ inr (omega arith) ]
      go false e more = let g = ltb-false i (length ks) e in inl (λ s h. known s (omega arith) h)

  -- a list that begins with state 0 and is finished holds all kernels of the construction
  kernels_in : (ks : List Items) → 0 < length ks → get_or ks 0 [] ≡ start_kernel rel.lines → Finished ks → {k : Items} → Kernel policy rel k → number_of ks k < length ks
  kernels_in ks some begins finished initial =
      let p : number_of ks (start_kernel rel.lines) ≤ 0 = subst (λ k. number_of ks k ≤ 0) begins (number_at ks 0 some) in
      omega arith
  kernels_in ks some begins finished (following {k} x kernel r) =
      let h = kernels_in ks some begins finished kernel in
      subst (Known ks) (number_hit ks k h) (finished (number_of ks k) h) x r

-- The law.

module _ (expansion_means : ExpansionMeans) (next_means : NextMeans)
    (start_shaped : (rules : List Production) → all_bounded rules ≡ true → Shaped rules (start_kernel (numbered rules))) where
  -- a shaped kernel of the construction is followed by such kernels
  shaped_on : (rules : List Production) → all_bounded rules ≡ true → (policy : Policy) (k : Items) → Shaped rules k × Kernel policy (relations_of rules) k → (x : ℕ)
      → has (reads (numbered rules) (items_of policy (relations_of rules) k)) x ≡ true
      → Shaped rules (onward x (numbered rules) (items_of policy (relations_of rules) k)) × Kernel policy (relations_of rules) (onward x (numbered rules) (items_of policy (relations_of rules) k))
  shaped_on rules bounded policy k (shaped, kernel) x r =
      let s = (expansion_means rules bounded (policy (relations_of rules) (close (numbered rules) k)) k shaped).0 in
      ((next_means rules bounded (items_of policy (relations_of rules) k) s x).0, following x kernel r)

  -- the list after any number of rounds that is enough
  numbers_states : (rules : List Production) → all_bounded rules ≡ true → (policy : Policy) (n : ℕ) (ks : List Items)
      → explore policy (relations_of rules) n 0 (start_kernel (numbered rules) ∷ []) ≡ ks → most_states ≤ n → NumbersStates rules policy ks
  numbers_states rules bounded policy n ks is enough =
      let rel = relations_of rules in
      let start : List Items = start_kernel (numbered rules) ∷ [] in
      let P : Items → Type 0 = λ k. Shaped rules k × Kernel policy rel k in
      let g : Grows start ks = subst (Grows start) is (explore_grows policy rel n 0 start) in
      let f : Found P ks =
      subst (Found P) is (explore_found policy rel P (shaped_on rules bounded policy) n 0 start (found_one P (start_kernel (numbered rules)) (start_shaped rules bounded, initial))) in
      let ends : Finished policy rel ks ⊎ (0 + n < length ks) =
      subst (λ l. Finished policy rel l ⊎ (0 + n < length l)) is (explore_ends policy rel n 0 start (λ s h. absurd (omega arith))) in
      let long = grows_length g in
      let some : 0 < length ks = omega arith in
      let begins : get_or ks 0 [] ≡ start_kernel (numbered rules) = grows_at g 0 (omega arith) in
      record {
        begins = begins;
        some = some;
        shaped = λ s h. (f.each s h).0;
        reached = λ s h. (f.each s h).1;
        apart = f.apart;
        all = λ few k kernel.
            let finished : Finished policy rel ks = elim ends [ inl d ↦ d | inr m ↦ absurd (omega arith) ] in
            let h = kernels_in policy rel ks some begins finished kernel in
            (h, number_hit ks k h);
      }

  pub states_mean : StatesMean
  states_mean rules bounded policy = numbers_states rules bounded policy most_states (kernels_of policy (relations_of rules)) refl (omega arith)
