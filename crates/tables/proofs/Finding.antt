-- Kernels that are found, turn by turn.
use Rattle.std.proofs.Common.{◌≡◌, ℕ, zero, suc, ◌+◌, ◌-◌, ◌<◌, ◌≤◌, Bool, true, false, ltb, List, [], ◌∷◌, ◌++◌, length, get_or, take, Ok, Err, Result, is_err, map, sym, refl, ap, ◌∙◌, arith, length-take}
use lib.ListN.{length-map}
use Rattle.std.proofs.lemmas.List.{length_push, get_or-map}
use Rattle.std.proofs.lemmas.Bool.{lt-ltb, le-ltb}
use Rattle.book.specs.Rules.{Production}
use Rattle.grammar.specs.Sets.{Flags, has, symbol_count, codes, up_from}
use Rattle.grammar.specs.Items.{Items, reads, onward}
use Rattle.grammar.specs.Lookahead.{Policy}
use Rattle.grammar.specs.Relations.{Relations}
use Rattle.grammar.specs.States.{items_of, number_of, with_kernel, with_next, visit, explore, most_states}
use Rattle.grammar.proofs.Turns.{up_more}
use Rattle.tables.specs.declared.kernels.Kernels.{Kernels}
use Rattle.tables.specs.declared.kernels.Full.{Full}
use Rattle.tables.specs.declared.moving.ItemSet.{ItemSet}
use Rattle.tables.specs.Kept.{kernels_in, Found}

module _ (n : ℕ) (ks : Kernels) (wide : ks.count ≤ length ks.sets) where
  pub kernels_long : length (kernels_in n ks) ≡ ks.count
  kernels_long = simp (length-map, length-take) (omega arith)

-- a kernel that is looked up in the code's list
module _ (n : ℕ) (ks : Kernels) (found : List ItemSet) (is : found ≡ take ks.count ks.sets) where
  pub found_long : length (kernels_in n ks) ≡ length found
  found_long = length-map (take ks.count ks.sets) (λ s. take n s.rows) ∙ ap length (sym is)

  pub found_few : length found ≤ ks.count
  found_few = rw is (simp length-take (omega arith))

  pub found_at : (i : ℕ) (kernel : ItemSet) → i < length found → kernel ≡ get_or found i kernel → get_or (kernels_in n ks) i [] ≡ take n kernel.rows
  found_at i kernel h at =
      let f : ItemSet → Items = λ s. take n s.rows in
      ap (λ q. get_or (map f q) i []) (sym is) ∙ get_or-map f found i kernel [] h ∙ ap f (sym at)

-- One kernel.

pub kernel_old : (ks : List Items) (k : Items) → number_of ks k < length ks → with_kernel ks k ≡ ks
kernel_old ks k h = ap (λ b. elim b [ true ↦ ks | false ↦ ks ++ k ∷ [] ]) (lt-ltb (number_of ks k) (length ks) h)

pub kernel_new : (ks : List Items) (k : Items) → length ks ≤ number_of ks k → with_kernel ks k ≡ ks ++ k ∷ []
kernel_new ks k h = ap (λ b. elim b [ true ↦ ks | false ↦ ks ++ k ∷ [] ]) (le-ltb (number_of ks k) (length ks) h)

kernel_grows : (ks : List Items) (k : Items) → length ks ≤ length (with_kernel ks k)
kernel_grows ks k = go (ltb (number_of ks k) (length ks))
  where
    go : (b : Bool) → length ks ≤ length {A = Items} (elim b [ true ↦ ks | false ↦ ks ++ k ∷ [] ])
    go true = omega arith
    go false = omega (arith, length_push ks k)

-- a refusal, where there are at least as many kernels as were too many
pub too_many : (n : ℕ) (all fewer : List Items) (ks : Kernels) (r : Result (Unit {0}) Full) → is_err r ≡ true → most_states < length fewer → length fewer ≤ length all → Found n all ks r
too_many n all fewer ks (Ok _) is many grows = cc
too_many n all fewer ks (Err _) is many grows = omega arith

-- The kernels over all symbols.

module _ (lines : List Production) (items : Items) (read : Flags) where
  pub next_grows : (xs : List ℕ) (ks : List Items) → length ks ≤ length (with_next lines items read xs ks)
  next_grows [] ks = omega arith
  next_grows (x ∷ xs) ks = go (next_grows xs) (has read x)
    where
      go : ((js : List Items) → length js ≤ length (with_next lines items read xs js)) → (b : Bool)
          → length ks ≤ length (with_next lines items read xs (elim b [ true ↦ with_kernel ks (onward x lines items) | false ↦ ks ]))
      go more true = omega (arith, more (with_kernel ks (onward x lines items)), kernel_grows ks (onward x lines items))
      go more false = more ks

  pub next_more : (ks : List Items) (x : ℕ) (t : Bool) → x < symbol_count → has read x ≡ t
      → with_next lines items read (up_from x (symbol_count - x)) ks
      ≡ with_next lines items read (up_from (x + 1) (symbol_count - (x + 1))) (elim t [ true ↦ with_kernel ks (onward x lines items) | false ↦ ks ])
  next_more ks x t h e =
      let rest = up_from (x + 1) (symbol_count - (x + 1)) in
      let step : with_next lines items read (up_from x (symbol_count - x)) ks ≡ with_next lines items read rest (elim (has read x) [ true ↦ with_kernel ks (onward x lines items) | false ↦ ks ]) =
      ap (λ q. with_next lines items read q ks) (up_more symbol_count x h) in
      step ∙ ap (λ b. with_next lines items read rest (elim b [ true ↦ with_kernel ks (onward x lines items) | false ↦ ks ])) e

-- The states in turn.

module _ (policy : Policy) (rel : Relations) where
  pub explore_grows : (n i : ℕ) (ks : List Items) → length ks ≤ length (explore policy rel n i ks)
  explore_grows zero i ks = omega arith
  explore_grows (suc n) i ks = go (explore_grows n (suc i)) (ltb i (length ks))
    where
      go : ((js : List Items) → length js ≤ length (explore policy rel n (suc i) js)) → (b : Bool)
          → length ks ≤ length {A = Items} (elim b [ true ↦ explore policy rel n (suc i) (visit rel.lines (items_of policy rel (get_or ks i [])) ks) | false ↦ ks ])
      go more true =
          let items = items_of policy rel (get_or ks i []) in
          omega (arith, more (visit rel.lines items ks), next_grows rel.lines items (reads rel.lines items) codes ks)
      go more false = omega arith

  pub explore_more : (i : ℕ) (ks : List Items) → i < most_states → i < length ks
      → explore policy rel (most_states - i) i ks ≡ explore policy rel (most_states - (i + 1)) (i + 1) (visit rel.lines (items_of policy rel (get_or ks i [])) ks)
  explore_more i ks h l =
      let e : most_states - i ≡ suc (most_states - (i + 1)) = omega arith in
      let f : suc i ≡ i + 1 = omega arith in
      let m = most_states - (i + 1) in
      let next = visit rel.lines (items_of policy rel (get_or ks i [])) ks in
      ap (λ n. explore policy rel n i ks) e ∙ ap (λ b. elim b [ true ↦ explore policy rel m (suc i) next | false ↦ ks ]) (lt-ltb i (length ks) l) ∙ ap (λ j. explore policy rel m j next) f

  pub explore_end : (n i : ℕ) (ks : List Items) → length ks ≤ i → explore policy rel n i ks ≡ ks
  explore_end zero i ks h = refl
  explore_end (suc n) i ks h = ap (λ b. elim b [ true ↦ explore policy rel n (suc i) (visit rel.lines (items_of policy rel (get_or ks i [])) ks) | false ↦ ks ]) (le-ltb i (length ks) h)
