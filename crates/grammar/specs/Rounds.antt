-- Rounds come to rest, and what they reach is what every element in turn leaves as it is.
use Rattle.std.specs.Prelude.{◌≡◌, ℕ, zero, suc, ◌<◌, ◌≤◌, Bool, true, false, cond, not, ◌⊎◌, List, [], ◌∷◌, length, replicate, count_by, slice_set, refl}
use Rattle.std.proofs.Common.{inl, inr, ap, sym, ◌∙◌, subst, arith, length-set, get_or-set_same, get_or-set_other}
use Rattle.std.proofs.lemmas.List.{set-get_or}
use Rattle.std.proofs.lemmas.List.Sums.{sum_by-set, count_by-le-length}
use Rattle.std.proofs.lemmas.Bool.{cases_eq}
use Rattle.grammar.specs.Sets.{Flags, has, insert, none, only, symbol_count, times, through, saturate}

-- Repeating.

pub times_still : {A : Type 0} (f : A → A) (n : ℕ) (a : A) → f a ≡ a → times f n a ≡ a
times_still f zero a e = refl
times_still f (suc n) a e = ap (times f n) e ∙ times_still f n a e

-- what holds at the start, and after each turn, holds at the end
pub times_keeps : {A : Type 0} (f : A → A) (P : A → Type 0) → ((a : A) → P a → P (f a)) → (n : ℕ) (a : A) → P a → P (times f n a)
times_keeps f P keeps zero a p = p
times_keeps f P keeps (suc n) a p = times_keeps f P keeps n (f a) (keeps a p)

-- a function that changes nothing or lowers a number comes to rest
pub rests : {A : Type 0} (f : A → A) (P : A → Type 0) (μ : A → ℕ) → ((a : A) → P a → P (f a)) → ((a : A) → P a → (f a ≡ a) ⊎ (μ (f a) < μ a))
    → (n : ℕ) (a : A) → P a → μ a ≤ n → (f (times f n a) ≡ times f n a) × P (times f n a)
rests f P μ keeps or zero a p h = elim (or a p) [ inl e ↦ (e, p) | inr l ↦ absurd (omega arith) ]
rests f P μ keeps or (suc n) a p h =
    elim (or a p) [
      | inl e ↦ let t = times_still f (suc n) a e in (ap f t ∙ e ∙ sym t, subst P (sym t) p)
      | inr l ↦ rests f P μ keeps or n (f a) (keeps a p) (omega arith)
    ]

-- Flags.

-- how many are not set
abbrev pub unset : Flags → ℕ
unset s = count_by not s

pub none_has : (n z : ℕ) → has (replicate n false) z ≡ false
none_has zero z = refl
none_has (suc n) zero = refl
none_has (suc n) (suc z) = none_has n z

pub insert_same : (s : Flags) (x : ℕ) → has s x ≡ true → has (insert s x) x ≡ true
insert_same [] x e = e
insert_same (b ∷ s) zero e = refl
insert_same (b ∷ s) (suc x) e = insert_same s x e

-- what is in the set stays in
pub insert_keeps : (s : Flags) (x y : ℕ) → has s y ≡ true → has (insert s x) y ≡ true
insert_keeps s x y e =
    elim (cases_eq y x) [
      | inl p ↦ ap (has (insert s x)) p ∙ insert_same s x (subst (λ z. has s z ≡ true) p e)
      | inr n ↦ get_or-set_other s x y true false n ∙ e
    ]

-- what is in was in, or is what was put in
pub insert_from : (s : Flags) (x y : ℕ) → has (insert s x) y ≡ true → (has s y ≡ true) ⊎ (y ≡ x)
insert_from s x y e = elim (cases_eq y x) [ inl p ↦ inr p | inr n ↦ inl (sym (get_or-set_other s x y true false n) ∙ e) ]

pub insert_has : (s : Flags) (x : ℕ) → x < length s → has (insert s x) x ≡ true
insert_has s x h = get_or-set_same s x true false h

pub only_has : (x : ℕ) → x < symbol_count → has (only x) x ≡ true
only_has x h = get_or-set_same none x true false h

pub only_from : (x z : ℕ) → has (only x) z ≡ true → z ≡ x
only_from x z e = elim (insert_from none x z e) [ inl p ↦ let q : false ≡ true = sym (none_has symbol_count z) ∙ p in cc | inr p ↦ p ]

pub length_only : (x : ℕ) → length (only x) ≡ symbol_count
length_only x = length-set none x true

-- what is put in is in already, or fewer are left
pub insert_or : (s : Flags) (x : ℕ) → x < length s → ((has s x ≡ true) × (insert s x ≡ s)) ⊎ (unset (insert s x) < unset s)
insert_or s x h = go (has s x) refl
  where
    go : (b : Bool) → has s x ≡ b → ((has s x ≡ true) × (insert s x ≡ s)) ⊎ (unset (insert s x) < unset s)
    go true e = inl (e, ap (slice_set s x) (sym e) ∙ set-get_or s x false)
    go false e =
        let q = sum_by-set (λ b. cond (not b) 1 0) s x true false h in
        let r : ◌≡◌ {A = ℕ} (cond (not (has s x)) 1 0) 1 = ap (λ b. cond (not b) 1 0) e in
        inr (omega (arith, q, r))

-- an element of a list
abbrev pub In : {A : Type 0} → A → List A → Type 0
In x [] = ⊥
In x (y ∷ ys) = (x ≡ y) ⊎ In x ys

-- Saturation. Each element that is Ok either is Done with the set and leaves it as it is, or sets a flag.
module _ {A : Type 0} (step : Flags → A → Flags) (Ok : A → Type 0) (Done : Flags → A → Type 0)
    (long : (s : Flags) (r : A) → length (step s r) ≡ length s)
    (or : (s : Flags) (r : A) → Ok r → length s ≡ symbol_count → (Done s r × (step s r ≡ s)) ⊎ (unset (step s r) < unset s)) where
  pub through_long : (rs : List A) (s : Flags) → length (through step rs s) ≡ length s
  through_long [] s = refl
  through_long (r ∷ rs) s = through_long rs (step s r) ∙ long s r

  pub through_or : (rs : List A) → ((r : A) → In r rs → Ok r) → (s : Flags) → length s ≡ symbol_count
      → (((r : A) → In r rs → Done s r) × (through step rs s ≡ s)) ⊎ (unset (through step rs s) < unset s)
  through_or [] ok s l = inl (λ r i. absurd i, refl)
  through_or (r ∷ rs) ok s l =
      elim (or s r (ok r (inl refl)) l) [
        | inl d ↦
            let e : through step rs (step s r) ≡ through step rs s = ap (through step rs) d.1 in
            elim (through_or rs (λ q i. ok q (inr i)) s l) [
              | inl k ↦ inl (λ q i. elim i [ inl p ↦ subst (Done s) (sym p) d.0 | inr j ↦ k.0 q j ], e ∙ k.1)
              | inr m ↦ inr (rw e m)
            ]
        | inr m ↦
            elim (through_or rs (λ q i. ok q (inr i)) (step s r) (long s r ∙ l))
            [ inl k ↦ inr (rw k.1 m) | inr o ↦ inr (omega arith) ]
      ]

  -- in the end every element is done
  pub saturated : (rs : List A) → ((r : A) → In r rs → Ok r) → (s : Flags) → length s ≡ symbol_count
      → (length (saturate step rs s) ≡ symbol_count) × ((r : A) → In r rs → Done (saturate step rs s) r)
  saturated rs ok s l =
      let f : Flags → Flags = through step rs in
      let P : Flags → Type 0 = λ t. length t ≡ symbol_count in
      let or' : (t : Flags) → P t → (f t ≡ t) ⊎ (unset (f t) < unset t) = λ t p. elim (through_or rs ok t p) [ inl k ↦ inl k.1 | inr m ↦ inr m ] in
      let end = rests f P unset (λ t p. through_long rs t ∙ p) or' symbol_count s l (omega (arith, count_by-le-length not s)) in
      (end.1, elim (through_or rs ok (saturate step rs s) end.1) [ inl k ↦ k.0 | inr m ↦ let z = ap unset end.0 in absurd (omega arith) ])

-- what holds of the set at first, and after each step, holds in the end
pub saturate_keeps : {A : Type 0} (step : Flags → A → Flags) (P : Flags → Type 0) (rs : List A) → ((s : Flags) (r : A) → In r rs → P s → P (step s r)) → (s : Flags) → P s → P (saturate step rs s)
saturate_keeps step P rs keeps s p = times_keeps (through step rs) P (λ t q. go rs (λ r i. i) t q) symbol_count s p
  where
    go : (qs : List _) → ((r : _) → In r qs → In r rs) → (t : Flags) → P t → P (through step qs t)
    go [] sub t q = q
    go (r ∷ qs) sub t q = go qs (λ r' i. sub r' (inr i)) (step t r) (keeps t r (sub r (inl refl)) q)
