-- What lists over all codes have at a code, and what is in a set after an insertion under a test, in a union, among the kept elements, and after elements in turn.
use Rattle.std.specs.Prelude.{◌≡◌, ℕ, zero, suc, ◌+◌, ◌<◌, ◌≤◌, Bool, true, false, cond, ◌⊎◌, List, [], ◌∷◌, map, length, slice_index_or, refl}
use Rattle.std.proofs.Common.{inl, inr, sym, ap, ◌∙◌, subst, arith, length-set}
use Rattle.std.proofs.lemmas.List.{ext_get_or}
use Rattle.std.proofs.lemmas.Bool.{cases_eq, both_ways}
use Rattle.grammar.specs.Sets.{Flags, has, insert, union, up_from, symbol_count, codes, through}
use Rattle.grammar.specs.Rounds.{In, unset, insert_keeps, insert_from, insert_has, insert_or}

-- Codes.

at_number : {A : Type 0} (f : ℕ → A) (d : A) (k n i : ℕ) → i < n → slice_index_or (map f (up_from k n)) i d ≡ f (k + i)
at_number f d k zero i h = absurd (omega arith)
at_number f d k (suc n) zero h = let e : k ≡ k + 0 = omega arith in ap f e
at_number f d k (suc n) (suc i) h = let e : suc k + i ≡ k + suc i = omega arith in at_number f d (suc k) n i (omega arith) ∙ ap f e

-- a list over all codes has at each code what it has for it
pub at_code : {A : Type 0} (f : ℕ → A) (d : A) (x : ℕ) → x < symbol_count → slice_index_or (map f codes) x d ≡ f x
at_code f d x h = at_number f d 0 symbol_count x h ∙ ap f (let e : 0 + x ≡ x = omega arith in e)

in_numbers : (k n x : ℕ) → k ≤ x → x < k + n → In x (up_from k n)
in_numbers k zero x l h = absurd (omega arith)
in_numbers k (suc n) x l h = elim (cases_eq x k) [ inl e ↦ inl e | inr e ↦ inr (in_numbers (suc k) n x (omega arith) (omega arith)) ]

pub in_codes : (x : ℕ) → x < symbol_count → In x codes
in_codes x h = in_numbers 0 symbol_count x (omega arith) (omega arith)

-- A flag that is set if a test passes.

abbrev pub insert_if : Bool → Flags → ℕ → Flags
insert_if b s x = elim b [ true ↦ insert s x | false ↦ s ]

pub insert_if_long : (b : Bool) (s : Flags) (x : ℕ) → length (insert_if b s x) ≡ length s
insert_if_long true s x = length-set s x true
insert_if_long false s x = refl

pub insert_if_keeps : (b : Bool) (s : Flags) (x y : ℕ) → has s y ≡ true → has (insert_if b s x) y ≡ true
insert_if_keeps true s x y e = insert_keeps s x y e
insert_if_keeps false s x y e = e

pub insert_if_from : (b : Bool) (s : Flags) (x y : ℕ) → has (insert_if b s x) y ≡ true → (has s y ≡ true) ⊎ ((b ≡ true) × (y ≡ x))
insert_if_from true s x y e = elim (insert_from s x y e) [ inl p ↦ inl p | inr p ↦ inr (refl, p) ]
insert_if_from false s x y e = inl e

pub insert_if_has : (b : Bool) (s : Flags) (x : ℕ) → b ≡ true → x < length s → has (insert_if b s x) x ≡ true
insert_if_has true s x e h = insert_has s x h
insert_if_has false s x e h = absurd (both_ways false refl e)

-- what the test asks for is in already, or fewer are left
pub insert_if_or : (b : Bool) (s : Flags) (x : ℕ) → x < length s → ((b ≡ true → has s x ≡ true) × (insert_if b s x ≡ s)) ⊎ (unset (insert_if b s x) < unset s)
insert_if_or true s x h = elim (insert_or s x h) [ inl k ↦ inl (λ e. k.0, k.1) | inr m ↦ inr m ]
insert_if_or false s x h = inl (λ e. absurd (both_ways false refl e), refl)

-- Unions.

pub union_left : (s t : Flags) (x : ℕ) → has s x ≡ true → has (union s t) x ≡ true
union_left [] t x e = absurd (both_ways false refl e)
union_left (a ∷ s) [] x e = e
union_left (a ∷ s) (b ∷ t) zero e = ap (λ c. cond c true b) e
union_left (a ∷ s) (b ∷ t) (suc x) e = union_left s t x e

pub union_right : (s t : Flags) (x : ℕ) → has t x ≡ true → has (union s t) x ≡ true
union_right [] t x e = e
union_right (a ∷ s) [] x e = absurd (both_ways false refl e)
union_right (a ∷ s) (b ∷ t) zero e = go a
  where
    go : (c : Bool) → cond c true b ≡ true
    go true = refl
    go false = e
union_right (a ∷ s) (b ∷ t) (suc x) e = union_right s t x e

pub union_from : (s t : Flags) (x : ℕ) → has (union s t) x ≡ true → (has s x ≡ true) ⊎ (has t x ≡ true)
union_from [] t x e = inr e
union_from (a ∷ s) [] x e = inl e
union_from (a ∷ s) (b ∷ t) zero e = go a e
  where
    go : (c : Bool) → cond c true b ≡ true → (c ≡ true) ⊎ (b ≡ true)
    go true e = inl refl
    go false e = inr e
union_from (a ∷ s) (b ∷ t) (suc x) e = union_from s t x e

-- Elements in turn.

module _ {A S : Type 0} (step : S → A → S) where
  -- what every element keeps is kept
  pub through_keeps : (P : S → Type 0) (rs : List A) → ((r : A) → In r rs → (s : S) → P s → P (step s r)) → (s : S) → P s → P (through step rs s)
  through_keeps P [] keeps s p = p
  through_keeps P (r ∷ rs) keeps s p = through_keeps P rs (λ q i. keeps q (inr i)) (step s r) (keeps r (inl refl) s p)

  -- what one element brings about, where Q holds, and every element keeps is there in the end
  pub through_brings : (Q P : S → Type 0) (rs : List A) → ((r : A) (s : S) → Q s → Q (step s r)) → ((r : A) (s : S) → P s → P (step s r))
      → (r : A) → In r rs → ((s : S) → Q s → P (step s r)) → (s : S) → Q s → P (through step rs s)
  through_brings Q P [] keepsQ keepsP r m brings s q = absurd m
  through_brings Q P (x ∷ rs) keepsQ keepsP r (inl e) brings s q =
      through_keeps P rs (λ y i. keepsP y) (step s x) (subst (λ y. P (step s y)) e (brings s q))
  through_brings Q P (x ∷ rs) keepsQ keepsP r (inr i) brings s q = through_brings Q P rs keepsQ keepsP r i brings (step s x) (keepsQ x s q)

-- a set is what it says of each code
pub spread : (s : Flags) → length s ≡ symbol_count → s ≡ map (has s) codes
spread s l = ext_get_or false s (map (has s) codes) l (λ x h. sym (at_code (has s) false x (omega arith)))
