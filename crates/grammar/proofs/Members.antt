-- Elements of lists: symbols of right sides and their bounds, sets that take in all of a list, tests of all of a list.
use Rattle.std.proofs.Common.{◌≡◌, ℕ, zero, suc, ◌<◌, Bool, true, false, ◌⊎◌, List, [], ◌∷◌, length, sym, refl, ap, ◌∙◌, subst, inl, inr, arith, length-set}
use Rattle.std.proofs.lemmas.Bool.{both_ways}
use Rattle.book.specs.Rules.{Production, all_bounded}
use Rattle.grammar.specs.Sets.{Flags, has, insert, symbol_count, every, through}
use Rattle.grammar.specs.Useful.{insert_all}
use Rattle.grammar.specs.Meaning.{Member, front, behind}
use Rattle.grammar.specs.Rounds.{unset, In, insert_keeps, insert_from, insert_has, insert_or, through_long, through_or}
use Rattle.grammar.specs.Bounded.{at_places, bounded_in}

-- Symbols of a right side.

pub member_listed : {x : ℕ} {ws : List ℕ} → Member x ws → In x ws
member_listed front = inl refl
member_listed (behind m) = inr (member_listed m)

pub listed_member : (x : ℕ) (ws : List ℕ) → In x ws → Member x ws
listed_member x [] i = absurd i
listed_member x (w ∷ ws) (inl e) = subst (λ y. Member y (w ∷ ws)) (sym e) front
listed_member x (w ∷ ws) (inr i) = behind (listed_member x ws i)

-- Bounds of the rules of a book.

module _ (rules : List Production) (bounded : all_bounded rules ≡ true) (p : Production) (i : In p rules) where
  pub left_below : p.lhs < symbol_count
  left_below = omega (arith, (bounded_in rules bounded p i).left_in.1)

  pub right_below : (x : ℕ) → In x p.rhs → x < symbol_count
  right_below x j = at_places (λ y. y < symbol_count) p.rhs (λ k h. omega (arith, ((bounded_in rules bounded p i).codes_in k h).1)) x (listed_member x p.rhs j)

-- Sets that take in all of a list.

pub has_below : (s : Flags) (x : ℕ) → has s x ≡ true → x < length s
has_below [] x e = let z : ◌≡◌ {A = ℕ} 0 1 = cc in omega arith
has_below (b ∷ s) zero e = omega arith
has_below (b ∷ s) (suc x) e = omega (arith, has_below s x e)

-- what holds of the set at first, and after each step, holds in the end
pub through_keeps : {A : Type 0} (step : Flags → A → Flags) (P : Flags → Type 0) (rs : List A) → ((s : Flags) (r : A) → In r rs → P s → P (step s r)) → (s : Flags) → P s → P (through step rs s)
through_keeps step P [] keeps s p = p
through_keeps step P (r ∷ rs) keeps s p = through_keeps step P rs (λ t q i. keeps t q (inr i)) (step s r) (keeps s r (inl refl) p)

pub insert_long : (s : Flags) (x : ℕ) → length (insert s x) ≡ length s
insert_long s x = length-set s x true

-- what is put in is in already, or fewer are left
pub insert_one_or : (s : Flags) (x : ℕ) → x < symbol_count → length s ≡ symbol_count → ((has s x ≡ true) × (insert s x ≡ s)) ⊎ (unset (insert s x) < unset s)
insert_one_or s x h l = insert_or s x (omega arith)

pub insert_all_keeps : (s : Flags) (xs : List ℕ) (y : ℕ) → has s y ≡ true → has (insert_all s xs) y ≡ true
insert_all_keeps s xs y = through_keeps insert (λ t. has t y ≡ true) xs (λ t x i. insert_keeps t x y) s

pub insert_all_has : (s : Flags) (xs : List ℕ) (y : ℕ) → In y xs → y < length s → has (insert_all s xs) y ≡ true
insert_all_has s [] y i h = absurd i
insert_all_has s (x ∷ xs) y (inl e) h = insert_all_keeps (insert s x) xs y (subst (λ z. has (insert s z) y ≡ true) e (insert_has s y h))
insert_all_has s (x ∷ xs) y (inr i) h = insert_all_has (insert s x) xs y i (omega (arith, length-set s x true))

pub insert_all_from : (s : Flags) (xs : List ℕ) (y : ℕ) → has (insert_all s xs) y ≡ true → (has s y ≡ true) ⊎ In y xs
insert_all_from s [] y e = inl e
insert_all_from s (x ∷ xs) y e =
    elim (insert_all_from (insert s x) xs y e)
    [ inl h ↦ elim (insert_from s x y h) [ inl q ↦ inl q | inr p ↦ inr (inl p) ] | inr i ↦ inr (inr i) ]

pub insert_all_long : (s : Flags) (xs : List ℕ) → length (insert_all s xs) ≡ length s
insert_all_long s xs = through_long insert (λ x. x < symbol_count) (λ t x. has t x ≡ true) insert_long insert_one_or xs s

-- all that is put in is in already, or fewer are left
pub insert_all_or : (s : Flags) (xs : List ℕ) → ((x : ℕ) → In x xs → x < symbol_count) → length s ≡ symbol_count
    → (((x : ℕ) → In x xs → has s x ≡ true) × (insert_all s xs ≡ s)) ⊎ (unset (insert_all s xs) < unset s)
insert_all_or s xs ok l = through_or insert (λ x. x < symbol_count) (λ t x. has t x ≡ true) insert_long insert_one_or xs ok s l

-- A set that takes the place of another if a test passes.

abbrev pub put_if : Bool → Flags → Flags → Flags
put_if b t s = elim b [ true ↦ t | false ↦ s ]

-- what holds of the old set, and if the test passes of the new one too, holds of what is left
pub put_if_keeps : (P : Flags → Type 0) (b : Bool) (t s : Flags) → P s → (b ≡ true → P t) → P (put_if b t s)
put_if_keeps P true t s old new = new refl
put_if_keeps P false t s old new = old

-- what the test asks for is done already, or fewer are left, if that holds of the new set
pub put_if_or : (Done : Type 0) (b : Bool) (t s : Flags) → (Done × (t ≡ s)) ⊎ (unset t < unset s) → ((b ≡ true → Done) × (put_if b t s ≡ s)) ⊎ (unset (put_if b t s) < unset s)
put_if_or Done true t s or = elim or [ inl k ↦ inl (λ e. k.0, k.1) | inr m ↦ inr m ]
put_if_or Done false t s or = inl (λ e. absurd (both_ways false refl e), refl)

-- Tests of all of a list.

pub every_in : {A : Type 0} (p : A → Bool) (xs : List A) → every p xs ≡ true → (x : A) → In x xs → p x ≡ true
every_in p [] e x i = absurd i
every_in p (y ∷ ys) e x i = go (p y) refl e (λ f j. every_in p ys f x j) i
  where
    go : (b : Bool) → p y ≡ b → elim b as (λ _. Bool) [ true ↦ every p ys | false ↦ false ] ≡ true → (every p ys ≡ true → In x ys → p x ≡ true) → In x (y ∷ ys) → p x ≡ true
    go true q f rest (inl k) = ap p k ∙ q
    go true q f rest (inr j) = rest f j
    go false q f rest j = let z : ◌≡◌ {A = ℕ} 0 1 = cc in absurd (omega arith)

pub in_every : {A : Type 0} (p : A → Bool) (xs : List A) → ((x : A) → In x xs → p x ≡ true) → every p xs ≡ true
in_every p [] h = refl
in_every p (y ∷ ys) h = rw (h y (inl refl), every) (in_every p ys (λ x i. h x (inr i)))
