-- Counted loops, turn by turn: repeating a function, going through numbers, filling a table.
use Rattle.std.proofs.Common.{◌≡◌, ℕ, zero, suc, ◌+◌, ◌-◌, ◌<◌, ◌≤◌, Bool, true, false, cond, ◌&&◌, List, [], ◌∷◌, ◌++◌, map, length, get_or, take, drop, set, Option, Some, None, refl, sym, ap, ◌∙◌, ap₂, arith, length-set}
use Rattle.std.specs.List.{find, list_all}
use Rattle.std.specs.Option.{option_map}
use Rattle.std.proofs.lemmas.List.{append_assoc, ext_get_or, take_more_set, take_all, drop_more, drop-set-lt}
use Rattle.grammar.specs.Flagging.{at_code}
use Rattle.grammar.specs.Sets.{symbol_count, codes, times, up_from, keep, any, every}
use Rattle.grammar.specs.Useful.{lowest}

-- what is left to repeat, one turn on and at the end
pub times_more : {A : Type 0} (f : A → A) (n k : ℕ) (a : A) → k < n → times f (n - k) a ≡ times f (n - (k + 1)) (f a)
times_more f n k a h = let e : n - k ≡ suc (n - (k + 1)) = omega arith in ap (λ m. times f m a) e

pub times_done : {A : Type 0} (f : A → A) (n k : ℕ) (a : A) → n ≤ k → times f (n - k) a ≡ a
times_done f n k a h = let e : n - k ≡ 0 = omega arith in ap (λ m. times f m a) e

-- one number more, of those from x up to n
pub up_more : (n x : ℕ) → x < n → up_from x (n - x) ≡ x ∷ up_from (x + 1) (n - (x + 1))
up_more n x h =
    let e : n - x ≡ suc (n - (x + 1)) = omega arith in
    let f : suc x ≡ x + 1 = omega arith in
    ap (up_from x) e ∙ ap (λ y. x ∷ up_from y (n - (x + 1))) f

pub up_done : (n x : ℕ) → n ≤ x → up_from x (n - x) ≡ []
up_done n x h = let e : n - x ≡ 0 = omega arith in ap (up_from x) e

-- a table that is filled place by place: what is filled so far, one place on
pub table_more : {A : Type 0} (g : ℕ → A) (k : ℕ) → map g (up_from 0 (k + 1)) ≡ map g (up_from 0 k) ++ g k ∷ []
table_more g k = let e : k + 1 ≡ suc k = omega arith in ap (λ m. map g (up_from 0 m)) e ∙ go k 0 ∙ ap (λ m. map g (up_from 0 k) ++ g m ∷ []) (let z : 0 + k ≡ k = omega arith in z)
  where
    go : (n j : ℕ) → map g (up_from j (suc n)) ≡ map g (up_from j n) ++ g (j + n) ∷ []
    go zero j = ap (λ m. g m ∷ []) (let z : j ≡ j + 0 = omega arith in z)
    go (suc n) j = ap (λ q. g j ∷ q) (go n (suc j) ∙ ap (λ m. map g (up_from (suc j) n) ++ g m ∷ []) (let z : suc j + n ≡ j + suc n = omega arith in z))

-- a place of a table of n is filled
pub fill_more : {A : Type 0} (g : ℕ → A) (n : ℕ) (all : List A) (x : ℕ) (v : A) → x < n → length all ≡ n → v ≡ g x → take x all ≡ map g (up_from 0 x)
    → (length (set all x v) ≡ n) × (take (x + 1) (set all x v) ≡ map g (up_from 0 (x + 1)))
fill_more g n all x v h l e inv =
    (length-set all x v ∙ l, take_more_set all x v (omega arith) ∙ ap₂ (λ t w. t ++ w ∷ []) inv e ∙ sym (table_more g x))

pub fill_done : {A : Type 0} (g : ℕ → A) (n : ℕ) (all : List A) (x : ℕ) → n ≤ x → x ≤ n → length all ≡ n → take x all ≡ map g (up_from 0 x) → all ≡ map g (up_from 0 n)
fill_done g n all x low high l inv =
    let e : x ≡ n = omega arith in
    sym (take_all x all (omega arith)) ∙ inv ∙ ap (λ m. map g (up_from 0 m)) e

-- a table with the values of a function at all codes is the table of that function
pub filled : {A : Type 0} (g : ℕ → A) (d : A) (all : List A) → length all ≡ symbol_count → ((x : ℕ) → x < symbol_count → get_or all x d ≡ g x) → all ≡ map g codes
filled g d all l e = ext_get_or d all (map g codes) l (λ x h. e x (omega arith) ∙ sym (at_code g d x (omega arith)))

-- every element of a list passes a test
pub all_every : {A : Type 0} (p : A → Bool) (xs : List A) → list_all p xs ≡ every p xs
all_every p [] = refl
all_every p (x ∷ xs) = turn (p x) (list_all p xs) (every p xs) (all_every p xs)
  where
    turn : (t a b : Bool) → a ≡ b → (t && a) ≡ elim t [ true ↦ b | false ↦ false ]
    turn true a b e = e
    turn false a b e = refl

-- the lowest of some numbers that passes a test is the first that is found
pub find_lowest : (p : ℕ → Bool) (r : Option ℕ) (xs : List ℕ) → option_map (λ x. x) r ≡ find p xs → r ≡ lowest p xs
find_lowest p r xs e = same r ∙ e ∙ go xs
  where
    same : (o : Option ℕ) → o ≡ option_map (λ x. x) o
    same None = refl
    same (Some x) = refl

    turn : (t : Bool) (x : ℕ) (o q : Option ℕ) → o ≡ q → cond t (Some x) o ≡ elim t [ true ↦ Some x | false ↦ q ]
    turn true x o q i = refl
    turn false x o q i = i

    go : (ys : List ℕ) → find p ys ≡ lowest p ys
    go [] = refl
    go (y ∷ ys) = turn (p y) y (find p ys) (lowest p ys) (go ys)

-- a list that is changed in place, element by element, beside another
pub beside_more : {X Y : Type 0} (F : List X → List Y → List Y) (g : X → Y → Y)
    → ((x : X) (xs : List X) (y : Y) (ys : List Y) → F (x ∷ xs) (y ∷ ys) ≡ g x y ∷ F xs ys)
    → (xs : List X) (ys : List Y) (k : ℕ) (d : X) (e v : Y) → k < length xs → k < length ys → v ≡ g (get_or xs k d) (get_or ys k e)
    → take (k + 1) (set ys k v) ++ F (drop (k + 1) xs) (drop (k + 1) (set ys k v)) ≡ take k ys ++ F (drop k xs) (drop k ys)
beside_more F g step xs ys k d e v h i is =
    let f : F (drop k xs) (drop k ys) ≡ g (get_or xs k d) (get_or ys k e) ∷ F (drop (k + 1) xs) (drop (k + 1) ys) =
    ap (λ q. F q (drop k ys)) (drop_more xs k d h) ∙ ap (F (get_or xs k d ∷ drop (k + 1) xs)) (drop_more ys k e i) ∙ step _ _ _ _ in
    ap₂ (λ t u. t ++ F (drop (k + 1) xs) u) (take_more_set ys k v i) (drop-set-lt (k + 1) ys k v (omega arith))
    ∙ append_assoc (take k ys) (v ∷ []) (F (drop (k + 1) xs) (drop (k + 1) ys))
    ∙ ap (λ w. take k ys ++ w ∷ F (drop (k + 1) xs) (drop (k + 1) ys)) is ∙ ap (λ q. take k ys ++ q) (sym f)

-- the numbers that pass a test, from x up to n
pub keep_more : (p : ℕ → Bool) (n x : ℕ) → x < n → (t : Bool) → p x ≡ t
    → keep p (up_from x (n - x)) ≡ elim t [ true ↦ x ∷ keep p (up_from (x + 1) (n - (x + 1))) | false ↦ keep p (up_from (x + 1) (n - (x + 1))) ]
keep_more p n x h t e =
    let rest = keep p (up_from (x + 1) (n - (x + 1))) in
    let step : keep p (up_from x (n - x)) ≡ elim (p x) [ true ↦ x ∷ rest | false ↦ rest ] = ap (keep p) (up_more n x h) in
    step ∙ ap (λ b. elim b [ true ↦ x ∷ rest | false ↦ rest ]) e

-- whether some number passes a test, looked for from x up to n
module _ (p : ℕ → Bool) (n x : ℕ) where
  any_turn : x < n → (t : Bool) → p x ≡ t → any p (up_from x (n - x)) ≡ elim t [ true ↦ true | false ↦ any p (up_from (x + 1) (n - (x + 1))) ]
  any_turn h t e =
      let step : any p (up_from x (n - x)) ≡ elim (p x) [ true ↦ true | false ↦ any p (up_from (x + 1) (n - (x + 1))) ] = ap (any p) (up_more n x h) in
      step ∙ ap (λ b. elim b [ true ↦ true | false ↦ any p (up_from (x + 1) (n - (x + 1))) ]) e

  pub any_here : x < n → p x ≡ true → any p (up_from x (n - x)) ≡ true
  any_here h e = any_turn h true e

  pub any_more : x < n → p x ≡ false → any p (up_from x (n - x)) ≡ any p (up_from (x + 1) (n - (x + 1)))
  any_more h e = any_turn h false e

  pub any_done : n ≤ x → any p (up_from x (n - x)) ≡ false
  any_done h = ap (any p) (up_done n x h)

-- a function of what is left of two lists that are gone through side by side
pub at_drops_more : {X Y Z : Type 0} (F : List X → List Y → Z) (xs : List X) (ys : List Y) (i : ℕ) (d : X) (e : Y) → i < length xs → i < length ys
    → F (drop i xs) (drop i ys) ≡ F (get_or xs i d ∷ drop (i + 1) xs) (get_or ys i e ∷ drop (i + 1) ys)
at_drops_more F xs ys i d e h k = ap₂ F (drop_more xs i d h) (drop_more ys i e k)
