-- The texts of a list's elements one after another: those of a front, one element more.
use Rattle.std.proofs.Common.{◌≡◌, ℕ, ◌+◌, ◌<◌, ◌≤◌, List, [], ◌∷◌, ◌++◌, map, length, get_or, take, drop, sym, refl, ap, ◌∙◌, arith}
use Rattle.std.specs.List.{flat_map}
use Rattle.std.proofs.lemmas.List.{append_assoc, length-append, take_more, take-append-drop, flat_map_more as joined-push}
use Rattle.report.specs.Writers.{HasRoom, Writes}
use Rattle.report.specs.declared.writers.Writer.{Writer}
use Rattle.report.proofs.Putting.{writes_same, writes_then}

pub joined_append : {X : Type 0} (f : X → List ℕ) (xs ys : List X) → flat_map f (xs ++ ys) ≡ flat_map f xs ++ flat_map f ys
joined_append f [] ys = refl
joined_append f (x ∷ xs) ys = ap (λ t. f x ++ t) (joined_append f xs ys) ∙ sym (append_assoc (f x) (flat_map f xs) (flat_map f ys))

pub joined_map : {X Y : Type 0} (f : Y → List ℕ) (g : X → Y) (xs : List X) → flat_map f (map g xs) ≡ flat_map (λ x. f (g x)) xs
joined_map f g [] = refl
joined_map f g (x ∷ xs) = ap (λ t. f (g x) ++ t) (joined_map f g xs)

pub joined_more : {X : Type 0} (f : X → List ℕ) (xs : List X) (i : ℕ) (d : X) → i < length xs → flat_map f (take (i + 1) xs) ≡ flat_map f (take i xs) ++ f (get_or xs i d)
joined_more f xs i d h = ap (flat_map f) (take_more xs i d h) ∙ sym (joined-push f [] (take i xs) (get_or xs i d))

pub length_joined_more : {X : Type 0} (f : X → List ℕ) (xs : List X) (i : ℕ) (d : X) → i < length xs
    → length (flat_map f (take (i + 1) xs)) ≡ length (flat_map f (take i xs)) + length (f (get_or xs i d))
length_joined_more f xs i d h = ap length (joined_more f xs i d h) ∙ length-append (flat_map f (take i xs)) (f (get_or xs i d))

-- the texts of a front are no longer than those of the whole
pub joined_within : {X : Type 0} (f : X → List ℕ) (xs : List X) (i : ℕ) → length (flat_map f (take i xs)) ≤ length (flat_map f xs)
joined_within f xs i =
    let e : flat_map f (take i xs) ++ flat_map f (drop i xs) ≡ flat_map f xs =
    sym (joined_append f (take i xs) (drop i xs)) ∙ ap (flat_map f) (take-append-drop i xs) in
    omega (arith, simp length-append at (ap length e))

-- the texts of a front written, and then that of the next element
pub writes_more : {X : Type 0} (f : X → List ℕ) (xs : List X) (i : ℕ) (d : X) (a b c : Writer) → i < length xs
    → Writes (flat_map f (take i xs)) a b → Writes (f (get_or xs i d)) b c → Writes (flat_map f (take (i + 1) xs)) a c
writes_more f xs i d a b c h v w = writes_same _ _ _ _ (sym (joined_more f xs i d h)) (writes_then _ _ _ _ _ v w)

-- before the next element's there is room for it
pub room_for : {X : Type 0} (f : X → List ℕ) (xs : List X) (i : ℕ) (d : X) (text : List ℕ) (a b : Writer) → i < length xs → HasRoom text a
    → length (flat_map f xs) ≤ length text → Writes (flat_map f (take i xs)) a b → HasRoom (f (get_or xs i d)) b
room_for f xs i d text a b h room part w =
    omega (arith, length_joined_more f xs i d h, joined_within f xs (i + 1), w.size, w.puts.next)
