-- Sets of symbols as flags: whether symbol x is in the set stands at place x of a list.
-- A test that decides whether a computation goes on stands in an `elim`, whose cases are computed only when they are reached.
use Rattle.std.specs.Prelude.{ℕ, zero, suc, Bool, true, false, cond, List, [], ◌∷◌, replicate, slice_index_or, slice_set}

abbrev pub Flags : Type 0
Flags = List Bool

abbrev pub has : Flags → ℕ → Bool
has s x = slice_index_or s x false

abbrev pub insert : Flags → ℕ → Flags
insert s x = slice_set s x true

-- n numbers from k up
abbrev pub up_from : ℕ → ℕ → List ℕ
up_from k zero = []
up_from k (suc n) = k ∷ up_from (suc k) n

-- how many symbols there are: the codes 0 to 80
abbrev pub symbol_count : ℕ
symbol_count = 81

abbrev pub codes : List ℕ
codes = up_from 0 symbol_count

abbrev pub none : Flags
none = replicate symbol_count false

abbrev pub only : ℕ → Flags
only x = insert none x

abbrev pub union : Flags → Flags → Flags
union [] bs = bs
union (a ∷ more) [] = a ∷ more
union (a ∷ more) (b ∷ bs) = cond a true b ∷ union more bs

-- n times f
abbrev pub times : {A : Type 0} → (A → A) → ℕ → A → A
times f zero a = a
times f (suc n) a = times f n (f a)

module _ {A : Type 0} where
  abbrev pub any : (A → Bool) → List A → Bool
  any p [] = false
  any p (x ∷ xs) = elim (p x) [ true ↦ true | false ↦ any p xs ]

  abbrev pub every : (A → Bool) → List A → Bool
  every p [] = true
  every p (x ∷ xs) = elim (p x) [ true ↦ every p xs | false ↦ false ]

  abbrev pub keep : (A → Bool) → List A → List A
  keep p [] = []
  keep p (x ∷ xs) = elim (p x) [ true ↦ x ∷ keep p xs | false ↦ keep p xs ]

  -- the elements in turn, each by what those before it left
  abbrev pub through : {S : Type 0} → (S → A → S) → List A → S → S
  through step [] s = s
  through step (x ∷ xs) s = through step xs (step s x)

  -- Rounds through the elements. Each round but the last sets a flag, so as many rounds as there are flags are enough.
  abbrev pub saturate : (Flags → A → Flags) → List A → Flags → Flags
  saturate step xs s = times (through step xs) symbol_count s
