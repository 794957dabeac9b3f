-- The states of a book, by their kernels, numbered as found: lower states first, within a state by rising symbol.
use Rattle.std.specs.Prelude.{ℕ, zero, suc, Bool, true, false, List, [], ◌∷◌, ◌++◌, length, nat_lt, slice_index_or}
use Rattle.book.specs.Rules.{Production}
use Rattle.grammar.specs.Sets.{Flags, has, codes}
use Rattle.grammar.specs.Relations.{Relations}
use Rattle.grammar.specs.Items.{Items, reads, close, onward, start_kernel}
use Rattle.grammar.specs.Lookahead.{Policy, expand}

abbrev pub same_flags : Flags → Flags → Bool
same_flags [] [] = true
same_flags [] (b ∷ bs) = false
same_flags (a ∷ more) [] = false
same_flags (true ∷ more) (b ∷ bs) = elim b [ true ↦ same_flags more bs | false ↦ false ]
same_flags (false ∷ more) (b ∷ bs) = elim b [ true ↦ false | false ↦ same_flags more bs ]

abbrev pub same_items : Items → Items → Bool
same_items [] [] = true
same_items [] (b ∷ bs) = false
same_items (a ∷ more) [] = false
same_items (a ∷ more) (b ∷ bs) = elim (same_flags a b) [ true ↦ same_items more bs | false ↦ false ]

-- the items of a state from its closed kernel, and from its kernel
abbrev pub items_from : Policy → Relations → Items → Items
items_from policy rel closed = expand rel (policy rel closed) closed

abbrev pub items_of : Policy → Relations → Items → Items
items_of policy rel kernel = items_from policy rel (close rel.lines kernel)

-- the number of the first kernel that is this one; as many as there are if none is
abbrev pub number_of : List Items → Items → ℕ
number_of [] k = 0
number_of (j ∷ js) k = elim (same_items j k) [ true ↦ 0 | false ↦ suc (number_of js k) ]

-- a kernel that is found stands behind the others, unless it is among them
abbrev pub with_kernel : List Items → Items → List Items
with_kernel ks k = elim (nat_lt (number_of ks k) (length ks)) [ true ↦ ks | false ↦ ks ++ k ∷ [] ]

-- the kernels over these symbols, as far as they are read
abbrev pub with_next : List Production → Items → Flags → List ℕ → List Items → List Items
with_next lines items read [] ks = ks
with_next lines items read (x ∷ xs) ks =
    with_next lines items read xs (elim (has read x) [ true ↦ with_kernel ks (onward x lines items) | false ↦ ks ])

abbrev pub visit : List Production → Items → List Items → List Items
visit lines items ks = with_next lines items (reads lines items) codes ks

-- state i and at most n - 1 states after it are visited in turn
abbrev pub explore : Policy → Relations → ℕ → ℕ → List Items → List Items
explore policy rel zero i ks = ks
explore policy rel (suc n) i ks =
    elim (nat_lt i (length ks)) [ true ↦ explore policy rel n (suc i) (visit rel.lines (items_of policy rel (slice_index_or ks i [])) ks) | false ↦ ks ]

-- how many states there may be; the kernels, which are more than that where there are too many
abbrev pub most_states : ℕ
most_states = 200

abbrev pub kernels_of : Policy → Relations → List Items
kernels_of policy rel = explore policy rel most_states 0 (start_kernel rel.lines ∷ [])
