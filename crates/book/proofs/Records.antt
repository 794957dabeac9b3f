-- Files: what is written so far, one record more.
use Rattle.std.proofs.Common.{◌≡◌, ℕ, ◌+◌, ◌-◌, ◌<◌, ◌≤◌, List, [], ◌∷◌, ◌++◌, length, get_or, take, drop, sym, refl, ap, ◌∙◌, arith, length-append, length-take, ◌*◌}
use Rattle.std.specs.List.{flat_map, sum_by}
use Rattle.std.proofs.lemmas.List.Sums.{sum_by-cons, sum_by-le}
use Rattle.std.proofs.lemmas.List.{append-nil, append_assoc, map-append, map_more, drop-drop, take-append-drop}
use Rattle.book.specs.Files.{record_of, file_of, closing_kind}
use Rattle.book.specs.Held.{production_of, productions_of}
use Rattle.book.specs.Rules.{Production}
use Rattle.book.specs.declared.rules.Rule.{Rule}

-- the records of some rules
abbrev pub records_of : List Rule → List ℕ
records_of rs = flat_map record_of (productions_of rs)

pub joined_append : (ps qs : List Production) → flat_map record_of (ps ++ qs) ≡ flat_map record_of ps ++ flat_map record_of qs
joined_append [] qs = refl
joined_append (p ∷ ps) qs = ap (λ t. record_of p ++ t) (joined_append ps qs) ∙ sym (append_assoc (record_of p) (flat_map record_of ps) (flat_map record_of qs))

-- how long a rule's record is
abbrev pub record_len : Rule → ℕ
record_len r = 2 + length (production_of r).rhs

pub record_lens_bound : (rs : List Rule) → sum_by record_len rs ≤ length rs * 8
record_lens_bound rs = sum_by-le record_len 8 rs (λ k d h. bound (get_or rs k d))
  where
    bound : (r : Rule) → record_len r ≤ 8
    bound r = simp length-take (omega (arith, r.short))

pub record_lens : (rs : List Rule) → sum_by record_len rs ≡ length (records_of rs)
record_lens [] = refl
record_lens (r ∷ rs) =
    let whole = length-append (record_of (production_of r)) (records_of rs) in
    sum_by-cons record_len r rs ∙ omega (arith, whole, record_lens rs)

pub records_more : (rs : List Rule) (i : ℕ) (r : Rule) → i < length rs → r ≡ get_or rs i r → records_of (take (i + 1) rs) ≡ records_of (take i rs) ++ record_of (production_of r)
records_more rs i r h e =
    ap (flat_map record_of) (map_more production_of rs i r h)
    ∙ joined_append (productions_of (take i rs)) (production_of (get_or rs i r) ∷ [])
    ∙ ap (λ t. records_of (take i rs) ++ t) (append-nil (record_of (production_of (get_or rs i r))) ∙ ap (λ x. record_of (production_of x)) (sym e))

pub length_file : (ps : List Production) → length (file_of ps) ≡ length (flat_map record_of ps) + 2
length_file ps = length-append (flat_map record_of ps) (closing_kind ∷ length ps ∷ [])

-- what stands past a place, further on
pub back_on : (xs ys : List ℕ) (a b : ℕ) → a ≤ b → drop a xs ≡ drop a ys → drop b xs ≡ drop b ys
back_on xs ys a b h e =
    let q : a + (b - a) ≡ b = omega arith in
    ap (λ k. drop k xs) (sym q) ∙ sym (drop-drop (b - a) a xs) ∙ ap (drop (b - a)) e ∙ drop-drop (b - a) a ys ∙ ap (λ k. drop k ys) q

pub length_records_more : (rs : List Rule) (i : ℕ) (r : Rule) → i < length rs → r ≡ get_or rs i r
    → length (records_of (take (i + 1) rs)) ≡ length (records_of (take i rs)) + (2 + length (production_of r).rhs)
length_records_more rs i r h e =
    ap length (records_more rs i r h e) ∙ length-append (records_of (take i rs)) (record_of (production_of r)) ∙ omega arith

-- the records of a front are no longer than those of the whole
pub records_within : (rs : List Rule) (i : ℕ) → length (records_of (take i rs)) ≤ length (records_of rs)
records_within rs i =
    let e : records_of (take i rs) ++ records_of (drop i rs) ≡ records_of rs =
    sym (joined_append (productions_of (take i rs)) (productions_of (drop i rs)))
    ∙ ap (flat_map record_of) (sym (map-append production_of (take i rs) (drop i rs)) ∙ ap productions_of (take-append-drop i rs)) in
    omega (arith, simp length-append at (ap length e))
