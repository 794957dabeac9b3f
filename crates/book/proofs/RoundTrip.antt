-- A saved book loads as the same rules, and a file that loads is the one that save writes.
use Rattle.std.proofs.Common.{◌≡◌, ℕ, zero, suc, ◌+◌, ◌-◌, ◌≤◌, Bool, true, false, cond, not, eqb, ltb, leb, List, [], ◌∷◌, ◌++◌, length, take, drop, Some, None, Option, sym, refl, ap, ◌∙◌, subst, ap₂, arith, length-append}
use Rattle.std.proofs.lemmas.List.{append-nil, append_assoc, take_at, drop_at, length-take-le, take-append-drop}
use Rattle.std.proofs.lemmas.Bool.{and_parts, leb-true, eqb-true, eq-eqb, le-ltb, ltb-false}
use Rattle.std.specs.Option.{option_map}
use Rattle.std.specs.List.{flat_map}
use Rattle.book.specs.Answers.{Answer, Refusal, granted, refused, no, refuse_if, and_then, leaves}
use Rattle.book.specs.Symbols.{within, longest_right, is_nonterminal}
use Rattle.book.specs.Rules.{Production, ◌⟶◌, all_symbols, is_well_formed, enter_says}
use Rattle.book.specs.Files.{record_of, file_of, closing_kind, front_says, rule_at, body_says, end_says, closing_says, record_says, width, load_from, load_says}
use Rattle.book.proofs.Admission.{done, enter_granted, enters_in_turn, push_well_formed}
use Rattle.book.proofs.Loads.{rule_record, onward, turn}
use Rattle.book.proofs.Records.{joined_append}

-- Saving, then loading.

-- a rule that can be entered is read off its record
pub record_read : (ps : List Production) (p : Production) (place : ℕ) (more : List ℕ) → enter_says ps p ≡ done → record_says ps place (record_of p ++ more) ≡ granted (Some p)
record_read ps p place more e =
    let size = (and_parts (within 1 longest_right (length p.rhs)) (all_symbols p.rhs) (and_parts (is_nonterminal p.lhs) _ (enter_granted ps p e).1).1).0 in
    let ends = and_parts (leb 1 (length p.rhs)) (leb (length p.rhs) longest_right) size in
    let low = leb-true 1 (length p.rhs) ends.0 in
    let high = leb-true (length p.rhs) longest_right ends.1 in
    let right : granted p.rhs ≡ front_says (p.rhs ++ more) (length p.rhs) place =
    ap granted (sym (take_at p.rhs more (length p.rhs) refl))
    ∙ ap (λ t. refuse_if t (no 16 (place ∷ [])) (granted (take (length p.rhs) (p.rhs ++ more)))) (sym (le-ltb (length (p.rhs ++ more)) (length p.rhs) (omega (arith, length-append p.rhs more)))) in
    rule_record ps place (record_of p ++ more) (p.lhs ∷ p.rhs ++ more) (p.rhs ++ more) p.rhs refl refl (omega arith) (omega arith) (λ q. omega arith) low high right
    ∙ ap (rule_at place p) e

closing_read : (ps : List Production) (place : ℕ) → record_says ps place (closing_kind ∷ length ps ∷ []) ≡ granted None
closing_read ps place = ap (λ t. refuse_if (not t) (no 18 (place ∷ [])) (granted None)) (eq-eqb (length ps) (length ps) refl)

-- a file's records, one by one, after those of `ps`
loads_on : (ps qs : List Production) (place : ℕ) → is_well_formed (ps ++ qs) ≡ true
    → load_from (flat_map record_of qs ++ closing_kind ∷ length (ps ++ qs) ∷ []) 0 ps place ≡ granted (ps ++ qs)
loads_on ps [] place w =
    let same = append-nil ps in
    ap (λ rs. load_from (closing_kind ∷ length rs ∷ []) 0 ps place) same
    ∙ turn (closing_kind ∷ length ps ∷ []) ps place
    ∙ ap (λ a. onward (and_then a (λ o. granted (option_map width o))) (closing_kind ∷ length ps ∷ []) (leaves a (elim [ None ↦ ps | Some p ↦ ps ++ p ∷ [] ]) ps) place) (closing_read ps place)
    ∙ ap granted (sym same)
loads_on ps (q ∷ qs) place w =
    let regroup : ps ++ q ∷ qs ≡ (ps ++ q ∷ []) ++ qs = sym (append_assoc ps (q ∷ []) qs) in
    let end = closing_kind ∷ length (ps ++ q ∷ qs) ∷ [] in
    let xs = record_of q ++ (flat_map record_of qs ++ end) in
    ap (λ t. load_from t 0 ps place) (append_assoc (record_of q) (flat_map record_of qs) end)
    ∙ turn xs ps place
    ∙ ap (λ a. onward (and_then a (λ o. granted (option_map width o))) xs (leaves a (elim [ None ↦ ps | Some p ↦ ps ++ p ∷ [] ]) ps) place) (record_read ps q place (flat_map record_of qs ++ end) (enters_in_turn ps q qs w))
    ∙ ap (λ t. load_from t 0 (ps ++ q ∷ []) (place + width q)) (drop_at (record_of q) (flat_map record_of qs ++ end) (width q) refl)
    ∙ ap (λ rs. load_from (flat_map record_of qs ++ closing_kind ∷ length rs ∷ []) 0 (ps ++ q ∷ []) (place + width q)) regroup
    ∙ loads_on (ps ++ q ∷ []) qs (place + width q) (ap is_well_formed (sym regroup) ∙ w)
    ∙ ap granted (sym regroup)

pub saved_loads : (rules : List Production) → is_well_formed rules ≡ true → load_says (file_of rules) ≡ granted rules
saved_loads rules w = loads_on [] rules 0 w

-- Loading, then saving.

-- what the bytes are, if the record at their front is granted
abbrev Tells : List Production → List ℕ → Answer (Option Production) → Type 0
Tells ps xs (refused n) = Unit {0}
Tells ps xs (granted None) = xs ≡ closing_kind ∷ length ps ∷ []
Tells ps xs (granted (Some p)) = (xs ≡ record_of p ++ drop (width p) xs) × (enter_says ps p ≡ done)

tells_closing : (ps : List Production) (place : ℕ) (bytes : List ℕ) → Tells ps (closing_kind ∷ bytes) (closing_says ps place bytes)
tells_closing ps place [] = tt
tells_closing ps place (n ∷ rest) = count (eqb n (length ps)) refl rest
  where
    count : (t : Bool) → eqb n (length ps) ≡ t → (rest : List ℕ) → Tells ps (closing_kind ∷ n ∷ rest) (refuse_if (not t) (no 18 (place ∷ [])) (end_says (place + 2) rest))
    count false f rest = tt
    count true f [] = ap (λ m. closing_kind ∷ m ∷ []) (eqb-true n (length ps) f)
    count true f (b ∷ rest) = tt

tells_body : (ps : List Production) (place k : ℕ) (bytes : List ℕ) → Tells ps (k ∷ bytes) (body_says ps place k bytes)
tells_body ps place k [] = tt
tells_body ps place k (l ∷ rest) = front (ltb (length rest) k) refl
  where
    rule : k ≤ length rest → (a : Answer (Unit {0})) → enter_says ps (l ⟶ take k rest) ≡ a → Tells ps (k ∷ l ∷ rest) (rule_at place (l ⟶ take k rest) a)
    rule long (refused (no m names)) f = tt
    rule long (granted tt) f =
        let size : length (take k rest) ≡ k = length-take-le k rest long in
        (ap₂ (λ n t. n ∷ l ∷ t) (sym size) (sym (take-append-drop k rest) ∙ ap (λ n. take k rest ++ drop n rest) (sym size)), f)

    front : (t : Bool) → ltb (length rest) k ≡ t
        → Tells ps (k ∷ l ∷ rest) (and_then (refuse_if t (no 16 (place ∷ [])) (granted (take k rest))) (λ right. rule_at place (l ⟶ right) (enter_says ps (l ⟶ right))))
    front true f = tt
    front false f = rule (ltb-false (length rest) k f) (enter_says ps (l ⟶ take k rest)) refl

tells : (ps : List Production) (place : ℕ) (xs : List ℕ) → Tells ps xs (record_says ps place xs)
tells ps place [] = tt
tells ps place (k ∷ bytes) = kind (eqb k closing_kind) refl
  where
    size : (t : Bool) → Tells ps (k ∷ bytes) (refuse_if (not t) (no 15 (place ∷ [])) (body_says ps place k bytes))
    size false = tt
    size true = tells_body ps place k bytes

    kind : (t : Bool) → eqb k closing_kind ≡ t
        → Tells ps (k ∷ bytes) (cond t (closing_says ps place bytes) (refuse_if (not (within 1 longest_right k)) (no 15 (place ∷ [])) (body_says ps place k bytes)))
    kind true f = subst (λ j. Tells ps (j ∷ bytes) (closing_says ps place bytes)) (sym (eqb-true k closing_kind f)) (tells_closing ps place bytes)
    kind false f = size (within 1 longest_right k)

never : {A B : Type 0} {x : A} {n : Refusal} → refused n ≡ granted x → B
never e = let z : ◌≡◌ {A = ℕ} 0 1 = cc in absurd (omega arith)

-- a load that is granted read just the records of its rules, and its rules are well_formed if those before it were
loaded_from : (xs : List ℕ) (skip : ℕ) (ps : List Production) (place : ℕ) (rules : List Production) → load_from xs skip ps place ≡ granted rules
    → (flat_map record_of ps ++ drop skip xs ≡ file_of rules) × (is_well_formed ps ≡ true → is_well_formed rules ≡ true)
loaded_from [] skip ps place rules e = never e
loaded_from (b ∷ bytes) (suc skip) ps place rules e = loaded_from bytes skip ps place rules e
loaded_from (b ∷ bytes) zero ps place rules e =
    go (record_says ps place (b ∷ bytes)) (tells ps place (b ∷ bytes)) e (λ p f. loaded_from bytes (width p - 1) (ps ++ p ∷ []) (place + width p) rules f)
  where
    go : (a : Answer (Option Production)) → Tells ps (b ∷ bytes) a
        → and_then a (elim [ None ↦ granted ps | Some p ↦ load_from bytes (width p - 1) (ps ++ p ∷ []) (place + width p) ]) ≡ granted rules
        → ((p : Production) → load_from bytes (width p - 1) (ps ++ p ∷ []) (place + width p) ≡ granted rules
        → (flat_map record_of (ps ++ p ∷ []) ++ drop (width p - 1) bytes ≡ file_of rules) × (is_well_formed (ps ++ p ∷ []) ≡ true → is_well_formed rules ≡ true))
        → (flat_map record_of ps ++ (b ∷ bytes) ≡ file_of rules) × (is_well_formed ps ≡ true → is_well_formed rules ≡ true)
    go (refused n) f e again = never e
    go (granted None) f e again =
        let same : ps ≡ rules = cc in
        (ap (λ t. flat_map record_of ps ++ t) f ∙ ap file_of same, λ w. ap is_well_formed (sym same) ∙ w)
    go (granted (Some p)) f e again =
        let rest = again p e in
        let step : width p ≡ suc (width p - 1) = omega arith in (
          ap (λ t. flat_map record_of ps ++ t) (f.0 ∙ ap (λ n. record_of p ++ drop n (b ∷ bytes)) step)
              ∙ sym (append_assoc (flat_map record_of ps) (record_of p) (drop (width p - 1) bytes))
              ∙ ap (λ t. t ++ drop (width p - 1) bytes) (ap (λ t. flat_map record_of ps ++ t) (sym (append-nil (record_of p))) ∙ sym (joined_append ps (p ∷ [])))
              ∙ rest.0,
          λ w. rest.1 (push_well_formed ps p w f.1),
        )

pub loaded_file : (bytes : List ℕ) (rules : List Production) → load_says bytes ≡ granted rules → bytes ≡ file_of rules
loaded_file bytes rules e = (loaded_from bytes 0 [] 0 rules e).0

pub loaded_well_formed : (bytes : List ℕ) (rules : List Production) → load_says bytes ≡ granted rules → is_well_formed rules ≡ true
loaded_well_formed bytes rules e = (loaded_from bytes 0 [] 0 rules e).1 refl
