-- One record of a load, and one turn of the whole.
use Rattle.std.proofs.Common.{◌≡◌, ℕ, zero, suc, ◌+◌, ◌-◌, ◌<◌, ◌≤◌, cond, not, List, [], ◌∷◌, ◌++◌, length, get_or, drop, Some, None, Option, sym, refl, ap, ◌∙◌, arith}
use Rattle.std.proofs.lemmas.Bool.{ne_eqb, le-leb, and_from}
use Rattle.std.specs.Option.{option_map}
use Rattle.book.specs.Answers.{Answer, granted, refused, no, refuse_if, and_then, leaves}
use Rattle.book.specs.Symbols.{within, longest_right}
use Rattle.book.specs.Rules.{Production, ◌⟶◌, enter_says}
use Rattle.book.specs.Files.{front_says, rule_at, body_says, closing_says, closing_kind, record_says, record_leaves, width, load_from}

-- a record whose body is there enters its rule
pub rule_record : (rules : List Production) (place : ℕ) (xs body rest right : List ℕ) → body ≡ drop 1 xs → rest ≡ drop 1 body → 0 < length xs → 0 < length body
    → (get_or xs 0 0 ≡ closing_kind → ⊥) → 1 ≤ get_or xs 0 0 → get_or xs 0 0 ≤ longest_right → granted right ≡ front_says rest (get_or xs 0 0) place
    → record_says rules place xs ≡ rule_at place (get_or body 0 0 ⟶ right) (enter_says rules (get_or body 0 0 ⟶ right))
rule_record rules place [] body rest right b r some more ne low high e = absurd (omega arith)
rule_record rules place (k ∷ []) body rest right b r some more ne low high e = absurd (omega (arith, ap length b))
rule_record rules place (k ∷ l ∷ ws) body rest right b r some more ne low high e =
    let found : front_says ws k place ≡ granted right = sym (e ∙ ap (λ t. front_says t k place) (r ∙ ap (drop 1) b)) in
    ap (λ t. cond t (closing_says rules place (l ∷ ws)) (refuse_if (not (within 1 longest_right k)) (no 15 (place ∷ [])) (body_says rules place k (l ∷ ws)))) (ne_eqb k closing_kind ne)
    ∙ ap (λ t. refuse_if (not t) (no 15 (place ∷ [])) (body_says rules place k (l ∷ ws))) (and_from _ _ (le-leb 1 k low) (le-leb k longest_right high))
    ∙ ap (λ a. and_then a (λ ys. rule_at place (l ⟶ ys) (enter_says rules (l ⟶ ys)))) found
    ∙ ap (λ ys. rule_at place (get_or ys 0 0 ⟶ right) (enter_says rules (get_or ys 0 0 ⟶ right))) (sym b)

skips : (bytes : List ℕ) (n : ℕ) (rules : List Production) (place : ℕ) → load_from bytes n rules place ≡ load_from (drop n bytes) 0 rules place
skips [] zero rules place = refl
skips [] (suc n) rules place = refl
skips (b ∷ bytes) zero rules place = refl
skips (b ∷ bytes) (suc n) rules place = skips bytes n rules place

-- where a load goes on after a record
abbrev pub onward : Answer (Option ℕ) → List ℕ → List Production → ℕ → Answer (List Production)
onward (refused n) xs rules place = refused n
onward (granted None) xs rules place = granted rules
onward (granted (Some w)) xs rules place = load_from (drop w xs) 0 rules (place + w)

pub turn : (xs : List ℕ) (rules : List Production) (place : ℕ)
    → load_from xs 0 rules place ≡ onward (and_then (record_says rules place xs) (λ o. granted (option_map width o))) xs (record_leaves rules place xs) place
turn [] rules place = refl
turn (b ∷ bytes) rules place = go (record_says rules place (b ∷ bytes))
  where
    go : (a : Answer (Option Production))
        → and_then a (elim [ None ↦ granted rules | Some p ↦ load_from bytes (width p - 1) (rules ++ p ∷ []) (place + width p) ])
        ≡ onward (and_then a (λ o. granted (option_map width o))) (b ∷ bytes) (leaves a (elim [ None ↦ rules | Some p ↦ rules ++ p ∷ [] ]) rules) place
    go (refused n) = refl
    go (granted None) = refl
    go (granted (Some p)) =
        let q : width p ≡ suc (width p - 1) = omega arith in
        skips bytes (width p - 1) (rules ++ p ∷ []) (place + width p) ∙ ap (λ k. load_from (drop k (b ∷ bytes)) 0 (rules ++ p ∷ []) (place + width p)) (sym q)
