-- Rules within their bounds: the first bad code, and what a granted rule is.
use Rattle.std.proofs.Common.{ltb, ◌≡◌, ℕ, suc, ◌-◌, ◌≤◌, ⊎_elim, ◌+◌, sym, replicate, drop, length-append, length-drop, Bool, true, false, cond, not, ◌&&◌, List, [], ◌∷◌, ◌++◌, length, take, Some, None, Option, refl, ap, ◌∙◌, arith}
use Rattle.std.proofs.lemmas.Bool.{and_parts, and_from, le-leb, lt-ltb, le-ltb, cases_lt, cond-true, cond-false}
use Rattle.std.proofs.lemmas.List.{take_at, drop_at, drop-replicate}
use Rattle.std.specs.Option.{option_map}
use Rattle.std.specs.List.{position, position_or_len}
use Rattle.book.specs.Answers.{granted, no, refuse_if}
use Rattle.book.specs.Symbols.{is_symbol, is_nonterminal, within, longest_right}
use Rattle.book.specs.Rules.{Production, first_bad, all_symbols, is_bounded, rule_says, codes_say}

-- std's word for the index of the first bad code
pub position_first_bad : (xs : List ℕ) → position (λ x. not (is_symbol x)) xs ≡ first_bad xs
position_first_bad [] = refl
position_first_bad (x ∷ xs) =
    one_more (is_symbol x) (position_or_len (λ y. not (is_symbol y)) xs) (length xs)
    ∙ ap (λ o. cond (is_symbol x) (option_map suc o) (Some 0)) (position_first_bad xs)
  where
    one_more : (t : Bool) (k n : ℕ)
        → cond (ltb (cond (not (not t)) (1 + k) 0) (suc n)) (Some (cond (not (not t)) (1 + k) 0)) None ≡ cond t (option_map suc (cond (ltb k n) (Some k) None)) (Some 0)
    one_more false k n = cond-true _ _ _ (lt-ltb 0 (suc n) (omega arith))
    one_more true k n = ⊎_elim
        (λ l. let q : 1 + k ≡ suc k = omega arith in cond-true _ _ _ (lt-ltb (1 + k) (suc n) (omega arith)) ∙ ap Some q ∙ sym (ap (option_map suc) (cond-true _ _ _ (lt-ltb k n l))))
        (λ l. cond-false _ _ _ (le-ltb (1 + k) (suc n) (omega arith)) ∙ sym (ap (option_map suc) (cond-false _ _ _ (le-ltb k n l))))
        (cases_lt k n)

pub first_bad_none : (xs : List ℕ) → all_symbols xs ≡ true → first_bad xs ≡ None
first_bad_none [] g = refl
first_bad_none (x ∷ xs) g =
    let p = and_parts (is_symbol x) (all_symbols xs) g in
    ap (λ t. cond t (option_map suc (first_bad xs)) (Some 0)) p.0 ∙ ap (option_map suc) (first_bad_none xs p.1)

none_back : (o : Option ℕ) → option_map suc o ≡ None → o ≡ None
none_back None e = refl
none_back (Some x) e = let z : ◌≡◌ {A = ℕ} 0 1 = cc in absurd (omega arith)

all_step : (t : Bool) (o : Option ℕ) (g : Bool) → cond t (option_map suc o) (Some 0) ≡ None → (o ≡ None → g ≡ true) → (t && g) ≡ true
all_step true o g e f = f (none_back o e)
all_step false o g e f = let z : ◌≡◌ {A = ℕ} 0 1 = cc in absurd (omega arith)

pub all_symbols_from_none : (xs : List ℕ) → first_bad xs ≡ None → all_symbols xs ≡ true
all_symbols_from_none [] e = refl
all_symbols_from_none (x ∷ xs) e = all_step (is_symbol x) (first_bad xs) (all_symbols xs) e (all_symbols_from_none xs)

pub bounded_from_tests : (p : Production) → is_nonterminal p.lhs ≡ true → 1 ≤ length p.rhs → length p.rhs ≤ longest_right → first_bad p.rhs ≡ None → is_bounded p ≡ true
bounded_from_tests p n low high f = and_from _ _ n (and_from _ _ (and_from _ _ (le-leb 1 _ low) (le-leb _ longest_right high)) (all_symbols_from_none p.rhs f))

-- a rule is granted exactly when it keeps the bounds
pub bounded_granted : (p : Production) → is_bounded p ≡ true → rule_says p ≡ granted p
bounded_granted p h =
    let a = and_parts (is_nonterminal p.lhs) _ h in
    let b = and_parts (within 1 longest_right (length p.rhs)) (all_symbols p.rhs) a.1 in
    ap (λ t. refuse_if (not t) (no 2 []) (refuse_if (not (within 1 longest_right (length p.rhs))) (no 3 []) (codes_say p (first_bad p.rhs)))) a.0
    ∙ ap (λ t. refuse_if (not t) (no 3 []) (codes_say p (first_bad p.rhs))) b.0
    ∙ ap (codes_say p) (first_bad_none p.rhs b.1)

pub granted_bounded : (p q : Production) → rule_says p ≡ granted q → (is_bounded p ≡ true) × (q ≡ p)
granted_bounded p q e = go (is_nonterminal p.lhs) (within 1 longest_right (length p.rhs)) (first_bad p.rhs) refl refl refl e
  where
    go : (a b : Bool) (o : Option ℕ) → is_nonterminal p.lhs ≡ a → within 1 longest_right (length p.rhs) ≡ b → first_bad p.rhs ≡ o
        → refuse_if (not a) (no 2 []) (refuse_if (not b) (no 3 []) (codes_say p o)) ≡ granted q → (is_bounded p ≡ true) × (q ≡ p)
    go false b o f g h e = let z : ◌≡◌ {A = ℕ} 0 1 = cc in absurd (omega arith)
    go true false o f g h e = let z : ◌≡◌ {A = ℕ} 0 1 = cc in absurd (omega arith)
    go true true (Some i) f g h e = let z : ◌≡◌ {A = ℕ} 0 1 = cc in absurd (omega arith)
    go true true None f g h e = (and_from _ _ f (and_from _ _ g (all_symbols_from_none p.rhs h)), cc)

-- codes copied into places that are 0
module _ (codes copied : List ℕ) (same : copied ≡ codes) where
  pub copied_front : (past : List ℕ) → take (length codes) (copied ++ past) ≡ codes
  copied_front past = take_at copied past (length codes) (ap length same) ∙ same

  pub copied_past : drop (length codes) (copied ++ drop (length codes) (replicate longest_right 0)) ≡ replicate (longest_right - length codes) 0
  copied_past = drop_at copied _ (length codes) (ap length same) ∙ drop-replicate (length codes) longest_right 0

  pub copied_whole : length codes ≤ longest_right → length (copied ++ drop (length codes) (replicate longest_right 0)) ≡ longest_right
  copied_whole h = simp (length-append, length-drop) (omega (arith, ap length same))
