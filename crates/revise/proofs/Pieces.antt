-- The pieces of a text are what std's split gives.
use Rattle.std.proofs.Common.{◌≡◌, ℕ, ◌+◌, ◌<◌, Bool, true, false, cond, eqb, List, [], ◌∷◌, length, get_or, drop, refl, sym, ap, ◌∙◌, ap₂, arith}
use Rattle.std.proofs.lemmas.List.{drop_more, at_drop_all}
use Rattle.std.proofs.lemmas.List.FromFn.{length-enumerate_from, get_or-enumerate_from}
use Rattle.std.specs.List.{slice_split, onto_first, enumerate_from}
use Rattle.revise.specs.Scripts.{on_first, cut}

-- there is always a piece
cut_some : (mark : ℕ) (xs : List ℕ) → 0 < length (cut mark xs)
cut_some mark [] = omega arith
cut_some mark (x ∷ xs) = go (eqb x mark) (cut mark xs) (cut_some mark xs)
  where
    go : (t : Bool) (ps : List (List ℕ)) → 0 < length ps → 0 < length (cond t ([] ∷ ps) (on_first x ps))
    go true ps h = omega arith
    go false [] h = absurd (omega arith)
    go false (p ∷ ps) h = omega arith

first_is : (b : ℕ) (ps : List (List ℕ)) → 0 < length ps → onto_first b ps ≡ on_first b ps
first_is b [] h = absurd (omega arith)
first_is b (p ∷ ps) h = refl

pub split_cut : (mark : ℕ) (xs : List ℕ) → slice_split (λ b. eqb b mark) xs ≡ cut mark xs
split_cut mark [] = refl
split_cut mark (x ∷ xs) =
    ap (λ ps. cond (eqb x mark) ([] ∷ ps) (onto_first x ps)) (split_cut mark xs)
    ∙ ap (cond (eqb x mark) ([] ∷ cut mark xs)) (first_is x (cut mark xs) (cut_some mark xs))

-- the piece that an iterator over them gives at a turn, and the pieces after it
pub piece_at : (mark : ℕ) (text : List ℕ) (n : ℕ) (piece : List ℕ) → n < length (slice_split (λ b. eqb b mark) text) → piece ≡ get_or (slice_split (λ b. eqb b mark) text) n piece
    → drop n (cut mark text) ≡ piece ∷ drop (n + 1) (cut mark text)
piece_at mark text n piece h e =
    ap (drop n) (sym (split_cut mark text))
    ∙ drop_more (slice_split (λ b. eqb b mark) text) n piece h
    ∙ ap₂ (λ p ps. p ∷ drop (n + 1) ps) (sym e) (split_cut mark text)

pub piece_end : (mark : ℕ) (text : List ℕ) (n : ℕ) → n ≡ length (slice_split (λ b. eqb b mark) text) → drop n (cut mark text) ≡ []
piece_end mark text n e = ap (drop n) (sym (split_cut mark text)) ∙ at_drop_all (λ ps. ps) (slice_split (λ b. eqb b mark) text) n (omega arith)

-- the same, where each piece has its number
pub numbered_at : (ps : List (List ℕ)) (n i : ℕ) (piece : List ℕ) → n < length (enumerate_from 0 ps) → ◌≡◌ {A = ℕ × List ℕ} (i, piece) (get_or (enumerate_from 0 ps) n (i, piece))
    → (i ≡ n) × (n < length ps) × (piece ≡ get_or ps n piece)
numbered_at ps n i piece h e =
    let low : n < length ps = omega (arith, length-enumerate_from 0 ps) in
    let both : ◌≡◌ {A = ℕ × List ℕ} (i, piece) (0 + n, get_or ps n piece) = e ∙ get_or-enumerate_from 0 ps n (i, piece) low in
    let number : i ≡ 0 + n = ap (λ (p : ℕ × List ℕ). p.0) both in
    (omega arith, low, ap (λ (p : ℕ × List ℕ). p.1) both)
