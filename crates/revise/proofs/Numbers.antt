-- One more number of a list.
use Rattle.std.proofs.Common.{◌≡◌, ℕ, List, [], ◌∷◌, ◌++◌, Some, None, Option, sym, refl, ap, ◌∙◌, append_assoc, append-nil}
use Rattle.std.specs.Option.{option_map}
use Rattle.revise.specs.Scripts.{number_of, before, numbers_of}

both : (done : List ℕ) (n : ℕ) (ns : Option (List ℕ)) → option_map (λ ms. (done ++ n ∷ []) ++ ms) ns ≡ option_map (λ ms. done ++ ms) (option_map (λ ms. n ∷ ms) ns)
both done n None = refl
both done n (Some ms) = ap Some (append_assoc done (n ∷ []) ms)

-- the numbers of some texts after those before them, by the first
pub numbers_step : (limit : ℕ) (done more word : List ℕ) (words pieces : List (List ℕ)) (n : ℕ) → more ≡ done ++ n ∷ [] → pieces ≡ word ∷ words → Some n ≡ number_of limit word
    → option_map (λ ms. more ++ ms) (numbers_of limit words) ≡ option_map (λ ms. done ++ ms) (numbers_of limit pieces)
numbers_step limit done more word words pieces n m p e =
    ap (λ ns. option_map (λ ms. ns ++ ms) (numbers_of limit words)) m
    ∙ both done n (numbers_of limit words)
    ∙ ap (λ o. option_map (λ ms. done ++ ms) (before o (numbers_of limit words))) e
    ∙ ap (λ ps. option_map (λ ms. done ++ ms) (numbers_of limit ps)) (sym p)

pub numbers_none : (limit : ℕ) (done word : List ℕ) (words pieces : List (List ℕ)) → pieces ≡ word ∷ words → None ≡ number_of limit word → None ≡ option_map (λ ms. done ++ ms) (numbers_of limit pieces)
numbers_none limit done word words pieces p e =
    ap (λ o. option_map (λ ms. done ++ ms) (before o (numbers_of limit words))) e ∙ ap (λ ps. option_map (λ ms. done ++ ms) (numbers_of limit ps)) (sym p)

pub numbers_end : (limit : ℕ) (done : List ℕ) (pieces : List (List ℕ)) → pieces ≡ [] → Some done ≡ option_map (λ ms. done ++ ms) (numbers_of limit pieces)
numbers_end limit done pieces p = ap Some (sym (append-nil done)) ∙ ap (λ ps. option_map (λ ms. done ++ ms) (numbers_of limit ps)) (sym p)
