-- Symbols unstacked one by one.
use Rattle.std.proofs.Common.{◌≡◌, ℕ, zero, suc, List, [], ◌∷◌, sym, refl, ap, ◌∙◌}
use Rattle.reading.specs.Reading.{StackedSymbol, covered}

-- with one symbol unstacked, one less is to be
pub covered_more : (n k : ℕ) (ps rest : List StackedSymbol) (f w g v : ℕ) (c : List StackedSymbol × ℕ × ℕ) → n ≡ suc k → covered 1 ps f w ≡ (rest, g, v) → covered n ps f w ≡ c → covered k rest g v ≡ c
covered_more n k ps rest f w g v c on e h = sym (one ps e) ∙ ap (λ m. covered m ps f w) (sym on) ∙ h
  where
    none : (k : ℕ) → covered (suc k) [] f w ≡ covered k [] f w
    none zero = refl
    none (suc k) = refl

    one : (ps : List StackedSymbol) → covered 1 ps f w ≡ (rest, g, v) → covered (suc k) ps f w ≡ covered k rest g v
    one [] e = none k ∙ ap (λ (t : List StackedSymbol × ℕ × ℕ). covered k t.0 t.1 t.2) e
    one (p ∷ ps) e = ap (λ (t : List StackedSymbol × ℕ × ℕ). covered k t.0 t.1 t.2) e
