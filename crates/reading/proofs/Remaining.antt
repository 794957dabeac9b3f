-- The words that are left of a source.
use Rattle.std.proofs.Common.{◌≡◌, ℕ, zero, suc, ◌+◌, List, [], ◌∷◌, drop, refl, ap, ◌∙◌, arith}
use Rattle.source.specs.Streams.{Token, Stream, tail_of, remaining}
use Rattle.reading.specs.Told.{after_words}

tail_drop : (n : ℕ) (ws : List Token) → tail_of (drop n ws) ≡ drop (suc n) ws
tail_drop zero [] = refl
tail_drop zero (w ∷ ws) = refl
tail_drop (suc n) [] = refl
tail_drop (suc n) (w ∷ ws) = tail_drop n ws

-- one more word is taken
pub one_less : (s rest all : Stream) (n : ℕ) → rest ≡ remaining s → s ≡ after_words n all → rest ≡ after_words (n + 1) all
one_less s rest all n e h =
    let on : suc n ≡ n + 1 = omega arith in
    e ∙ ap remaining h ∙ ap (λ ws. record { tokens = ws; ending = all.ending }) (tail_drop n all.tokens ∙ ap (λ k. drop k all.tokens) on)
