-- One take of a tape.
use Rattle.std.proofs.Common.{◌≡◌, ℕ, ◌+◌, ◌<◌, true, List, ◌∷◌, length, get_or, arith}
use Rattle.std.proofs.lemmas.List.{at_drop_more}
use Rattle.std.proofs.lemmas.Grind.{common_steps}
use Rattle.book.specs.Symbols.{is_terminal}
use Rattle.source.specs.Streams.{remaining}
use Rattle.source.specs.States.{tape_means}
use Rattle.source.specs.Tapes.{tape_from, word_kind}
use Rattle.source.specs.declared.tapes.State.{State}
use Rattle.source.specs.declared.tapes.State.TheVariants.{Open}

-- what is left of an open tape whose first record is a word
pub tape_rest : (s : State) (bytes : List ℕ) (p : ℕ) → s ≡ Open → p + 1 < length bytes → get_or bytes p 0 ≡ word_kind
    → is_terminal (get_or bytes (p + 1) 0) ≡ true → tape_means s bytes (p + 2) ≡ remaining (tape_means s bytes p)
tape_rest s bytes p open_is within kind body =
    let first = at_drop_more (λ (xs : List ℕ). remaining (tape_from p xs)) bytes p 0 (omega arith) in
    let second = at_drop_more (λ (xs : List ℕ). remaining (tape_from p (get_or bytes p 0 ∷ xs))) bytes (p + 1) 0 (omega arith) in
    grind (arith, common_steps, first, second)
