-- What the bytes of a tape mean.
use Rattle.std.specs.Prelude.{ℕ, ◌+◌, cond, List, [], ◌∷◌, length, ◌==◌, nat_lt}
use Rattle.book.specs.Answers.{Answer, granted, no, refuse_if}
use Rattle.book.specs.Symbols.{is_terminal}
use Rattle.source.specs.Streams.{Stream, clean, fault, ends, before}
use Rattle.source.specs.Texts.{most_bytes}

-- the kinds of a tape's records: a word, with its code as body, and the end
abbrev pub word_kind : ℕ
word_kind = 8

abbrev pub end_kind : ℕ
end_kind = 9

-- a record at a position that is no word
abbrev pub other_kind : ℕ → ℕ → Stream
other_kind p kind = cond (kind == end_kind) (ends (clean p)) (ends (fault 2 p))

-- the records from a position on
abbrev pub tape_from : ℕ → List ℕ → Stream
tape_from p [] = ends (fault 4 p)
tape_from p (kind ∷ []) = cond (kind == word_kind) (ends (fault 4 p)) (other_kind p kind)
tape_from p (kind ∷ x ∷ bytes) =
    cond (kind == word_kind)
    (cond (is_terminal x) (before (record { symbol = x; position = p }) (tape_from (p + 2) bytes)) (ends (fault 3 p)))
    (other_kind p kind)

abbrev pub tape_says : List ℕ → Answer Stream
tape_says bytes = refuse_if (nat_lt most_bytes (length bytes)) (no 22 []) (granted (tape_from 0 bytes))
