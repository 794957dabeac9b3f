-- What a text means: each byte is looked up in a letter table.
use Rattle.std.specs.Prelude.{ℕ, ◌+◌, cond, not, List, [], ◌∷◌, length, ◌==◌, nat_lt, slice_index}
use Rattle.book.specs.Answers.{Answer, granted, no, refuse_if}
use Rattle.book.specs.Symbols.{is_terminal}
use Rattle.source.specs.Streams.{Stream, clean, fault, ends, before}

-- how many bytes a text or a tape has at the most
abbrev pub most_bytes : ℕ
most_bytes = 60000

-- the bytes from a position on: an entry that is no terminal is fault 1, the end is clean
abbrev pub text_from : List ℕ → ℕ → List ℕ → Stream
text_from letters p [] = ends (clean p)
text_from letters p (b ∷ bytes) =
    cond (is_terminal (slice_index letters b))
    (before (record { symbol = slice_index letters b; position = p }) (text_from letters (p + 1) bytes))
    (ends (fault 1 p))

abbrev pub table_size : ℕ
table_size = 256

abbrev pub text_says : List ℕ → List ℕ → Answer Stream
text_says bytes letters =
    refuse_if (nat_lt most_bytes (length bytes)) (no 22 [])
    (refuse_if (not (length letters == table_size)) (no 23 [])
    (granted (text_from letters 0 bytes)))
