-- What the program prints, from the bytes of its two files.
use Rattle.std.specs.Prelude.{ℕ, List, [], Some, None, codes, Option}
use Rattle.book.specs.Answers.{Answer, granted, refused, Refusal}
use Rattle.book.specs.Files.{load_says}
use Rattle.source.specs.Streams.{skipping}
use Rattle.source.specs.Tapes.{tape_says}
use Rattle.grammar.specs.Build.{build_says}
use Rattle.grammar.specs.Lookahead.{lslr}
use Rattle.reading.specs.Reading.{ReadAnswer, read_says}
use Rattle.reading.specs.Tables.{next_in, action_in}
use Rattle.report.specs.Buffers.{read_room}
use Rattle.report.specs.Texts.{refused_text, tape_text, answer_text}

-- how many places the list has
abbrev pub most_places : ℕ
most_places = 4000

-- the word of the tape that is passed over
abbrev pub skipped : ℕ
skipped = 40

-- a refused call is told, and ends the run; a granted one goes on
abbrev pub after : {A : Type 0} → Answer A → (Refusal → List ℕ) → (A → List ℕ) → List ℕ
after (refused n) tells goes_on = tells n
after (granted x) tells goes_on = goes_on x

-- what is told of a read; a read always answers, so that there is always a text
abbrev pub told_of : Option ReadAnswer → List ℕ
told_of (Some a) = answer_text a
told_of None = []

-- the book is loaded and built by LSLR, and the words of the tape but the skipped ones are read
abbrev pub translation : List ℕ → List ℕ → List ℕ
translation book tape =
    after (load_says book) (refused_text (codes "load")) (λ rules.
    after (build_says lslr rules) (refused_text (codes "build")) (λ rows.
    after (tape_says tape) tape_text (λ s.
    told_of (read_says rules 0 (next_in rows) (action_in rows) most_places (skipping skipped s)))))

-- a buffer of so many bytes is enough for every text
abbrev pub most_text : ℕ
most_text = read_room most_places
