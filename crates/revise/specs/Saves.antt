-- The file that the program saves.
use Rattle.std.specs.Prelude.{ℕ, List, Some, None, Option}
use Rattle.book.specs.Answers.{leaves}
use Rattle.book.specs.Files.{file_of, save_says}
use Rattle.book.specs.Rules.{Production}

-- how long the program's buffer is: a hundred rules of 8 bytes, and 2 bytes that close the file
abbrev pub most_bytes : ℕ
most_bytes = 802

-- the file of a book with these rules, if the buffer holds it
abbrev pub saved_file : List Production → Option (List ℕ)
saved_file rules = leaves (save_says rules most_bytes) (λ _. Some (file_of rules)) None
