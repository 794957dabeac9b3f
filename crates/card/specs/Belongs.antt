-- What makes tables those of a book.
use Rattle.std.specs.Prelude.{◌≡◌, Some, Option}
use Rattle.book.specs.declared.books.Book.{Book}
use Rattle.book.specs.Held.{rules_of}
use Rattle.tables.specs.declared.building.Tables.{Tables}
use Rattle.tables.specs.Built.{table_of}
use Rattle.reading.specs.Building.{Belonging}

-- the tables, if there are any, are those that some build granted for the rules
abbrev pub Belongs : Book → Option Tables → Type 0
Belongs b o = (t : Tables) → o ≡ Some t → Belonging (rules_of b) (table_of t)
