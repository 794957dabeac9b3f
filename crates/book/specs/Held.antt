-- What the code's rule and book stand for.
use Rattle.std.specs.Prelude.{List, map, take}
use Rattle.book.specs.declared.rules.Rule.{Rule}
use Rattle.book.specs.declared.books.Book.{Book}
use Rattle.book.specs.Rules.{Production, ◌⟶◌}

abbrev pub production_of : Rule → Production
production_of r = r.left ⟶ take r.len r.right

abbrev pub productions_of : List Rule → List Production
productions_of rs = map production_of rs

-- the rules of a book, in order of entry
abbrev pub rules_of : Book → List Production
rules_of b = productions_of (take b.count.rules b.rules)
