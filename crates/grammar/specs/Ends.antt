-- The two ends of a right side.
use Rattle.std.specs.Prelude.{ℕ}
use Rattle.book.specs.Rules.{Production}
use Rattle.grammar.specs.Numbered.{first, final}
use Rattle.grammar.specs.declared.relations.End.{End}
use Rattle.grammar.specs.declared.relations.End.TheVariants.{First, Last}

abbrev pub end_of : End → Production → ℕ
end_of First = first
end_of Last = final
