-- What the relation sets of the code stand for, beside the rules that they belong to.
use Rattle.std.specs.Prelude.{◌≡◌, List, length}
use Rattle.book.specs.Held.{productions_of}
use Rattle.book.specs.Rules.{Production}
use Rattle.grammar.specs.Numbered.{numbered}
use Rattle.grammar.specs.Relations.{Relations}
use Rattle.grammar.specs.Sets.{symbol_count}
use Rattle.grammar.specs.declared.relations.RelationSets.{RelationSets}
use Rattle.grammar.specs.declared.relations.RelatedRules.{RelatedRules}

abbrev pub related_by : RelationSets → List Production → Relations
related_by t rules = record { lines = numbered rules; lefts = t.lefts; leftmosts = t.leftmosts; followers = t.followers }

-- rules and the sets beside them, as one
abbrev pub related_in : RelatedRules → Relations
related_in r = related_by r.sets.now (productions_of r.rules.now)

-- each table has a set for each symbol
pub record HasAllSets (t : RelationSets) : Type 0 where
  pub lefts : length t.lefts ≡ symbol_count
  pub leftmosts : length t.leftmosts ≡ symbol_count
  pub followers : length t.followers ≡ symbol_count
