use Rattle.std.proofs.Common.{◌∙◌, rules}
use Rattle.std.proofs.lemmas.Iterator.{YieldsList-from_slice}
use Rattle.std.proofs.lemmas.Iterator.Search.{all_from_yields_List}
use borrow.Author.Tests.{tests}
use Rattle.grammar.specs.Sets.{has}
use Rattle.grammar.proofs.Turns.{all_every}
use Rattle.grammar.proofs.useful.contains_all.Goals as goal

pub returns : goal.returns
returns c =
    all_from_yields_List (has c.args.set.now) _ _ c.all.result c.all.ensures.ran (YieldsList-from_slice c.args.symbols.now cc) (λ x b q k. search (rules, tests))
    ∙ all_every (has c.args.set.now) c.args.symbols.now
