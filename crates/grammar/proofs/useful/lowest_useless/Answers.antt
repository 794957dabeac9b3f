use Rattle.std.proofs.Common.{refl, rules}
use Rattle.std.proofs.lemmas.Iterator.{YieldsList-from_range}
use Rattle.std.proofs.lemmas.Iterator.Search.{find_from_yields_List}
use borrow.Author.Tests.{tests}
use Rattle.grammar.specs.Sets.{codes}
use Rattle.grammar.specs.Useful.{is_useless}
use Rattle.grammar.proofs.Turns.{find_lowest}
use Rattle.grammar.proofs.useful.lowest_useless.Goals as goal

pub returns : goal.returns
returns c =
    let p = is_useless c.args.occurring.now c.args.reached.now c.args.yielding.now in
    find_lowest p c.find.result codes (find_from_yields_List p _ _ c.find.result c.find.ensures.ran (YieldsList-from_range 0 81 81 refl refl) (λ x b q k. search (rules, tests)))
