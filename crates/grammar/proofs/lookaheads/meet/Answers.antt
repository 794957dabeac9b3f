use Rattle.std.proofs.Common.{Bool, ◌&&◌, ◌∙◌, rules}
use Rattle.std.proofs.lemmas.Iterator.{YieldsList-from_slice, YieldsList-from_zip}
use Rattle.std.proofs.lemmas.Iterator.Search.{any_from_yields_List}
use borrow.Author.Tests.{tests}
use Rattle.grammar.proofs.Overlapping.{any_meets}
use Rattle.grammar.proofs.lookaheads.meet.Goals as goal

pub returns : goal.returns
returns c =
    any_from_yields_List (λ (p : Bool × Bool). p.0 && p.1) c.any.new.self _ c.any.result c.any.ensures.ran
    (YieldsList-from_zip (YieldsList-from_slice c.args.one.now (search rules)) (YieldsList-from_slice c.args.other.now (search rules))) (λ x b q k. search (rules, tests))
    ∙ any_meets c.args.one.now c.args.other.now c.told-one c.told-other
