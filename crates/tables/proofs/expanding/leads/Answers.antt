use Rattle.std.proofs.Common.{refl, ◌∙◌, rules}
use Rattle.std.proofs.lemmas.Iterator.{YieldsList-from_range}
use Rattle.std.proofs.lemmas.Iterator.Search.{any_from_yields_List}
use Rattle.tables.specs.Kept.{leads_by}
use Rattle.tables.proofs.Calls.{any_listed}
use Rattle.tables.proofs.expanding.leads.Goals as goal

pub returns : goal.returns
returns c =
    let p = leads_by c.args.sets.now c.args.a c.args.b in
    any_from_yields_List p _ _ _ c.any.ensures.ran (YieldsList-from_range 41 81 40 refl refl) (λ x r q k. (search rules, search rules)) ∙ any_listed p 41 40
