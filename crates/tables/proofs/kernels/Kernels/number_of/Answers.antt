use Rattle.std.proofs.Common.{◌≡◌, length, take, unwrap_or, sym, ap, ◌∙◌, rules}
use Rattle.std.proofs.lemmas.Iterator.{YieldsList-from_slice}
use Rattle.std.proofs.lemmas.Iterator.Search.{position_from_yields_List}
use Rattle.grammar.specs.States.{same_items}
use Rattle.tables.specs.declared.moving.ItemSet.{ItemSet}
use Rattle.tables.proofs.Same.{number_is}
use Rattle.tables.proofs.kernels.Kernels.number_of.Goals as goal

pub returns-clause-value : goal.returns-clause-value
returns-clause-value c =
    let ks = c.args.self.now in
    let f = c.args.fresh.now in
    let all = take ks.count ks.sets in
    let long : length all ≡ ks.count = search rules in
    c.unwrap_or.ensures ∙ ap (unwrap_or c.position.result) (sym long)
    ∙ number_is (length f) f all c.position.result
    (position_from_yields_List (λ (s : ItemSet). same_items (take (length f) s.rows) f) _ _ c.position.result c.position.ensures.ran
    (YieldsList-from_slice all (c.iter.ensures.rest ∙ c.found.ensures)) (λ x b q k. (search rules, search rules)))
