use Rattle.std.proofs.Common.{◌≡◌, ◌<◌, ◌≤◌, [], map, length, get_or, sym, ap, ◌∙◌, arith, rules}
use lib.ListN.{length-map}
use Rattle.std.proofs.lemmas.List.{get_or-map}
use Rattle.tables.specs.Acts.{act_of, acts_of}
use Rattle.tables.specs.Looked.{act_in}
use Rattle.tables.proofs.Looking.{look_on, look_past}
use Rattle.tables.proofs.building.Tables.action.Goals as goal

pub returns-in_err-get : goal.returns-in_err-get
returns-in_err-get c =
    let rows = c.rows.result.now in
    let past : length rows ≤ c.args.state = search (rules, c.in_err-get.ensures.lookup) in
    ap act_of c.from_residual.ensures
    ∙ look_past (map acts_of rows) c.args.state c.args.symbol (omega (arith, length-map rows acts_of, past))
    ∙ ap (λ t. act_in t c.args.state c.args.symbol) c.rows.ensures.value

pub returns : goal.returns
returns c =
    let rows = c.rows.result.now in
    let row = c.in_ok-get.field-0.now in
    let found = c.in_ok-get.ensures.lookup in
    let inside : c.args.state < length rows = search (rules, found) in
    let at : row ≡ get_or rows c.args.state row = found.1 in
    let place : get_or (map acts_of rows) c.args.state [] ≡ acts_of row = get_or-map acts_of rows c.args.state row [] inside ∙ ap acts_of (sym at) in
    c.at.ensures.value
    ∙ look_on (map acts_of rows) c.args.state c.args.symbol (acts_of row) place (λ h. sym c.at.ensures.value ∙ ap act_of (c.at.ensures.past h))
    ∙ ap (λ t. act_in t c.args.state c.args.symbol) c.rows.ensures.value
