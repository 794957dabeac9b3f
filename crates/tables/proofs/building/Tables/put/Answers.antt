use Rattle.std.proofs.Common.{◌<◌, map, length, take, ap, ◌∙◌, rules}
use Rattle.std.proofs.lemmas.List.{take_more_set, map_push}
use Rattle.tables.specs.Acts.{acts_of}
use Rattle.tables.proofs.building.Tables.put.Goals as goal

pub returns : goal.returns
returns c =
    let rows = c.args.self.now.rows in
    let s = c.args.state in
    let room : s < length rows = search rules in
    ap (map acts_of) (take_more_set rows s c.args.row room) ∙ map_push acts_of (take s rows) c.args.row
