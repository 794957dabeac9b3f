use Rattle.std.proofs.Common.{◌≡◌, ◌-◌, min, map, length, take, sym, ap, ◌∙◌, arith, rules}
use lib.ListN.{length-map}
use Rattle.book.proofs.Places.{take_min}
use Rattle.tables.specs.Acts.{acts_of}
use Rattle.tables.proofs.building.Tables.rows.Goals as goal

pub returns : goal.returns
returns c =
    let rows = c.args.self.now.rows in
    let states = c.args.self.now.size.states in
    let n = c.min-n.result - 0 in
    let array : length rows ≡ 200 = search rules in
    let least : n ≡ min states 200 = omega (arith, c.min-n.ensures) in
    let front : take n rows ≡ take states rows = ap (λ k. take k rows) least ∙ take_min rows states 200 array in
    record { value = ap (map acts_of) front; len = ap length front ∙ sym (length-map (take states rows) acts_of) }
