use Rattle.std.proofs.Common.{◌≡◌, map, length, take, ap, arith, rules}
use Rattle.std.proofs.lemmas.List.{take_more_set}
use Rattle.tables.specs.declared.moving.ItemSet.{ItemSet}
use Rattle.tables.proofs.kernels.Kernels.start.Goals as goal

pub returns : goal.returns
returns c n =
    let ks = c.args.self.now in
    let wide : length ks.sets ≡ 200 = search rules in
    ap (map (λ (s : ItemSet). take n s.rows)) (take_more_set ks.sets 0 c.args.first.now (omega (arith, wide)))
