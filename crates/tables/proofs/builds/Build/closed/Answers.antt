use Rattle.std.proofs.Common.{◌≡◌, ◌+◌, length, ◌∙◌, rules}
use Rattle.std.proofs.lemmas.List.{take_at}
use Rattle.tables.proofs.builds.Build.closed.Goals as goal

pub returns : goal.returns
returns g c =
    let n = length c.args.self.now.related.now.rules.now + 1 in
    let l : length c.close.new.items ≡ n = search rules in
    take_at c.close.new.items _ n l ∙ c.close.ensures
