use Rattle.std.proofs.Common.{◌≡◌, suc, ◌+◌, ◌∷◌, length, take, set, replicate, sym, ap, ◌∙◌, arith}
use lib.ListN.{length-map}
use Rattle.std.proofs.lemmas.List.{take-replicate}
use Rattle.book.specs.Held.{production_of}
use Rattle.grammar.specs.Items.{Items, no_dots}
use Rattle.grammar.specs.Sets.{insert}
use Rattle.tables.proofs.builds.Build.start_kernel.Goals as goal

pub returns : goal.returns
returns g c =
    let rs = c.args.self.now.related.now.rules.now in
    let all : Items = set (replicate 101 no_dots) 0 (insert no_dots 0) in
    let e : length rs + 1 ≡ suc (length rs) = omega arith in
    ap (λ n. take n all) e ∙ ap (λ q. insert no_dots 0 ∷ q) (take-replicate (length rs) 100 no_dots c.args.self.now.few ∙ ap (λ n. replicate n no_dots) (sym (length-map rs production_of)))
