use Rattle.std.proofs.Common.{length, arith}
use Rattle.card.specs.Cards.{model_of}
use Rattle.translate.proofs.Telling.{read_told, reports_as}
use Rattle.translate.proofs.translations.read_into.Goals as goal

pub returns : goal.returns
returns g c =
    let told =
    read_told (model_of c.args.card.now) (length c.args.list.now) (g.S.Source.means c.args.source.now)
    c.read-outcome.result c.read-outcome.new.list c.read-outcome.ensures.answer
    (omega (arith, c.read-outcome.ensures.within, c.read-outcome.auto.list)) in
    reports_as _ _ _ _ _ _ _ told (omega arith) c.report_read.ensures
