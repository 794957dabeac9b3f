use Rattle.std.proofs.Common.{codes, arith}
use Rattle.book.specs.Files.{load_says}
use Rattle.card.specs.Cards.{model_of}
use Rattle.card.specs.Models.{unbuilt}
use Rattle.report.specs.Texts.{refused_text}
use Rattle.translate.specs.Tellings.{told_build}
use Rattle.translate.proofs.Telling.{goes, reports_as}
use Rattle.translate.proofs.translations.translate.Goals as goal

pub returns-in-Ok : goal.returns-in-Ok
returns-in-Ok c =
    let told =
    goes (load_says c.args.book.now) (refused_text (codes "load")) unbuilt (λ m. told_build m.held_rules c.args.tape.now) (model_of c.new-card.result)
    (model_of c.load.new.self) c.in-Ok.ensures.answer c.in-Ok.ensures.model in
    reports_as _ _ _ _ _ _ _ told (omega arith) c.build_and_read.ensures
