use Rattle.std.proofs.Common.{codes, arith}
use Rattle.grammar.specs.Build.{build_says}
use Rattle.grammar.specs.Lookahead.{lslr}
use Rattle.tables.specs.Built.{build_refusal}
use Rattle.card.specs.Cards.{model_of}
use Rattle.card.specs.Models.{unbuilt, built_with}
use Rattle.report.specs.Texts.{refused_text}
use Rattle.translate.specs.Tellings.{told_tape}
use Rattle.translate.proofs.Telling.{goes, ends, reports_as}
use Rattle.translate.proofs.translations.build_and_read.Goals as goal

pub returns-in-Ok : goal.returns-in-Ok
returns-in-Ok c =
    let rules = (model_of c.args.card.now).held_rules in
    let told =
    goes (build_says lslr rules) (refused_text (codes "build")) (built_with rules) (λ m. told_tape m c.args.tape.now) (unbuilt rules)
    (model_of c.build_lslr.new.card) c.in-Ok.ensures.answer c.in-Ok.ensures.model in
    reports_as _ _ _ _ _ _ _ told (omega arith) c.read_tape.ensures

pub returns-in-Err : goal.returns-in-Err
returns-in-Err c =
    let rules = (model_of c.args.card.now).held_rules in
    let told =
    ends (build_says lslr rules) (refused_text (codes "build")) (λ rows. told_tape (built_with rules rows) c.args.tape.now)
    (build_refusal c.in-Err.error) c.in-Err.ensures.answer in
    reports_as _ _ _ _ _ _ _ told (omega arith) c.report_error.ensures
