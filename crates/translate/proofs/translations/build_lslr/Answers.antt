use Rattle.translate.proofs.translations.build_lslr.Goals as goal

pub returns-clause-model : goal.returns-clause-model
returns-clause-model c = c.build.ensures.model c.build.ensures.lawful
