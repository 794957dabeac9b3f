-- What is told from a step of the run on.
use Rattle.std.specs.Prelude.{ℕ, List, codes}
use Rattle.book.specs.Rules.{Production}
use Rattle.source.specs.Streams.{Stream, skipping}
use Rattle.source.specs.Tapes.{tape_says}
use Rattle.grammar.specs.Build.{build_says}
use Rattle.grammar.specs.Lookahead.{lslr}
use Rattle.card.specs.Models.{Model, built_with}
use Rattle.card.specs.Wanting.{read_on}
use Rattle.report.specs.Texts.{refused_text, tape_text}
use Rattle.translate.specs.Translations.{most_places, skipped, after, told_of}

-- of a read of these words
abbrev pub told_read : Model → ℕ → Stream → List ℕ
told_read m room s = told_of (read_on m room s)

-- of a read of these words but the skipped ones
abbrev pub told_source : Model → Stream → List ℕ
told_source m s = told_read m most_places (skipping skipped s)

-- of a tape
abbrev pub told_tape : Model → List ℕ → List ℕ
told_tape m tape = after (tape_says tape) tape_text (told_source m)

-- of a build, and then of a tape
abbrev pub told_build : List Production → List ℕ → List ℕ
told_build rules tape = after (build_says lslr rules) (refused_text (codes "build")) (λ rows. told_tape (built_with rules rows) tape)
