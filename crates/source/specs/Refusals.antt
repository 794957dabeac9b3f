-- Each refusal of making a source: its number.
use Rattle.std.specs.Prelude.{[]}
use Rattle.book.specs.Answers.{Refusal, no}
use Rattle.source.specs.declared.texts.TextError.{TextError}
use Rattle.source.specs.declared.texts.TextError.TheVariants as text
use Rattle.source.specs.declared.tapes.TapeError.{TapeError}
use Rattle.source.specs.declared.tapes.TapeError.TheVariants as tape
use Rattle.source.specs.declared.skips.SkipError.{SkipError}

abbrev pub text_refusal : TextError → Refusal
text_refusal text.Long = no 22 []
text_refusal text.Table = no 23 []

abbrev pub tape_refusal : TapeError → Refusal
tape_refusal tape.Long = no 22 []

abbrev pub skip_refusal : {S : Type 0} → SkipError S → Refusal
skip_refusal e = no 24 []
