-- The byte of each kind of record.
use Rattle.std.specs.Prelude.{◌≡◌, ◌≢◌, ℕ, Result, MatchResult}
use Rattle.source.specs.Tapes.{word_kind, end_kind}
use Rattle.source.specs.declared.faults.Fault.{Fault}
use Rattle.source.specs.declared.faults.Fault.TheVariants as made
use Rattle.source.specs.declared.tapes.Kind.{Kind}
use Rattle.source.specs.declared.tapes.Kind.TheVariants.{Word, End}

abbrev pub kind_byte : Kind → ℕ
kind_byte Word = word_kind
kind_byte End = end_kind

-- a kind with this byte, or the fault of a byte that no kind has
abbrev pub Decodes : ℕ → Result Kind Fault → Type 0
Decodes byte r = MatchResult r (λ kind. kind_byte kind ≡ byte) (λ f. (f ≡ made.Kind) × (byte ≢ word_kind) × (byte ≢ end_kind))
