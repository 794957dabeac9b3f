-- What the first byte of a record tells.
use Rattle.std.specs.Prelude.{◌≡◌, ℕ, ◌≤◌, Ok, Err, Result, ◌≢◌, false}
use Rattle.book.specs.Files.{closing_kind}
use Rattle.book.specs.Symbols.{longest_right, within}
use Rattle.book.specs.declared.files.Kind.{Kind}
use Rattle.book.specs.declared.files.Kind.TheVariants.{Rule, Closing}
use Rattle.book.specs.declared.files.UnknownKind.{UnknownKind}

-- the kind of a byte, which for a rule is how many symbols stand on its right; or no kind has that byte
abbrev pub Decodes : ℕ → Result Kind UnknownKind → Type 0
Decodes byte (Ok Closing) = byte ≡ closing_kind
Decodes byte (Ok (Rule n)) = (byte ≡ n) × (1 ≤ n) × (n ≤ longest_right)
Decodes byte (Err e) = (byte ≢ closing_kind) × (within 1 longest_right byte ≡ false)
