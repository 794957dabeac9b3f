-- The number of each fault of a text or a tape.
use Rattle.std.specs.Prelude.{ℕ}
use Rattle.source.specs.declared.faults.Fault.{Fault}
use Rattle.source.specs.declared.faults.Fault.TheVariants as made

abbrev pub fault_number : Fault → ℕ
fault_number made.Letter = 1
fault_number made.Kind = 2
fault_number made.Code = 3
fault_number made.Short = 4
