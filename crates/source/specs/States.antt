-- What a tape means, by its state.
use Rattle.std.specs.Prelude.{ℕ, List, drop}
use Rattle.source.specs.declared.tapes.State.{State}
use Rattle.source.specs.declared.tapes.State.TheVariants.{Open, Ended, Faulted}
use Rattle.source.specs.Streams.{Stream, clean, fault, ends}
use Rattle.source.specs.Faults.{fault_number}
use Rattle.source.specs.Tapes.{tape_from}

-- an open tape has its records from its place on; an ended or faulted one stands at what ended it
abbrev pub tape_means : State → List ℕ → ℕ → Stream
tape_means Open bytes p = tape_from p (drop p bytes)
tape_means Ended bytes p = ends (clean p)
tape_means (Faulted f) bytes p = ends (fault (fault_number f) p)
