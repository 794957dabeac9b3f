use Rattle.reading.proofs.reader_laws_stand.Goals as goal
use Rattle.reading.proofs.Sound.{sound}
use Rattle.reading.proofs.Complete.{complete, unique}

-- src/lib.rt:7:1
pub returns : goal.returns
returns c = (record { sound_reader = sound; complete_reader = complete; unambiguous = unique })
