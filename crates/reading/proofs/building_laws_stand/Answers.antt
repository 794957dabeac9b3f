use Rattle.reading.proofs.building_laws_stand.Goals as goal
use Rattle.reading.proofs.Granted.{rows_faithful}
use Rattle.reading.proofs.Built.{granted_useful, rows_read_well, rows_answer, build_and_read}

-- src/lib.rt:27:1
pub returns : goal.returns
returns c = (record { rows_faithful = rows_faithful; granted_useful = granted_useful; rows_read_well = rows_read_well; rows_answer = rows_answer; build_and_read = build_and_read })
