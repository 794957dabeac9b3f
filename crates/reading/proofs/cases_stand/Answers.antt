use Rattle.std.proofs.Common.{refl}
use Rattle.reading.proofs.cases_stand.Goals as goal

pub returns : goal.returns
returns c = refl
