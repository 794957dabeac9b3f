use Rattle.std.proofs.Common.{refl}
use Rattle.grammar.proofs.laws.cases_hold.Goals as goal

pub returns : goal.returns
returns c = refl
