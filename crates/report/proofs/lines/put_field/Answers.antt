use Rattle.std.proofs.Common.{[], ◌∷◌, decimal}
use Rattle.report.proofs.Putting.{writes_then}
use Rattle.report.proofs.lines.put_field.Goals as goal

pub returns : goal.returns
returns c = writes_then (32 ∷ []) (decimal c.args.field) _ _ _ c.put_byte.ensures c.put_number.ensures
