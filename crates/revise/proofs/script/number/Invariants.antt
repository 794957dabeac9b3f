use Rattle.std.proofs.Common.{◌≡◌, ◌≤◌, drop}
use Rattle.revise.specs.Scripts.{number_from}
use Rattle.revise.proofs.script.number.Given as goal

abbrev pub invariant-loop-byte : goal.invariant-loop-byte
invariant-loop-byte l = (l.value ≤ l.most) × (number_from l.most l.value (drop l.byte-index l.digits) ≡ number_from l.most 0 l.digits)
