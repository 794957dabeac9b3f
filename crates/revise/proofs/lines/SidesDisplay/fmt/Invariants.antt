use Rattle.std.proofs.Common.{◌∷◌, take, decimal}
use Rattle.std.specs.Fmt.{HasWritten, IsPlainFormatter}
use Rattle.std.specs.List.{flat_map}
use Rattle.revise.proofs.lines.SidesDisplay.fmt.Given as goal

abbrev pub invariant-loop-code : goal.invariant-loop-code
invariant-loop-code g l =
    IsPlainFormatter l.initial.f → HasWritten g.W.Write.write_str_gives l.initial.f (flat_map (λ w. 32 ∷ decimal w) (take l.code-index l.code-items)) l.f
