use Rattle.std.proofs.Common.{take}
use Rattle.std.specs.List.{flat_map}
use Rattle.report.specs.Texts.{line_of}
use Rattle.report.specs.Writers.{Writes}
use Rattle.report.proofs.steps.put_steps.Given as goal

abbrev pub invariant-loop-step : goal.invariant-loop-step
invariant-loop-step l = Writes (flat_map line_of (take l.step-index l.steps)) l.initial.writer l.writer
