use Rattle.std.proofs.Common.{◌≡◌, ◌+◌, ◌*◌, ◌≤◌, length, take}
use Rattle.std.specs.List.{flat_map}
use Rattle.report.specs.Buffers.{step_room}
use Rattle.report.specs.Texts.{line_of}
use Rattle.report.proofs.steps.has_room.Given as goal

abbrev pub invariant-loop-step : goal.invariant-loop-step
invariant-loop-step l = (length (flat_map line_of (take l.step-index l.steps)) + l.left ≡ l.room) × (l.room ≤ l.left + step_room * l.step-index)
