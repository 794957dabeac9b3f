use Rattle.std.proofs.Common.{◌≡◌, ◌+◌, ◌*◌, ◌≤◌, length, take}
use Rattle.std.specs.List.{flat_map}
use Rattle.report.specs.Texts.{field_text}
use Rattle.report.proofs.lines.fields_size.Given as goal

abbrev pub invariant-loop-field : goal.invariant-loop-field
invariant-loop-field l = (l.size ≡ length (flat_map field_text (take l.field-index l.fields)) + 1) × (l.size ≤ 21 * l.field-index + 1)
