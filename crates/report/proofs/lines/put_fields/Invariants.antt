use Rattle.std.proofs.Common.{take}
use Rattle.std.specs.List.{flat_map}
use Rattle.report.specs.Texts.{field_text}
use Rattle.report.specs.Writers.{Writes}
use Rattle.report.proofs.lines.put_fields.Given as goal

abbrev pub invariant-loop-field : goal.invariant-loop-field
invariant-loop-field l = Writes (flat_map field_text (take l.field-index l.fields)) l.initial.writer l.writer
