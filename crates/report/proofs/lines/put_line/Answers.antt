use Rattle.std.proofs.Common.{arith}
use Rattle.report.specs.Texts.{fields_text}
use Rattle.report.proofs.Sizes.{length_line}
use Rattle.report.proofs.Putting.{writes_then}
use Rattle.report.proofs.lines.put_line.Goals as goal

pub put-requires : goal.put-requires
put-requires c = omega (arith, c.requires, length_line c.args.word.now c.args.fields.now)

pub put_fields-requires : goal.put_fields-requires
put_fields-requires c =
    omega (arith, c.requires, length_line c.args.word.now c.args.fields.now, c.put.ensures.puts.next, c.put.ensures.size)

pub returns : goal.returns
returns c = writes_then c.args.word.now (fields_text c.args.fields.now) _ _ _ c.put.ensures c.put_fields.ensures
