use Rattle.std.proofs.Common.{length, ap, arith}
use Rattle.std.proofs.lemmas.List.{take_all}
use Rattle.std.specs.List.{flat_map}
use Rattle.report.specs.Texts.{field_text}
use Rattle.report.proofs.Joining.{length_joined_more}
use Rattle.report.proofs.Sizes.{length_fields}
use Rattle.report.proofs.lines.fields_size.Goals as goal

pub loop-field-preserved : goal.loop-field-preserved
loop-field-preserved c =
    let fields = c.args.fields.now in
    let more = length_joined_more field_text fields c.loop-field.field-index 0 c.loop-field-test.true in
    (omega (arith, more, c.digits.ensures, c.loop-field.invariant), omega (arith, c.digits.ensures, c.loop-field.invariant))

pub returns : goal.returns
returns c =
    let fields = c.args.fields.now in
    let all = take_all c.loop-field.field-index fields c.loop-field-test.false in
    record {
      size = omega (arith, c.loop-field.invariant, ap (λ fs. length (flat_map field_text fs)) all, length_fields fields);
      few = omega (arith, c.loop-field.invariant);
    }
