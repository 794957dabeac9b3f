use Rattle.std.proofs.Common.{[], ◌∷◌, ap, arith}
use Rattle.std.proofs.lemmas.List.{take_all}
use Rattle.std.specs.List.{flat_map}
use Rattle.report.specs.Texts.{field_text, fields_text}
use Rattle.report.proofs.Joining.{room_for, writes_more}
use Rattle.report.proofs.Putting.{writes_same, writes_then}
use Rattle.report.proofs.Sizes.{length_fields}
use Rattle.report.proofs.lines.put_fields.Goals as goal

pub put_field-requires : goal.put_field-requires
put_field-requires c =
    let fields = c.args.fields.now in
    room_for field_text fields c.loop-field.field-index 0 (fields_text fields) _ _ c.loop-field-test.true c.requires (omega (arith, length_fields fields)) c.loop-field.invariant

pub loop-field-preserved : goal.loop-field-preserved
loop-field-preserved c =
    writes_more field_text c.args.fields.now c.loop-field.field-index 0 _ _ _ c.loop-field-test.true c.loop-field.invariant c.put_field.ensures

pub put_byte-requires : goal.put_byte-requires
put_byte-requires c =
    let fields = c.args.fields.now in
    let all = take_all c.loop-field.field-index fields c.loop-field-test.false in
    let w = writes_same _ _ _ _ (ap (flat_map field_text) all) c.loop-field.invariant in
    omega (arith, length_fields fields, w.puts.next, w.size, c.requires)

pub returns : goal.returns
returns c =
    let fields = c.args.fields.now in
    let all = take_all c.loop-field.field-index fields c.loop-field-test.false in
    writes_then (flat_map field_text fields) (10 ∷ []) _ _ _ (writes_same _ _ _ _ (ap (flat_map field_text) all) c.loop-field.invariant) c.put_byte.ensures
