use Rattle.std.proofs.Common.{◌≤◌, length, arith, rules}
use Rattle.report.specs.Texts.{line_text}
use Rattle.report.proofs.Sizes.{length_line}
use Rattle.report.proofs.Reporting.{reports_short, reports_all}
use Rattle.report.proofs.lines.report_line.Goals as goal

pub returns-then-out-word : goal.returns-then-out-word
returns-then-out-word c =
    let word = c.args.word.now in
    let fields = c.args.fields.now in
    let size = length_line word fields in
    reports_short (line_text word fields) c.args.out.now _ (omega (arith, size, c.if-out-word.true, c.fields_size.ensures.size))
    (λ h. omega (arith, c.requires, c.if-out-word.true, c.fields_size.ensures.few))

pub put_line-requires : goal.put_line-requires
put_line-requires c =
    let start = c.new-writer.ensures.start in
    rw c.new-writer.ensures.buffer (omega (arith, length_line c.args.word.now c.args.fields.now, c.if-out-word.false, c.fields_size.ensures.size, start))

pub returns : goal.returns
returns c =
    let word = c.args.word.now in
    let fields = c.args.fields.now in
    let fits : length (line_text word fields) ≤ length c.args.out.now =
    omega (arith, length_line word fields, c.if-out-word.false, c.fields_size.ensures.size) in
    reports_all (line_text word fields) _ _ _ _ _ _ fits c.new-writer.ensures.start c.new-writer.ensures.buffer c.put_line.ensures (search rules) c.len.ensures
