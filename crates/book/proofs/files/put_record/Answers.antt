use Rattle.std.proofs.Common.{◌≤◌, ◌∙◌, arith}
use Rattle.book.proofs.Records.{back_on}
use Rattle.book.proofs.files.put_record.Goals as goal

pub returns-clause-back : goal.returns-clause-back
returns-clause-back c =
    let further : c.put-body.result ≤ c.put.result = omega (arith, c.put.ensures.next) in
    c.put.ensures.back ∙ back_on _ _ c.put-body.result c.put.result further c.put-body.ensures.back
