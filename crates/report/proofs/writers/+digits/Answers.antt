use Rattle.std.proofs.Common.{sym, arith}
use Rattle.std.proofs.lemmas.Fmt.{length-decimal-le}
use Rattle.report.proofs.Decimals.{length_digit, length_step}
use Rattle.report.proofs.writers.+digits.Goals as goal

pub returns-then-n-lt10 : goal.returns-then-n-lt10
returns-then-n-lt10 t c = (sym (length_digit c.args.n c.if-n-lt10.true), omega arith)

pub returns-else-n-lt10 : goal.returns-else-n-lt10
returns-else-n-lt10 t c =
    let n = c.args.n in
    let step = length_step n c.if-n-lt10.false (omega arith) in
    let most = length-decimal-le 20 n (omega arith) (omega arith) (omega arith) in
    (omega (arith, step, c.digits.ensures), omega (arith, step, most, c.digits.ensures))
