use Rattle.std.proofs.Common.{◌+◌, ◌/◌, ◌%◌, [], ◌∷◌, decimal, sym, arith, rules}
use Rattle.std.proofs.lemmas.Fmt.{decimal_step}
use Rattle.report.proofs.Decimals.{length_digit, length_step, one_digit}
use Rattle.report.proofs.Putting.{puts_same, puts_then}
use Rattle.report.proofs.writers.+put_number.Goals as goal

pub put_digit-requires : goal.put_digit-requires
put_digit-requires t c = omega (arith, length_digit c.args.n c.if-n-lt10.true)

pub returns-then-n-lt10 : goal.returns-then-n-lt10
returns-then-n-lt10 t c = puts_same _ _ _ _ _ _ (one_digit c.args.n c.if-n-lt10.true) c.put_digit.ensures

pub put_number-next-requires : goal.put_number-next-requires
put_number-next-requires t c =
    let step = length_step c.args.n c.if-n-lt10.false (omega arith) in
    (search rules, omega (arith, step))

pub put_digit-requires-2 : goal.put_digit-requires-2
put_digit-requires-2 t c =
    let step = length_step c.args.n c.if-n-lt10.false (omega arith) in
    omega (arith, step, c.put_number-next.ensures.next, c.put_number-next.auto.out)

pub returns : goal.returns
returns t c =
    let n = c.args.n in
    puts_same _ _ _ _ _ _ (sym (decimal_step n c.if-n-lt10.false (omega arith)))
    (puts_then (decimal (n / 10)) ((48 + n % 10) ∷ []) _ _ _ _ _ _ c.put_number-next.ensures c.put_digit-2.ensures)
