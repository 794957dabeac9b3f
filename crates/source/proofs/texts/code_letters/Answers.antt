use Rattle.std.proofs.Common.{rules}
use Rattle.source.proofs.texts.code_letters.Goals as goal

pub returns : goal.returns
returns c = λ byte h.
    let made = c.from_fn.ensures.items.at byte 0 h in
    let call = made.2 in search rules
