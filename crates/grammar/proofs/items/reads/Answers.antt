use Rattle.std.proofs.Common.{sym, ◌∙◌, inr}
use Rattle.book.specs.Held.{productions_of}
use Rattle.grammar.specs.Numbered.{numbered}
use Rattle.grammar.proofs.Overlapping.{read_rows_done}
use Rattle.grammar.proofs.items.reads.Goals as goal

pub returns-after-loop-number : goal.returns-after-loop-number
returns-after-loop-number c =
    sym (read_rows_done c.loop-number.set (numbered (productions_of c.args.rules.now)) c.args.items.now c.loop-number.number (inr c.loop-number-test.false)) ∙ c.loop-number.invariant
