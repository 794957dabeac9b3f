use Rattle.std.proofs.Common.{◌≡◌, drop}
use Rattle.book.specs.Held.{productions_of}
use Rattle.grammar.specs.Items.{read_rows, reads}
use Rattle.grammar.specs.Numbered.{numbered}
use Rattle.grammar.proofs.items.reads.Given as goal

abbrev pub invariant-loop-number : goal.invariant-loop-number
invariant-loop-number l = read_rows l.set (drop l.number (numbered (productions_of l.rules))) (drop l.number l.items) ≡ reads (numbered (productions_of l.rules)) l.items
