use Rattle.std.proofs.Common.{◌≡◌}
use Rattle.grammar.specs.Items.{read_row}
use Rattle.grammar.proofs.items.read_row.Given as goal

abbrev pub invariant-loop-symbol : goal.invariant-loop-symbol
invariant-loop-symbol l = read_row l.set l.symbol-iterator.a.rest.now l.symbol-iterator.b.rest.now ≡ read_row l.initial.set l.right l.row
