use Rattle.std.proofs.Common.{◌≡◌, ◌-◌, length}
use Rattle.grammar.specs.Items.{close_round, close}
use Rattle.grammar.specs.Sets.{times}
use Rattle.tables.specs.Kept.{lines_of}
use Rattle.tables.proofs.closing.close.Given as goal

abbrev pub invariant-loop : goal.invariant-loop
invariant-loop l = times (close_round (lines_of l.rules)) (length (lines_of l.rules) - l.counter) l.items ≡ close (lines_of l.rules) l.initial.items
