use Rattle.std.proofs.Common.{false, rules}
use Rattle.book.specs.Symbols.{is_terminal}
use Rattle.grammar.proofs.Turns.{filled}
use Rattle.grammar.proofs.useful.terminals.Goals as goal

pub returns : goal.returns
returns c = filled is_terminal false c.from_fn.result c.from_fn.ensures.items.long (λ x h. let k = c.from_fn.ensures.items.at x false h in search rules)
