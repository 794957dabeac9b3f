use Rattle.std.proofs.Common.{rules}
use Rattle.grammar.proofs.Meanings.{useless_tell}
use Rattle.grammar.proofs.useful.useless.Goals as goal

pub returns-clause-tell : goal.returns-clause-tell
returns-clause-tell c = useless_tell c.args.rules.now _ (search rules)
