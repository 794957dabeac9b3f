use Rattle.grammar.proofs.Rules.{rule_got}
use Rattle.grammar.proofs.items.rule_at.Goals as goal

pub returns : goal.returns
returns c = rule_got c.args.rules.now c.args.number c.in_ok-checked_sub.field-0 c.get.result c.in_ok-checked_sub.ensures c.get.ensures.lookup
