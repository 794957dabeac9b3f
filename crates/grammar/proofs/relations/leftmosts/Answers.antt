use Rattle.std.proofs.Common.{arith}
use Rattle.book.specs.Held.{productions_of}
use Rattle.grammar.specs.Relations.{leftmost_of}
use Rattle.grammar.specs.Sets.{symbol_count}
use Rattle.grammar.proofs.Turns.{fill_more, fill_done}
use Rattle.grammar.proofs.relations.leftmosts.Goals as goal

pub loop-a-preserved : goal.loop-a-preserved
loop-a-preserved c =
    fill_more (leftmost_of c.args.rights.now (productions_of c.args.rules.now)) symbol_count c.loop-a.set-items c.loop-a.a c.leftmost_of.result c.loop-a-test.true c.loop-a.invariant.0 c.leftmost_of.ensures c.loop-a.invariant.1

pub returns : goal.returns
returns c = fill_done (leftmost_of c.args.rights.now (productions_of c.args.rules.now)) symbol_count c.loop-a.set-items c.loop-a.a c.loop-a-test.false (omega arith) c.loop-a.invariant.0 c.loop-a.invariant.1
