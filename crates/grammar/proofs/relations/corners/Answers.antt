use Rattle.std.proofs.Common.{arith}
use Rattle.book.specs.Held.{productions_of}
use Rattle.grammar.specs.Ends.{end_of}
use Rattle.grammar.specs.Relations.{corners_of}
use Rattle.grammar.specs.Sets.{symbol_count}
use Rattle.grammar.proofs.Turns.{fill_more, fill_done}
use Rattle.grammar.proofs.Meanings.{corners_tell}
use Rattle.grammar.proofs.relations.corners.Goals as goal

pub loop-x-preserved : goal.loop-x-preserved
loop-x-preserved c =
    fill_more (corners_of (end_of c.args.end) (productions_of c.args.rules.now)) symbol_count c.loop-x.set-items c.loop-x.x c.corners_of.result c.loop-x-test.true c.loop-x.invariant.0 c.corners_of.ensures c.loop-x.invariant.1

pub returns : goal.returns
returns c =
    let equal = fill_done (corners_of (end_of c.args.end) (productions_of c.args.rules.now)) symbol_count c.loop-x.set-items c.loop-x.x c.loop-x-test.false (omega arith) c.loop-x.invariant.0 c.loop-x.invariant.1 in
    record { equal = equal; tell = corners_tell c.args.end c.args.rules.now _ equal }
