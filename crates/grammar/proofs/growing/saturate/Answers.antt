use Rattle.std.proofs.Common.{◌+◌, ◌-◌, sym, ap, ◌∙◌}
use Rattle.book.specs.Held.{productions_of}
use Rattle.grammar.specs.Sets.{Flags, symbol_count, times, through}
use Rattle.grammar.specs.Rounds.{times_still}
use Rattle.grammar.proofs.Turns.{times_more}
use Rattle.grammar.proofs.growing.saturate.Goals as goal

pub returns-then-not-round : goal.returns-then-not-round
returns-then-not-round g c =
    let f : Flags → Flags = through (g.G.Growth.grown c.args.growth.now) (productions_of c.args.rules.now) in
    let still = c.round.ensures.still c.if-not-round.true in
    still ∙ sym (times_still f (symbol_count - c.loop.counter) c.loop.set (sym c.round.ensures.after ∙ still)) ∙ c.loop.invariant

pub loop-preserved : goal.loop-preserved
loop-preserved g c =
    let f : Flags → Flags = through (g.G.Growth.grown c.args.growth.now) (productions_of c.args.rules.now) in
    let k = c.loop.counter in
    ap (times f (symbol_count - (k + 1))) c.round.ensures.after ∙ sym (times_more f symbol_count k c.loop.set c.loop-test.true) ∙ c.loop.invariant
