use Rattle.std.proofs.Common.{◌≡◌, Some, sym, ap, ◌∙◌, arith}
use Rattle.grammar.specs.Build.{reduce}
use Rattle.grammar.specs.Laws.{move_of}
use Rattle.tables.specs.Acts.{act_of}
use Rattle.tables.specs.Built.{table_of}
use Rattle.tables.specs.Looked.{act_in}
use Rattle.reading.specs.Reading.{top_state}
use Rattle.reading.specs.Held.{stack_of}
use Rattle.reading.proofs.turns.Read.act.Goals as goal

pub reduce-requires-clause-room : goal.reduce-requires-clause-room
reduce-requires-clause-room g c =
    let r = c.args.self.now in
    let acts : reduce c.in-Some-Reduce.rule ≡ act_in (table_of r.tables.now) c.state.result c.args.symbol.code = ap (λ a. act_of (Some a)) (sym c.in-Some-Reduce.field-0-is) ∙ c.in-Some-Reduce.ensures in
    let e : reduce c.in-Some-Reduce.rule ≡ act_in (table_of r.tables.now) (top_state 0 (stack_of r.stacks.now)) c.args.symbol.code = acts ∙ ap (λ s. act_in (table_of r.tables.now) s c.args.symbol.code) c.state.ensures in
    let some = c.requires.ready.stacked_some c.args.symbol.code c.in-Some-Reduce.rule (ap move_of (sym e)) in
    omega (arith, c.requires.ready.held)
