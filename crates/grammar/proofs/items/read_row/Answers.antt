use Rattle.std.proofs.Common.{sym, ◌∙◌}
use Rattle.std.proofs.lemmas.Slice.Zip.{either_empty_from_Zip}
use Rattle.grammar.proofs.Overlapping.{read_row_done}
use Rattle.grammar.proofs.items.read_row.Goals as goal

pub returns : goal.returns
returns c =
    let end = either_empty_from_Zip c.loop-symbol.symbol-iterator c.next.new.self c.next.result c.in-None.is c.next.ensures.steps in
    sym (read_row_done c.loop-symbol.set c.loop-symbol.symbol-iterator.a.rest.now c.loop-symbol.symbol-iterator.b.rest.now end) ∙ c.loop-symbol.invariant
