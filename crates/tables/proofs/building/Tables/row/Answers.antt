use Rattle.std.proofs.Common.{[], ◌++◌, map, get_or, drop, sym, ap, ◌∙◌, arith}
use Rattle.std.proofs.lemmas.List.{get_or-map}
use Rattle.tables.specs.Acts.{acts_of, word_of}
use Rattle.tables.specs.Built.{table_of}
use Rattle.tables.proofs.Says.{row_leaves, row_short, row_past, row_given}
use Rattle.tables.proofs.building.Tables.row.Goals as goal

pub returns-then-out-lt-SYMBOLS : goal.returns-then-out-lt-SYMBOLS
returns-then-out-lt-SYMBOLS c =
    let says = row_short (table_of c.args.self.now) c.args.state c.args.out.now c.if-out-lt-SYMBOLS.true in
    record { answer = says; out = row_leaves (table_of c.args.self.now) c.args.state c.args.out.now _ says }

pub returns-then-state-rows : goal.returns-then-state-rows
returns-then-state-rows c =
    let says = row_past (table_of c.args.self.now) c.args.state c.args.out.now (omega arith) (omega (arith, c.rows-rows.ensures.len, c.if-state-rows.true)) in
    record { answer = says; out = row_leaves (table_of c.args.self.now) c.args.state c.args.out.now _ says }

pub returns : goal.returns
returns c =
    let rows = c.rows-rows.result.now in
    let says = row_given (table_of c.args.self.now) c.args.state c.args.out.now (omega arith) (omega (arith, c.rows-rows.ensures.len, c.if-state-rows.false)) in
    let row =
    c.encode.ensures
    ∙ ap (map word_of) (sym (get_or-map acts_of rows c.args.state (record { actions = [] }) [] c.if-state-rows.false) ∙ ap (λ t. get_or t c.args.state []) c.rows-rows.ensures.value) in
    record { answer = says; out = ap (λ w. w ++ drop 81 c.args.out.now) row ∙ row_leaves (table_of c.args.self.now) c.args.state c.args.out.now _ says }
