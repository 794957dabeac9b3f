use Rattle.std.proofs.Common.{◌<◌, ◌≤◌, length, sym, arith, rules}
use Rattle.std.proofs.lemmas.Bool.{leb-true, leb-false, false≢true}
use Rattle.reading.specs.Told.{written_in}
use Rattle.report.specs.Buffers.{read_room}
use Rattle.report.specs.Texts.{accepted_text}
use Rattle.report.proofs.Accepting.{front_few, length_accepted, writes_accepted}
use Rattle.report.proofs.Reporting.{reports_short, reports_all}
use Rattle.report.proofs.steps.report_accepted.Goals as goal
use Rattle.report.proofs.steps.report_accepted.Goals.{then-out-size-via-then-out-size, then-out-size-via-else-out-size+then-not-has_room}

pub returns-then-out-size : goal.returns-then-out-size
returns-then-out-size c =
    let text = accepted_text c.args.steps c.args.words (written_in c.args.steps c.args.list.now) in
    let size = length_accepted c.args.steps c.args.words c.args.list.now c.front-written.result.now c.front-written.ensures in
    let short : length c.args.out.now < length text =
    elim c.then-out-size.branch [
      | then-out-size-via-then-out-size w ↦ omega (arith, size, w.if-out-size.true, c.fields_size.ensures.size)
      | then-out-size-via-else-out-size+then-not-has_room w ↦ omega (arith, size, leb-false _ _ (sym w.if-not-has_room.ensures.fits), w.if-out-size.false, c.fields_size.ensures.size)
    ] in
    let front = front_few c.args.steps c.args.list.now c.front-written.result.now c.front-written.ensures in
    let wanting : read_room (length c.args.list.now) ≤ length c.args.out.now → ⊥ =
    λ h. elim c.then-out-size.branch [
      | then-out-size-via-then-out-size w ↦ omega (arith, w.if-out-size.true, c.fields_size.ensures.few)
      | then-out-size-via-else-out-size+then-not-has_room w ↦ false≢true (w.if-not-has_room.ensures.enough (omega (arith, front, w.if-out-size.false, c.fields_size.ensures.few)))
    ] in
    reports_short text c.args.out.now _ short wanting

pub returns : goal.returns
returns c =
    let text = accepted_text c.args.steps c.args.words (written_in c.args.steps c.args.list.now) in
    let size = length_accepted c.args.steps c.args.words c.args.list.now c.front-written.result.now c.front-written.ensures in
    let fits : length text ≤ length c.args.out.now =
    omega (arith, size, leb-true _ _ (sym c.if-not-has_room.ensures.fits), c.if-out-size.false, c.fields_size.ensures.size) in
    let wrote = writes_accepted c.args.steps c.args.words c.args.list.now c.front-written.result.now _ _ _ c.front-written.ensures c.put_line.ensures c.put_steps.ensures in
    reports_all text _ _ _ _ _ _ fits c.new-writer.ensures.start c.new-writer.ensures.buffer wrote (search rules) c.len.ensures
