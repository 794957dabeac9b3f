use Rattle.std.proofs.Common.{◌≡◌, ◌+◌, ◌<◌, ◌++◌, eqb, [], ◌∷◌, length, get_or, drop, string_bytes, sym, ap, ◌∙◌, append-nil, length-append, rules, tests}
use Rattle.std.proofs.lemmas.Iterator.Consumers.{YieldsList-at, YieldsList-from_enumerate, YieldsList-turn, YieldsList-end}
use Rattle.std.proofs.lemmas.Iterator.Splits.{YieldsList-from_slice_split}
use Rattle.std.proofs.lemmas.List.FromFn.{length-enumerate_from}
use Rattle.std.specs.List.{slice_split}
use Rattle.book.specs.Held.{rules_of}
use Rattle.revise.specs.Runs.{line_text, lines_leave, lines_text}
use Rattle.revise.specs.Scripts.{cut}
use Rattle.revise.proofs.Pieces.{numbered_at, piece_at, piece_end}
use Rattle.revise.proofs.Turns.{leave_step, text_step, report_more}
use Rattle.revise.proofs.changes.run_script.Goals as goal
use Rattle.revise.proofs.changes.run_script.Goals.{In-Some, In-None}

-- this turn's line has its number, and is the next piece
turn : (c : In-Some) → (c.in-Some.i ≡ length c.loop-i.yielded) × (length c.loop-i.yielded < length (slice_split (λ b. eqb b 10) c.args.script.now))
    × (c.in-Some.line.now ≡ get_or (slice_split (λ b. eqb b 10) c.args.script.now) (length c.loop-i.yielded) c.in-Some.line.now)
turn c =
    let pieces = slice_split (λ b. eqb b 10) c.args.script.now in
    let t = YieldsList-turn
    (YieldsList-at c.into_iter-i-iterator.ensures.into_iter_gives
    (YieldsList-from_enumerate
    (YieldsList-at c.enumerate-i-items.ensures.source
    (YieldsList-from_slice_split _ (λ b. eqb b 10) c.args.script.now c.split.ensures.rest c.split.ensures.done c.split.ensures.closure (λ x r q k. search (rules, tests))))
    c.enumerate-i-items.ensures.count))
    c.loop-i.yielded _ c.loop-i.yielded_by _ _ (c.in-Some.i, c.in-Some.line) c.in-Some.is c.next.ensures.steps in
    numbered_at pieces (length c.loop-i.yielded) c.in-Some.i c.in-Some.line.now t.0 t.1

pub loop-i-preserved : goal.loop-i-preserved
loop-i-preserved c =
    let t = turn (goal.at.loop-i-preserved c).In-Some in
    let n = length c.loop-i.yielded in
    let pieces = cut 10 c.args.script.now in
    let rules = rules_of c.loop-i.book in
    let next = rules_of c.run_line.new.book in
    let line = c.in-Some.line.now in
    let leaves = c.in_ok-text.ensures.rules in
    let cuts = piece_at 10 c.args.script.now n line t.1 t.2 in
    let part = c.as_str.ensures.value ∙ c.in_ok-text.ensures.text ∙ ap (λ k. line_text (k + 1) rules line) t.0 in
    let more : length (c.loop-i.yielded ++ (c.in-Some.i, c.in-Some.line) ∷ []) ≡ n + 1 = length-append c.loop-i.yielded ((c.in-Some.i, c.in-Some.line) ∷ []) in (
      ap (λ k. lines_leave next (drop k pieces)) more ∙ leave_step rules next line _ _ cuts leaves ∙ c.loop-i.invariant.0,
      ap (λ k. string_bytes c.push_str.new.self ++ lines_text (k + 1) next (drop k pieces)) more
          ∙ report_more _ c.as_str.result.now _ _ _ _ c.in_ok-push_str.ensures.bytes (text_step rules next line _ _ cuts leaves (n + 1) _ part) c.loop-i.invariant.1,
    )

-- at the end no piece is left
at_end : (c : In-None) → drop (length c.loop-i.yielded) (cut 10 c.args.script.now) ≡ []
at_end c =
    let pieces = slice_split (λ b. eqb b 10) c.args.script.now in
    let all = YieldsList-end
    (YieldsList-at c.into_iter-i-iterator.ensures.into_iter_gives
    (YieldsList-from_enumerate
    (YieldsList-at c.enumerate-i-items.ensures.source
    (YieldsList-from_slice_split _ (λ b. eqb b 10) c.args.script.now c.split.ensures.rest c.split.ensures.done c.split.ensures.closure (λ x r q k. search (rules, tests))))
    c.enumerate-i-items.ensures.count))
    c.loop-i.yielded _ c.loop-i.yielded_by _ _ c.in-None.is c.next.ensures.steps in
    piece_end 10 c.args.script.now (length c.loop-i.yielded) (all.1 ∙ length-enumerate_from 0 pieces)

pub returns-clause-rules : goal.returns-clause-rules
returns-clause-rules c =
    ap (lines_leave (rules_of c.loop-i.book)) (sym (at_end (goal.at.returns-clause-rules c).In-None)) ∙ c.loop-i.invariant.0

pub returns-clause-text : goal.returns-clause-text
returns-clause-text c =
    let report = string_bytes c.loop-i.report in
    sym (append-nil report)
    ∙ ap (λ ps. report ++ lines_text (length c.loop-i.yielded + 1) (rules_of c.loop-i.book) ps) (sym (at_end (goal.at.returns-clause-text c).In-None))
    ∙ c.loop-i.invariant.1
