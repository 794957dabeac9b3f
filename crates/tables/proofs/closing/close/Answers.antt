use Rattle.std.proofs.Common.{◌≡◌, ◌+◌, ◌-◌, length, sym, ap, ◌∙◌, arith}
use lib.ListN.{length-map}
use Rattle.book.specs.Held.{production_of}
use Rattle.grammar.specs.Items.{opened, close_round}
use Rattle.grammar.specs.Sets.{times}
use Rattle.grammar.specs.Rounds.{times_still}
use Rattle.grammar.proofs.Turns.{times_more, times_done}
use Rattle.tables.specs.Kept.{lines_of}
use Rattle.tables.proofs.closing.close.Goals as goal
use Rattle.tables.proofs.closing.close.Goals.{After-open}

-- what a round leaves
rounded : (c : After-open) → c.open.new.items ≡ close_round (lines_of c.args.rules.now) c.loop.items
rounded c = c.open.ensures.after ∙ ap (λ s. opened s (lines_of c.args.rules.now) c.loop.items) c.reads-set.ensures

pub loop-init : goal.loop-init
loop-init c =
    let lines = lines_of c.args.rules.now in
    let e : length lines - 0 ≡ length lines = omega arith in
    ap (λ n. times (close_round lines) n c.args.items.now) e

pub returns-then-not-open : goal.returns-then-not-open
returns-then-not-open c =
    let lines = lines_of c.args.rules.now in
    let still = c.open.ensures.still c.if-not-open.true in
    still ∙ sym (times_still (close_round lines) (length lines - c.loop.counter) c.loop.items (sym (rounded (goal.at.returns-then-not-open c).After-open) ∙ still)) ∙ c.loop.invariant

pub loop-preserved : goal.loop-preserved
loop-preserved c =
    let lines = lines_of c.args.rules.now in
    let k = c.loop.counter in
    ap (times (close_round lines) (length lines - (k + 1))) (rounded (goal.at.loop-preserved c).After-open)
    ∙ sym (times_more (close_round lines) (length lines) k c.loop.items (omega (arith, c.requires.rows, length-map c.args.rules.now production_of))) ∙ c.loop.invariant

pub returns : goal.returns
returns c =
    let lines = lines_of c.args.rules.now in
    sym (times_done (close_round lines) (length lines) c.loop.counter c.loop.items (omega (arith, c.requires.rows, length-map c.args.rules.now production_of))) ∙ c.loop.invariant
