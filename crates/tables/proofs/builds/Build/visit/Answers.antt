use Rattle.std.proofs.Common.{◌≡◌, ◌+◌, ◌-◌, ◌<◌, ◌≤◌, true, false, List, length, sym, ap, ◌∙◌, subst}
use Rattle.grammar.specs.Items.{Items, reads, onward}
use Rattle.grammar.specs.Sets.{codes, symbol_count, up_from}
use Rattle.grammar.specs.States.{with_kernel, with_next, visit, most_states}
use Rattle.grammar.proofs.Turns.{up_done}
use Rattle.tables.specs.Kept.{lines_of, rows_for, kernels_in}
use Rattle.tables.proofs.Finding.{too_many, next_more, next_grows}
use Rattle.tables.proofs.builds.Build.visit.Goals as goal
use Rattle.tables.proofs.builds.Build.visit.Goals.{then-read+in_ok-find, else-read}

pub loop-x-init : goal.loop-x-init
loop-x-init g c =
    let rules = c.args.self.now.related.now.rules.now in
    let items = rows_for rules c.args.items.now.rows in
    ap (λ s. with_next (lines_of rules) items s codes (kernels_in (length rules + 1) c.args.kernels.now)) (c.reads-set.ensures ∙ ap (reads (lines_of rules)) c.rows.ensures.value)

pub returns-in_err-find : goal.returns-in_err-find
returns-in_err-find g c =
    let rules = c.args.self.now.related.now.rules.now in
    let lines = lines_of rules in
    let items = rows_for rules c.args.items.now.rows in
    let set = c.reads-set.result in
    let x = c.loop-x.x in
    let ks = kernels_in (length rules + 1) c.loop-x.kernels in
    let next = with_kernel ks (onward x lines items) in
    let rest = up_from (x + 1) (symbol_count - (x + 1)) in
    let P : List Items → Type 0 = λ q. most_states < length q in
    let Q : List Items → Type 0 = λ q. length next ≤ length q in
    let found : most_states < length next = subst P (ap (with_kernel ks) c.onward.ensures) c.in_err-find.ensures in
    let all : with_next lines items set rest next ≡ visit lines items (kernels_in (length rules + 1) c.args.kernels.now) =
    sym (next_more lines items set ks x true c.loop-x-test.true c.if-read.true) ∙ c.loop-x.invariant in
    too_many (length rules + 1) _ next c.find.new.self c.from_residual.result c.from_residual.ensures.0 found (subst Q all (next_grows lines items set rest next))

pub loop-x-preserved : goal.loop-x-preserved
loop-x-preserved g c =
    let rules = c.args.self.now.related.now.rules.now in
    let lines = lines_of rules in
    let items = rows_for rules c.args.items.now.rows in
    let n = length rules + 1 in
    let set = c.reads-set.result in
    let x = c.loop-x.x in
    let ks = kernels_in n c.loop-x.kernels in
    let rest = with_next lines items set (up_from (x + 1) (symbol_count - (x + 1))) in
    elim c.if-read.branch [
      | then-read+in_ok-find w ↦
          ap rest (ap (kernels_in n) w.kernels-is ∙ w.in_ok-find.ensures ∙ ap (with_kernel ks) w.onward.ensures)
          ∙ sym (next_more lines items set ks x true c.loop-x-test.true w.if-read.true) ∙ c.loop-x.invariant
      | else-read w ↦ ap rest (ap (kernels_in n) w.kernels-is) ∙ sym (next_more lines items set ks x false c.loop-x-test.true w.if-read.false) ∙ c.loop-x.invariant
    ]

pub returns : goal.returns
returns g c =
    let rules = c.args.self.now.related.now.rules.now in
    sym (ap (λ q. with_next (lines_of rules) (rows_for rules c.args.items.now.rows) c.reads-set.result q (kernels_in (length rules + 1) c.loop-x.kernels)) (up_done symbol_count c.loop-x.x c.loop-x-test.false))
    ∙ c.loop-x.invariant
