use Rattle.std.proofs.Common.{◌≡◌, ◌+◌, List, [], ◌∷◌, ◌++◌, map, length, take, sym, refl, ap, ◌∙◌, ap₂, arith}
use Rattle.std.proofs.lemmas.List.{take_all, take_more}
use Rattle.book.specs.Answers.{granted}
use Rattle.grammar.specs.Build.{Act, rows_of, conflict_in}
use Rattle.grammar.specs.Relations.{Relations}
use Rattle.tables.specs.Acts.{acts_of}
use Rattle.tables.specs.Kept.{relations_in, kernels_in}
use Rattle.tables.proofs.Finding.{found_few}
use Rattle.tables.proofs.Filling.{rows_long, rows_at, conflict_here, conflict_later, conflict_done, in_conflict, no_conflict}
use Rattle.tables.proofs.building.Tables.fill_rows.Goals as goal

pub loop-s-init : goal.loop-s-init
loop-s-init g c = record { filled = refl; calm = refl }

pub returns-in-Err : goal.returns-in-Err
returns-in-Err g c =
    let policy = g.L.Lookahead.policy c.args.build.now.look.now in
    let rel : Relations = relations_in c.args.build.now in
    let n = length c.args.build.now.related.now.rules.now + 1 in
    let ks = c.args.kernels.now in
    let found = c.found-kernel-items.result.now in
    let all : List (List Act) = rows_of policy rel (kernels_in n ks) in
    let s = c.loop-s.s in
    let long = rows_long policy rel n ks found c.found-kernel-items.ensures in
    let at = rows_at policy rel n ks found c.found-kernel-items.ensures s c.loop-s-test.true in
    in_conflict all s c.in-Err.x
    (sym c.loop-s.invariant.calm ∙ conflict_here all s c.in-Err.x (omega (arith, long)) (ap (conflict_in 0) at ∙ c.in-Err.ensures))

pub put-requires : goal.put-requires
put-requires g c =
    let ks = c.args.kernels.now in
    omega (arith, found_few 0 ks c.found-kernel-items.result.now c.found-kernel-items.ensures, ks.few, c.loop-s-test.true)

pub loop-s-preserved : goal.loop-s-preserved
loop-s-preserved g c =
    let policy = g.L.Lookahead.policy c.args.build.now.look.now in
    let rel : Relations = relations_in c.args.build.now in
    let n = length c.args.build.now.related.now.rules.now + 1 in
    let ks = c.args.kernels.now in
    let found = c.found-kernel-items.result.now in
    let all : List (List Act) = rows_of policy rel (kernels_in n ks) in
    let s = c.loop-s.s in
    let long = rows_long policy rel n ks found c.found-kernel-items.ensures in
    let at = rows_at policy rel n ks found c.found-kernel-items.ensures s c.loop-s-test.true in
    record {
      filled = c.put.ensures ∙ ap₂ (λ t w. t ++ w ∷ []) c.loop-s.invariant.filled (c.in-Ok.ensures.1 ∙ sym at) ∙ sym (take_more all s [] (omega (arith, long)));
      calm = sym (conflict_later all s (omega (arith, long)) (ap (conflict_in 0) at ∙ c.in-Ok.ensures.0)) ∙ c.loop-s.invariant.calm;
    }

pub returns : goal.returns
returns g c =
    let policy = g.L.Lookahead.policy c.args.build.now.look.now in
    let rel : Relations = relations_in c.args.build.now in
    let n = length c.args.build.now.related.now.rules.now + 1 in
    let ks = c.args.kernels.now in
    let found = c.found-kernel-items.result.now in
    let all : List (List Act) = rows_of policy rel (kernels_in n ks) in
    let s = c.loop-s.s in
    let long = rows_long policy rel n ks found c.found-kernel-items.ensures in
    let rows = c.loop-s.self.rows in
    let same : length c.found.result.now ≡ length found = ap length (c.found.ensures ∙ sym c.found-kernel-items.ensures) in
    let e : length c.found.result.now ≡ s = omega (arith, same) in
    ap granted (ap (λ k. map acts_of (take k rows)) e ∙ c.loop-s.invariant.filled ∙ take_all s all (omega (arith, long)))
    ∙ no_conflict all (sym c.loop-s.invariant.calm ∙ conflict_done all s (omega (arith, long)))
