use Rattle.std.proofs.Common.{◌≡◌, ℕ, ◌+◌, ◌-◌, ◌<◌, ◌≤◌, true, List, Ok, Err, Result, is_err, [], ◌∷◌, length, get_or, sym, ap, ◌∙◌, subst, arith, rules}
use Rattle.grammar.specs.Items.{Items}
use Rattle.grammar.specs.Relations.{Relations}
use Rattle.grammar.specs.States.{items_from, items_of, visit, explore, kernels_of, most_states}
use Rattle.tables.specs.declared.kernels.Kernels.{Kernels}
use Rattle.tables.specs.declared.kernels.Full.{Full}
use Rattle.tables.specs.Kept.{relations_in, rows_for, kernels_in, Found}
use Rattle.tables.proofs.Finding.{found_long, found_few, found_at, explore_more, explore_end, explore_grows}
use Rattle.tables.proofs.builds.Build.explore.Goals as goal

-- a refusal, where there are at least as many kernels as were too many
refused_for : (n : ℕ) (all : List Items) (ks : Kernels) (m : ℕ) (r : Result (Unit {0}) Full) → is_err r ≡ true → most_states < m → m ≤ length all → Found n all ks r
refused_for n all ks m (Ok _) is h l = cc
refused_for n all ks m (Err _) is h l = omega arith

pub loop-kernel-init : goal.loop-kernel-init
loop-kernel-init g c =
    let rs = c.args.self.now.related.now.rules.now in
    let policy = g.L.Lookahead.policy c.args.self.now.look.now in
    let rel : Relations = relations_in c.args.self.now in
    record {
      within = omega arith;
      left = ap (explore policy rel most_states 0) (c.start.ensures (length rs + 1) ∙ ap (λ q. q ∷ []) c.start_kernel.ensures);
    }

pub returns-in_err-visit : goal.returns-in_err-visit
returns-in_err-visit g c =
    let rs = c.args.self.now.related.now.rules.now in
    let n = length rs + 1 in
    let policy = g.L.Lookahead.policy c.args.self.now.look.now in
    let rel : Relations = relations_in c.args.self.now in
    let state = c.loop-kernel.state in
    let found = c.found.result.now in
    let ks = kernels_in n c.loop-kernel.kernels in
    let look = c.in-Some.ensures.lookup in
    let inside : state < length found = search (rules, look) in
    let l : state < length ks = omega (arith, inside, found_long n c.loop-kernel.kernels found c.found.ensures) in
    let h : state < most_states = omega (arith, inside, found_few n c.loop-kernel.kernels found c.found.ensures, c.loop-kernel.kernels.few) in
    let items : rows_for rs c.expanded-items.result.rows ≡ items_of policy rel (get_or ks state []) =
    c.expanded-items.ensures ∙ ap (items_from policy rel) c.closed.ensures
    ∙ ap (items_of policy rel) (sym (found_at n c.loop-kernel.kernels found c.found.ensures state c.in-Some.kernel.now inside look.1)) in
    let next = visit rel.lines (items_of policy rel (get_or ks state [])) ks in
    let P : Items → Type 0 = λ q. most_states < length (visit rel.lines q ks) in
    let many : most_states < length next = subst P items c.in_err-visit.ensures in
    let R : List Items → Type 0 = λ q. length next ≤ length q in
    let grows : length next ≤ length (kernels_of policy rel) =
    subst R (sym (explore_more policy rel state ks h l) ∙ c.loop-kernel.invariant.left) (explore_grows policy rel (most_states - (state + 1)) (state + 1) next) in
    refused_for n (kernels_of policy rel) c.visit.new.kernels (length next) c.from_residual.result c.from_residual.ensures.0 many grows

pub loop-kernel-smaller : goal.loop-kernel-smaller
loop-kernel-smaller g c =
    let found = c.found.result.now in
    let inside : c.loop-kernel.state < length found = search (rules, c.in-Some.ensures.lookup) in
    omega (arith, inside, found_few 0 c.loop-kernel.kernels found c.found.ensures, c.loop-kernel.kernels.few)

pub loop-kernel-preserved : goal.loop-kernel-preserved
loop-kernel-preserved g c =
    let rs = c.args.self.now.related.now.rules.now in
    let n = length rs + 1 in
    let policy = g.L.Lookahead.policy c.args.self.now.look.now in
    let rel : Relations = relations_in c.args.self.now in
    let state = c.loop-kernel.state in
    let found = c.found.result.now in
    let ks = kernels_in n c.loop-kernel.kernels in
    let look = c.in-Some.ensures.lookup in
    let inside : state < length found = search (rules, look) in
    let l : state < length ks = omega (arith, inside, found_long n c.loop-kernel.kernels found c.found.ensures) in
    let h : state < most_states = omega (arith, inside, found_few n c.loop-kernel.kernels found c.found.ensures, c.loop-kernel.kernels.few) in
    let items : rows_for rs c.expanded-items.result.rows ≡ items_of policy rel (get_or ks state []) =
    c.expanded-items.ensures ∙ ap (items_from policy rel) c.closed.ensures
    ∙ ap (items_of policy rel) (sym (found_at n c.loop-kernel.kernels found c.found.ensures state c.in-Some.kernel.now inside look.1)) in
    record {
      within = omega (arith, h);
      left = ap (explore policy rel (most_states - (state + 1)) (state + 1)) (c.in_ok-visit.ensures ∙ ap (λ q. visit rel.lines q ks) items)
          ∙ sym (explore_more policy rel state ks h l) ∙ c.loop-kernel.invariant.left;
    }

pub returns : goal.returns
returns g c =
    let n = length c.args.self.now.related.now.rules.now + 1 in
    let policy = g.L.Lookahead.policy c.args.self.now.look.now in
    let rel : Relations = relations_in c.args.self.now in
    let state = c.loop-kernel.state in
    let ks = kernels_in n c.loop-kernel.kernels in
    let past : length c.found.result.now ≤ state = search (rules, c.in_default.ensures.lookup) in
    sym (explore_end policy rel (most_states - state) state ks (omega (arith, past, found_long n c.loop-kernel.kernels c.found.result.now c.found.ensures))) ∙ c.loop-kernel.invariant.left
