use Rattle.std.proofs.Common.{◌≡◌, ℕ, ◌+◌, ◌≤◌, Bool, true, false, [], ◌∷◌, ◌++◌, length, get_or, take, drop, set, sym, refl, ap, ◌∙◌, arith}
use lib.Seq.{set-get_or}
use Rattle.std.proofs.lemmas.List.{append-nil, take_all, drop_all}
use Rattle.grammar.specs.Items.{Items}
use Rattle.grammar.specs.Lookahead.{Look, expands, add_rules, expand_for}
use Rattle.grammar.specs.Relations.{Relations}
use Rattle.grammar.specs.Sets.{has, any}
use Rattle.grammar.specs.Flagging.{insert_if}
use Rattle.tables.specs.Kept.{relations_in, calls_for}
use Rattle.tables.proofs.Calls.{places_more, single, expand_start}
use Rattle.tables.proofs.builds.Build.expand_by.Goals as goal
use Rattle.tables.proofs.builds.Build.expand_by.Goals.{then-calls_for, else-calls_for}

pub loop-q-init : goal.loop-q-init
loop-q-init g c =
    expand_start (relations_in c.args.self.now) (λ _. has c.args.ahead.now) (c.args.number ∷ []) c.args.items.now

pub loop-q-preserved : goal.loop-q-preserved
loop-q-preserved g c =
    let rel : Relations = relations_in c.args.self.now in
    let ahead = c.args.ahead.now in
    let look : Look = λ _. has ahead in
    let p : ℕ → Bool = λ k. any (expands rel look k) (c.args.number ∷ []) in
    let q = c.loop-q.q in
    let rows = c.loop-q.items in
    let row = get_or rows q [] in
    let left : Items → Items = λ u. take (q + 1) u ++ add_rules p (q + 1) (drop (q + 1) u) in
    let wanted : (b : Bool) → b ≡ calls_for rel c.left_of-left.result ahead q → b ≡ p q =
    λ b e. e ∙ ap (λ a. calls_for rel a ahead q) c.left_of-left.ensures ∙ sym (single (expands rel look q c.args.number)) in
    let step : (b : Bool) → b ≡ calls_for rel c.left_of-left.result ahead q → left (set rows q (insert_if b row 0)) ≡ expand_for rel look (c.args.number ∷ []) c.args.items.now =
    λ b e. places_more (add_rules p) (λ k r. insert_if (p k) r 0) (λ k y ys. refl) rows q [] (insert_if b row 0) (omega arith) (ap (λ t. insert_if t row 0) (wanted b e)) ∙ c.loop-q.invariant in
    elim c.if-calls_for.branch [
      | then-calls_for w ↦ ap left w.items-is ∙ step true w.if-calls_for.ensures
      | else-calls_for w ↦ ap left (w.items-is ∙ sym (set-get_or rows q [])) ∙ step false w.if-calls_for.ensures
    ]

pub returns : goal.returns
returns g c =
    let rel : Relations = relations_in c.args.self.now in
    let look : Look = λ _. has c.args.ahead.now in
    let p : ℕ → Bool = λ k. any (expands rel look k) (c.args.number ∷ []) in
    let q = c.loop-q.q in
    let rows = c.loop-q.items in
    let h : length rows ≤ q = omega arith in
    sym (ap (λ u. take q rows ++ add_rules p q u) (drop_all q rows h) ∙ append-nil (take q rows) ∙ take_all q rows h) ∙ c.loop-q.invariant
