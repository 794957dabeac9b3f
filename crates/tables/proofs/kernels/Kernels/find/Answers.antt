use Rattle.std.proofs.Common.{◌≡◌, ◌≤◌, map, length, take, sym, ap, ◌∙◌, arith, length-take, rules}
use Rattle.std.proofs.lemmas.List.{take_more_set, map_push, length_push}
use Rattle.grammar.specs.States.{number_of}
use Rattle.tables.specs.declared.moving.ItemSet.{ItemSet}
use Rattle.tables.specs.Kept.{most_numbered, kernels_in}
use Rattle.tables.proofs.Finding.{kernels_long, kernel_old, kernel_new}
use Rattle.tables.proofs.kernels.Kernels.find.Goals as goal
use Rattle.tables.proofs.kernels.Kernels.find.Goals.{After-number_of}

-- the number that was looked up
looked : (c : After-number_of) → c.number_of.result ≡ number_of (kernels_in c.args.n c.args.self.now) (take c.args.n c.args.fresh.now.rows)
looked c =
    let n = c.args.n in
    let fresh = c.args.fresh.now.rows in
    let wide : length fresh ≡ most_numbered = search rules in
    let l : length (take n fresh) ≡ n = simp length-take (omega (arith, c.requires.room, wide)) in
    c.number_of.ensures.value ∙ ap (λ j. number_of (kernels_in j c.args.self.now) (take n fresh)) l

pub returns-then-number_of-self : goal.returns-then-number_of-self
returns-then-number_of-self c =
    let n = c.args.n in
    let ks = c.args.self.now in
    let room : ks.count ≤ length ks.sets = search rules in
    let at = looked (goal.at.returns-then-number_of-self c).After-number_of in
    sym (kernel_old (kernels_in n ks) (take n c.args.fresh.now.rows) (omega (arith, at, kernels_long n ks room)))

pub returns-then-self-eq-MOST_STATES : goal.returns-then-self-eq-MOST_STATES
returns-then-self-eq-MOST_STATES c =
    let n = c.args.n in
    let ks = c.args.self.now in
    let k = take n c.args.fresh.now.rows in
    let wide : length ks.sets ≡ 200 = search rules in
    let l = kernels_long n ks (omega (arith, wide, ks.few)) in
    let at = looked (goal.at.returns-then-self-eq-MOST_STATES c).After-number_of in
    let new = kernel_new (kernels_in n ks) k (omega (arith, at, l)) in
    omega (arith, ap length new, length_push (kernels_in n ks) k, l)

pub returns : goal.returns
returns c =
    let n = c.args.n in
    let ks = c.args.self.now in
    let fresh = c.args.fresh.now in
    let wide : length ks.sets ≡ 200 = search rules in
    let l = kernels_long n ks (omega (arith, wide, ks.few)) in
    let at = looked (goal.at.returns c).After-number_of in
    ap (map (λ (s : ItemSet). take n s.rows)) (take_more_set ks.sets ks.count fresh (omega (arith, wide, ks.few)))
    ∙ map_push (λ (s : ItemSet). take n s.rows) (take ks.count ks.sets) fresh ∙ sym (kernel_new (kernels_in n ks) (take n fresh.rows) (omega (arith, at, l)))
