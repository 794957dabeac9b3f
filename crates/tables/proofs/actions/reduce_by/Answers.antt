use Rattle.std.proofs.Common.{◌≡◌, ◌+◌, Bool, true, false, List, ◌++◌, None, Ok, map, length, get_or, take, drop, set, sym, refl, ap, ◌∙◌, ap₂, arith, length-set}
use lib.ListN.{length-map}
use Rattle.std.proofs.lemmas.List.{append-nil, take_all, drop_all, map-set, get_or-map}
use Rattle.grammar.specs.Build.{Act, nothing, beside, reduce_by}
use Rattle.grammar.proofs.Turns.{beside_more}
use Rattle.tables.specs.Acts.{cell_act, besides}
use Rattle.tables.proofs.actions.reduce_by.Goals as goal
use Rattle.tables.proofs.actions.reduce_by.Goals.{then-ahead-x, else-ahead-x}

pub loop-x-preserved : goal.loop-x-preserved
loop-x-preserved c =
    let a = reduce_by c.args.number in
    let ahead = c.args.ahead.now in
    let x = c.loop-x.x in
    let cells = c.loop-x.cells in
    let acts = map cell_act cells in
    let act = get_or acts x nothing in
    let put : Bool → Act = λ b. elim b [ true ↦ beside act a | false ↦ act ] in
    let left : List Act → List Act = λ q. take (x + 1) q ++ besides a (drop (x + 1) ahead) (drop (x + 1) q) in
    let long : length acts ≡ 81 = length-map cells cell_act ∙ c.loop-x.invariant.long in
    let here : act ≡ cell_act (get_or cells x (Ok None)) = get_or-map cell_act cells x (Ok None) nothing (omega (arith, c.loop-x.invariant.long)) in
    let step : (v : Act) → v ≡ put (get_or ahead x false) → left (set acts x v) ≡ besides a ahead (map cell_act c.args.cells.now) =
    λ v e. beside_more (besides a) (λ b d. elim b [ true ↦ beside d a | false ↦ d ]) (λ b bs d ds. refl) ahead acts x false nothing v (omega (arith, c.told-ahead)) (omega arith) e ∙ c.loop-x.invariant.left in
    elim c.if-ahead-x.branch [
      | then-ahead-x w ↦ record {
        long = ap length w.cells-is ∙ length-set cells x w.beside.result ∙ c.loop-x.invariant.long;
        left = ap left (ap (map cell_act) w.cells-is ∙ map-set cell_act cells x w.beside.result)
            ∙ step (cell_act w.beside.result) (w.beside.ensures ∙ ap (λ d. beside d a) (sym here) ∙ ap put (sym w.if-ahead-x.true));
      }
      | else-ahead-x w ↦ record {
        long = ap length w.cells-is ∙ length-set cells x (get_or cells x (Ok None)) ∙ c.loop-x.invariant.long;
        left = ap left (ap (map cell_act) w.cells-is ∙ map-set cell_act cells x (get_or cells x (Ok None)))
            ∙ step (cell_act (get_or cells x (Ok None))) (sym here ∙ ap put (sym w.if-ahead-x.false));
      }
    ]

pub returns : goal.returns
returns c =
    let a = reduce_by c.args.number in
    let x = c.loop-x.x in
    let cells = c.loop-x.cells in
    let acts = map cell_act cells in
    let long : length acts ≡ 81 = length-map cells cell_act ∙ c.loop-x.invariant.long in
    sym (ap₂ ◌++◌ (take_all x acts (omega arith)) (ap₂ (besides a) (drop_all x c.args.ahead.now (omega (arith, c.told-ahead))) (drop_all x acts (omega arith))) ∙ append-nil acts) ∙ c.loop-x.invariant.left
