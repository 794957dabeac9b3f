use Rattle.std.proofs.Common.{◌≡◌, true, false, [], ◌∷◌, ◌++◌, map, take, Some, None, Option, Ok, sym, refl, ap, ◌∙◌, ap₂, arith, length-set}
use Rattle.std.proofs.lemmas.List.{at_drop_all, take_more_set, take_all, map_push, map_more}
use Rattle.grammar.specs.Build.{conflict_in, is_conflict}
use Rattle.tables.specs.declared.actions.Action.{Action}
use Rattle.tables.specs.declared.actions.Action.TheVariants.{Accept, Shift, Reduce}
use Rattle.tables.specs.Acts.{act_of, cell_act}
use Rattle.tables.proofs.Rowing.{conflict_step}
use Rattle.tables.proofs.actions.settle.Goals as goal

-- no action is a conflict
no_conflict : (action : Option Action) → is_conflict (act_of action) ≡ false
no_conflict None = refl
no_conflict (Some Accept) = refl
no_conflict (Some (Shift k)) = refl
no_conflict (Some (Reduce r)) = refl

pub returns-in-Err : goal.returns-in-Err
returns-in-Err c =
    sym c.loop-x.invariant.calm ∙ conflict_step cell_act c.args.cells.now c.loop-x.x (Ok None) true (omega (arith, c.told-cells)) (ap (λ d. is_conflict (cell_act d)) c.in-Err.is)

pub loop-x-preserved : goal.loop-x-preserved
loop-x-preserved c =
    let cells = c.args.cells.now in
    let actions = c.loop-x.actions in
    let x = c.loop-x.x in
    let v = c.in-Ok.action in
    record {
      long = length-set actions x v ∙ c.loop-x.invariant.long;
      same = ap (map act_of) (take_more_set actions x v (omega (arith, c.loop-x.invariant.long))) ∙ map_push act_of (take x actions) v
          ∙ ap₂ (λ t w. t ++ w ∷ []) c.loop-x.invariant.same (sym (ap cell_act c.in-Ok.is)) ∙ sym (map_more cell_act cells x (Ok None) (omega (arith, c.told-cells)));
      calm = sym (conflict_step cell_act cells x (Ok None) false (omega (arith, c.told-cells)) (ap (λ d. is_conflict (cell_act d)) c.in-Ok.is ∙ no_conflict v)) ∙ c.loop-x.invariant.calm;
    }

pub returns : goal.returns
returns c =
    let cells = c.args.cells.now in
    let actions = c.loop-x.actions in
    let x = c.loop-x.x in (
      sym c.loop-x.invariant.calm ∙ at_drop_all (λ q. conflict_in x (map cell_act q)) cells x (omega (arith, c.told-cells)),
      ap (map act_of) (sym (take_all x actions (omega (arith, c.loop-x.invariant.long)))) ∙ c.loop-x.invariant.same ∙ ap (map cell_act) (take_all x cells (omega (arith, c.told-cells))),
    )
