use Rattle.std.proofs.Common.{◌≡◌, ◌+◌, ◌-◌, ◌<◌, ◌≤◌, false, ◌&&◌, eqb, ◌⊎◌, [], ◌∷◌, ◌++◌, length, get_or, take, drop, replicate, sym, ap, ap₂, ◌∙◌, inl, inr, arith, length-set, length-take}
use Rattle.std.proofs.lemmas.List.{append_assoc, take-append-drop, take_more_set, drop-set-lt, drop-drop, drop-replicate, get_or-take}
use Rattle.std.proofs.lemmas.Bool.{cases_lt}
use Rattle.book.specs.Symbols.{longest_right}
use Rattle.grammar.specs.Items.{before}
use Rattle.grammar.proofs.Turns.{at_drops_more}
use Rattle.tables.proofs.Sides.{before_rest}
use Rattle.tables.proofs.moving.move_row.Goals as goal

pub loop-d-preserved : goal.loop-d-preserved
loop-d-preserved c =
    let ws = c.args.right.now in
    let row = take longest_right c.args.row.now in
    let x = c.args.symbol in
    let d = c.loop-d.d in
    let moved = c.loop-d.moved in
    let n = c.min-n.result in
    let short : length (take n ws) ≡ n = simp length-take (omega (arith, c.min-n.ensures)) in
    let v = get_or c.args.row.now d false && eqb (get_or (take n ws) d 0) x in
    let rest = before x (drop (d + 1) ws) (drop (d + 1) row) in
    let fits : d < longest_right = omega (arith, short, c.min-n.ensures) in
    let step : before x (drop d ws) (drop d row) ≡ v ∷ rest =
    at_drops_more (before x) ws row d 0 false (omega (arith, short, c.min-n.ensures)) (simp length-take (omega (arith, c.told-row)))
    ∙ ap₂ (λ b w. (b && eqb w x) ∷ rest) (get_or-take longest_right c.args.row.now d false fits) (sym (get_or-take n ws d 0 (omega (arith, short)))) in
    let less : longest_right - d - 1 ≡ longest_right - (d + 1) = omega arith in
    record {
      long = length-set moved (d + 1) v ∙ c.loop-d.invariant.long;
      left = ap (λ q. q ++ rest) (take_more_set moved (d + 1) v (omega (arith, c.loop-d.invariant.long))) ∙ append_assoc (take (d + 1) moved) (v ∷ []) rest ∙ ap (λ q. take (d + 1) moved ++ q) (sym step) ∙ c.loop-d.invariant.left;
      rest = drop-set-lt (d + 1 + 1) moved (d + 1) v (omega arith) ∙ sym (drop-drop 1 (d + 1) moved) ∙ ap (drop 1) c.loop-d.invariant.rest ∙ drop-replicate 1 (longest_right - d) false ∙ ap (λ n. replicate n false) less;
    }

pub returns : goal.returns
returns c =
    let ws = c.args.right.now in
    let row = take longest_right c.args.row.now in
    let x = c.args.symbol in
    let d = c.loop-d.d in
    let moved = c.loop-d.moved in
    let n = c.min-n.result in
    let short : length (take n ws) ≡ n = simp length-take (omega (arith, c.min-n.ensures)) in
    let long : length row ≡ longest_right = simp length-take (omega (arith, c.told-row)) in
    let past : (length ws ≤ d) ⊎ (length row ≤ d) =
    elim (cases_lt (length ws) 7) [ inl h ↦ inl (omega (arith, short, c.min-n.ensures)) | inr h ↦ inr (omega (arith, short, c.min-n.ensures)) ] in
    let rest : before x (drop d ws) (drop d row) ≡ drop (d + 1) moved = before_rest x ws row d past ∙ ap (λ n. replicate (n - d) false) long ∙ sym c.loop-d.invariant.rest in
    sym (ap (λ q. take (d + 1) moved ++ q) rest ∙ take-append-drop (d + 1) moved) ∙ c.loop-d.invariant.left
