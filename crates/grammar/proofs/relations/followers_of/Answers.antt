use Rattle.std.proofs.Common.{◌≡◌, ℕ, ◌+◌, ◌-◌, ◌<◌, Bool, true, false, List, [], map, length, get_or, refl, sym, ap, ◌∙◌, arith, rules}
use Rattle.std.proofs.lemmas.List.{length_push}
use Rattle.std.proofs.lemmas.Slice.Zip.{zip_turn}
use Rattle.grammar.specs.Relations.{union_of}
use Rattle.grammar.specs.Sets.{Flags, has, union, symbol_count, up_from, keep}
use Rattle.grammar.proofs.Turns.{keep_more}
use Rattle.grammar.proofs.relations.followers_of.Goals as goal

-- what is left to unite with s, from symbol y on
module _ (lefts : List Flags) (leftmost s : Flags) where
  abbrev left : ℕ → Flags → Flags
  left y u = union_of u (map (λ z. get_or lefts z []) (keep (has leftmost) (up_from y (symbol_count - y))))

  turn : (t : Bool) (y next : ℕ) (u : Flags) → next ≡ y + 1 → y < symbol_count → has leftmost y ≡ t → u ≡ elim t [ true ↦ union s (get_or lefts y []) | false ↦ s ] → left next u ≡ left y s
  turn true y next u n h e is =
      ap (λ m. left m u) n ∙ ap (left (y + 1)) is ∙ sym (ap (λ ys. union_of s (map (λ z. get_or lefts z []) ys)) (keep_more (has leftmost) symbol_count y h true e))
  turn false y next u n h e is =
      ap (λ m. left m u) n ∙ ap (left (y + 1)) is ∙ sym (ap (λ ys. union_of s (map (λ z. get_or lefts z []) ys)) (keep_more (has leftmost) symbol_count y h false e))

pub loop-corners-preserved-then-is_leftmost : goal.loop-corners-preserved-then-is_leftmost
loop-corners-preserved-then-is_leftmost c =
    let here = zip_turn c.args.lefts.now c.args.leftmost.now c.loop-corners.yielded c.into_iter-corners-iterator.result c.loop-corners.corners-iterator c.next.new.self c.next.result (search rules) (search rules) c.loop-corners.yielded_by _ c.in-Some.is c.next.ensures.steps in
    turn c.args.lefts.now c.args.leftmost.now c.loop-corners.set true (length c.loop-corners.yielded) _ c.unite.new.set (length_push c.loop-corners.yielded _) (omega (arith, here.0, c.told-lefts))
    (sym (here.3 false) ∙ c.if-is_leftmost.true) (c.unite.ensures ∙ ap (union c.loop-corners.set) (here.2 []))
    ∙ c.loop-corners.invariant

pub loop-corners-preserved : goal.loop-corners-preserved
loop-corners-preserved c =
    let here = zip_turn c.args.lefts.now c.args.leftmost.now c.loop-corners.yielded c.into_iter-corners-iterator.result c.loop-corners.corners-iterator c.next.new.self c.next.result (search rules) (search rules) c.loop-corners.yielded_by _ c.in-Some.is c.next.ensures.steps in
    turn c.args.lefts.now c.args.leftmost.now c.loop-corners.set false (length c.loop-corners.yielded) _ c.loop-corners.set (length_push c.loop-corners.yielded _) (omega (arith, here.0, c.told-lefts))
    (sym (here.3 false) ∙ c.if-is_leftmost.false) refl
    ∙ c.loop-corners.invariant
