use Rattle.std.proofs.Common.{◌≡◌, ℕ, ◌+◌, ◌-◌, ◌<◌, ◌≤◌, Bool, true, false, List, map, length, sym, ap, ◌∙◌, ap₂, arith}
use lib.ListN.{length-map}
use Rattle.book.specs.Held.{production_of, productions_of}
use Rattle.book.specs.Rules.{Production}
use Rattle.grammar.specs.Items.{Items, is_complete}
use Rattle.grammar.specs.Lookahead.{slr, lookahead_of, overlap, meets}
use Rattle.grammar.specs.Numbered.{numbered}
use Rattle.grammar.specs.Relations.{Relations}
use Rattle.grammar.specs.Relating.{related_in}
use Rattle.grammar.specs.Sets.{Flags, keep, union, up_from}
use Rattle.grammar.proofs.Overlapping.{overlap_here, overlap_on, overlap_past, overlap_done}
use Rattle.grammar.proofs.lookaheads.is_conflicting.Goals as goal
use Rattle.grammar.proofs.lookaheads.is_conflicting.Goals.{then-is_complete+else-meet, else-is_complete}

-- what is left to look at, from a rule up
module _ (rel : Relations) (ls : List Production) (closed : Items) (k : ℕ) (seen : Flags) where
  abbrev look : ℕ → Flags
  look = lookahead_of (slr rel closed)

  abbrev left : ℕ → Flags → Bool
  left j s = overlap s (map look (keep (is_complete (numbered ls) closed) (up_from j (length (numbered ls) - j))))

  module _ (h : k ≤ length ls) (complete : Bool) (is : complete ≡ is_complete (numbered ls) closed k) where
    abbrev inside : k < length (numbered ls)
    inside = omega (arith, h)

    module _ (yes : complete ≡ true) (here : Flags) (its : here ≡ look k) (met : Bool) (meeting : met ≡ meets seen here) where
      meets_here : meets seen (look k) ≡ met
      meets_here = ap (meets seen) (sym its) ∙ sym meeting

      met_here : met ≡ true → left k seen ≡ true
      met_here m = overlap_here look (is_complete (numbered ls) closed) (length (numbered ls)) k seen inside (sym is ∙ yes) (meets_here ∙ m)

      unmet_here : met ≡ false → (s : Flags) → s ≡ union seen here → left (k + 1) s ≡ left k seen
      unmet_here m s e =
          ap (left (k + 1)) (e ∙ ap (union seen) its)
          ∙ sym (overlap_on look (is_complete (numbered ls) closed) (length (numbered ls)) k seen inside (sym is ∙ yes) (meets_here ∙ m))

    past_here : complete ≡ false → (s : Flags) → s ≡ seen → left (k + 1) s ≡ left k seen
    past_here n s e = ap (left (k + 1)) e ∙ sym (overlap_past look (is_complete (numbered ls) closed) (length (numbered ls)) k seen inside (sym is ∙ n))

  none_left : length ls < k → left k seen ≡ false
  none_left h = overlap_done look (is_complete (numbered ls) closed) (length (numbered ls)) k seen (omega (arith, h))

left_all : (rel : Relations) (ls : List Production) (closed : Items) (seen all : Flags) → seen ≡ all
    → left rel ls closed 0 seen 0 seen ≡ overlap all (map (lookahead_of (slr rel closed)) (keep (is_complete (numbered ls) closed) (up_from 0 (length (numbered ls)))))
left_all rel ls closed seen all e =
    let n : length (numbered ls) - 0 ≡ length (numbered ls) = omega arith in
    ap₂ (λ s m. overlap s (map (lookahead_of (slr rel closed)) (keep (is_complete (numbered ls) closed) (up_from 0 m)))) e n

pub loop-number-init : goal.loop-number-init
loop-number-init c =
    let ls = productions_of c.args.related.now.rules.now in
    left_all (related_in c.args.related.now) ls c.args.closed.now c.reads-seen.result _ c.reads-seen.ensures

pub returns-then-meet : goal.returns-then-meet
returns-then-meet c =
    let many = length-map c.args.related.now.rules.now production_of in
    sym (met_here (related_in c.args.related.now) (productions_of c.args.related.now.rules.now) c.args.closed.now c.loop-number.number c.loop-number.seen
    (omega (arith, many, c.loop-number-test.true)) _ c.is_complete.ensures c.if-is_complete.true _ c.lookahead_of-lookahead.ensures _ c.meet.ensures c.if-meet.true)
    ∙ c.loop-number.invariant

pub loop-number-preserved : goal.loop-number-preserved
loop-number-preserved c =
    let many = length-map c.args.related.now.rules.now production_of in
    let inside : c.loop-number.number ≤ length (productions_of c.args.related.now.rules.now) = omega (arith, many, c.loop-number-test.true) in
    let rel = related_in c.args.related.now in
    let ls = productions_of c.args.related.now.rules.now in
    elim c.if-is_complete.branch [
      | then-is_complete+else-meet w ↦
          unmet_here rel ls c.args.closed.now c.loop-number.number c.loop-number.seen inside _ c.is_complete.ensures w.if-is_complete.true
          _ w.lookahead_of-lookahead.ensures _ w.meet.ensures w.if-meet.false _ (w.seen-is ∙ w.unite.ensures)
          ∙ c.loop-number.invariant
      | else-is_complete w ↦
          past_here rel ls c.args.closed.now c.loop-number.number c.loop-number.seen inside _ c.is_complete.ensures w.if-is_complete.false _ w.seen-is
          ∙ c.loop-number.invariant
    ]

pub returns-after-is_complete : goal.returns-after-is_complete
returns-after-is_complete c =
    let many = length-map c.args.related.now.rules.now production_of in
    let inside : c.loop-number.number ≤ length (productions_of c.args.related.now.rules.now) = omega (arith, many, c.loop-number-test.true) in
    let rel = related_in c.args.related.now in
    let ls = productions_of c.args.related.now.rules.now in
    let over : length ls < c.loop-number.number + 1 = omega (arith, many) in
    elim c.if-is_complete.branch [
      | then-is_complete+else-meet w ↦
          sym (none_left rel ls c.args.closed.now (c.loop-number.number + 1) c.if-is_complete.seen over)
          ∙ unmet_here rel ls c.args.closed.now c.loop-number.number c.loop-number.seen inside _ c.is_complete.ensures w.if-is_complete.true
          _ w.lookahead_of-lookahead.ensures _ w.meet.ensures w.if-meet.false _ (w.seen-is ∙ w.unite.ensures)
          ∙ c.loop-number.invariant
      | else-is_complete w ↦
          sym (none_left rel ls c.args.closed.now (c.loop-number.number + 1) c.if-is_complete.seen over)
          ∙ past_here rel ls c.args.closed.now c.loop-number.number c.loop-number.seen inside _ c.is_complete.ensures w.if-is_complete.false _ w.seen-is
          ∙ c.loop-number.invariant
    ]
