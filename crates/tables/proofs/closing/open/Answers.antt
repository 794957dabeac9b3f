use Rattle.std.proofs.Common.{◌≡◌, ◌+◌, [], ◌++◌, get_or, take, drop, set, sym, refl, ap, ◌∙◌, arith}
use lib.ListN.{length-map}
use lib.Seq.{set-get_or}
use Rattle.std.proofs.lemmas.List.{drop_all, take-append-drop}
use Rattle.std.proofs.lemmas.Bool.{both_ways}
use Rattle.book.specs.Held.{production_of}
use Rattle.book.specs.Rules.{Production}
use Rattle.grammar.specs.Items.{Items, opened}
use Rattle.grammar.specs.Numbered.{outer}
use Rattle.grammar.specs.Sets.{Flags, has, insert}
use Rattle.grammar.specs.Flagging.{insert_if}
use Rattle.grammar.proofs.Turns.{beside_more}
use Rattle.tables.specs.Kept.{lines_of}
use Rattle.tables.proofs.Sides.{put_in, left_out}
use Rattle.tables.proofs.closing.open.Goals as goal
use Rattle.tables.proofs.closing.open.Goals.{then-contains-row, else-contains-row}

pub loop-k-preserved : goal.loop-k-preserved
loop-k-preserved c =
    let lines = lines_of c.args.rules.now in
    let rows = c.loop-k.items in
    let k = c.loop-k.k in
    let s = c.args.set.now in
    let row = get_or rows k [] in
    let left : Items → Items = λ q. take (k + 1) q ++ opened s (drop (k + 1) lines) (drop (k + 1) q) in
    let wanted : c.contains.result ≡ has s (get_or lines k outer).lhs = c.contains.ensures ∙ ap (has s) c.left_of.ensures in
    let step : (v : Flags) → v ≡ insert_if c.contains.result row 0 → left (set rows k v) ≡ opened s lines c.args.items.now =
    λ v e. beside_more (opened s) (λ (p : Production) r. insert_if (has s p.lhs) r 0) (λ l ls r rs. refl) lines rows k outer [] v
    (omega (arith, c.requires.rows, length-map c.args.rules.now production_of)) (omega (arith, c.requires.rows)) (e ∙ ap (λ b. insert_if b row 0) wanted)
    ∙ c.loop-k.invariant.after in
    elim c.if-contains-row.branch [
      | then-contains-row w ↦ record {
        after = ap left w.items-is ∙ step (insert row 0) (put_in c.contains.result row w.if-contains-row.true);
        still = λ e. absurd (both_ways c.if-contains-row.changed e w.changed-is);
      }
      | else-contains-row w ↦ record {
        after = ap left w.items-is ∙ step row (left_out c.contains.result row w.if-contains-row.false);
        still = λ e. w.items-is ∙ set-get_or rows k [] ∙ c.loop-k.invariant.still (sym w.changed-is ∙ e);
      }
    ]

pub returns : goal.returns
returns c =
    let lines = lines_of c.args.rules.now in
    let rows = c.loop-k.items in
    let k = c.loop-k.k in
    let s = c.args.set.now in
    let end : drop k lines ≡ [] = drop_all k lines (omega (arith, c.requires.rows, length-map c.args.rules.now production_of)) in
    record {
      after = sym (ap (λ q. take k rows ++ opened s q (drop k rows)) end ∙ take-append-drop k rows) ∙ c.loop-k.invariant.after;
      still = c.loop-k.invariant.still;
    }
