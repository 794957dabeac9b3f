use Rattle.std.proofs.Common.{◌≡◌, ◌+◌, false, [], ◌∷◌, ◌++◌, length, get_or, take, drop, sym, refl, ap, ◌∙◌, arith, length-set}
use lib.ListN.{length-map}
use Rattle.std.proofs.lemmas.List.{append_assoc, append-nil, drop_all, take_more_set}
use Rattle.book.specs.Held.{production_of}
use Rattle.book.specs.Symbols.{longest_right}
use Rattle.grammar.specs.Items.{before, onward}
use Rattle.grammar.specs.Numbered.{outer}
use Rattle.grammar.proofs.Turns.{at_drops_more}
use Rattle.tables.specs.Kept.{lines_of}
use Rattle.tables.proofs.builds.Build.onward.Goals as goal

pub loop-k-init : goal.loop-k-init
loop-k-init g c = record { long = refl; left = refl }

pub loop-k-preserved : goal.loop-k-preserved
loop-k-preserved g c =
    let lines = lines_of c.args.self.now.related.now.rules.now in
    let items = c.rows-row-items.result.now in
    let x = c.args.symbol in
    let k = c.loop-k.k in
    let next = c.loop-k.rows in
    let v = c.move_row.result in
    let row = take longest_right (get_or items k []) in
    let rest = onward x (drop (k + 1) lines) (drop (k + 1) items) in
    let moved : v ≡ false ∷ before x (get_or lines k outer).rhs row = c.move_row.ensures ∙ ap (λ ws. false ∷ before x ws row) c.right_of.ensures in
    let step : onward x (drop k lines) (drop k items) ≡ (false ∷ before x (get_or lines k outer).rhs row) ∷ rest =
    at_drops_more (onward x) lines items k outer [] (omega (arith, c.rows-row-items.ensures.len, length-map c.args.self.now.related.now.rules.now production_of)) c.loop-k-test.true in
    record {
      long = length-set next k v ∙ c.loop-k.invariant.long;
      left = ap (λ q. q ++ rest) (take_more_set next k v (omega (arith, c.loop-k.invariant.long, c.rows-row-items.ensures.len, c.args.self.now.few))) ∙ append_assoc (take k next) (v ∷ []) rest
          ∙ ap (λ q. take k next ++ q ∷ rest) moved ∙ ap (λ q. take k next ++ q) (sym step) ∙ c.loop-k.invariant.left;
    }

pub returns : goal.returns
returns g c =
    let rs = c.args.self.now.related.now.rules.now in
    let lines = lines_of rs in
    let items = c.rows-row-items.result.now in
    let x = c.args.symbol in
    let k = c.loop-k.k in
    let next = c.loop-k.rows in
    let all : length rs + 1 ≡ k = omega (arith, c.rows-row-items.ensures.len) in
    let end : drop k lines ≡ [] = drop_all k lines (omega (arith, c.rows-row-items.ensures.len, length-map rs production_of)) in
    ap (λ n. take n next) all ∙ sym (ap (λ q. take k next ++ onward x q (drop k items)) end ∙ append-nil (take k next)) ∙ c.loop-k.invariant.left
    ∙ ap (onward x lines) c.rows-row-items.ensures.value
