use Rattle.std.proofs.Common.{◌≡◌, ℕ, List, [], ◌∷◌, ◌++◌, map, length, get_or, None, sym, ap, ◌∙◌, ap₂, arith, rules}
use lib.ListN.{length-map}
use Rattle.std.proofs.lemmas.List.{take_all, take_more, take_more_set, get_or-map}
use Rattle.tables.specs.declared.actions.Row.{Row}
use Rattle.tables.specs.Acts.{act_of, acts_of, word_of}
use Rattle.tables.proofs.encoding.encode.Goals as goal

words_long : (row : Row) → length (map word_of (acts_of row)) ≡ length row.actions
words_long row = length-map (acts_of row) word_of ∙ length-map row.actions act_of

pub loop-x-preserved : goal.loop-x-preserved
loop-x-preserved c =
    let row = c.args.row.now in
    let out = c.loop-x.out in
    let x = c.loop-x.x in
    let words : List ℕ = map word_of (acts_of row) in
    let array : length row.actions ≡ 81 = search rules in
    let at : get_or words x 0 ≡ word_of (act_of (get_or row.actions x None)) =
    get_or-map word_of (acts_of row) x (act_of None) 0 (omega (arith, length-map row.actions act_of)) ∙ ap word_of (get_or-map act_of row.actions x None (act_of None) (omega arith)) in
    take_more_set out x c.word_of.result (omega (arith, c.requires)) ∙ ap₂ (λ t w. t ++ w ∷ []) c.loop-x.invariant (c.word_of.ensures ∙ sym at) ∙ sym (take_more words x 0 (omega (arith, words_long row)))

pub returns : goal.returns
returns c =
    let row = c.args.row.now in
    let out = c.loop-x.out in
    let x = c.loop-x.x in
    let array : length row.actions ≡ 81 = search rules in
    sym (take_all x out (omega (arith, c.requires))) ∙ c.loop-x.invariant ∙ take_all x (map word_of (acts_of row)) (omega (arith, words_long row))
