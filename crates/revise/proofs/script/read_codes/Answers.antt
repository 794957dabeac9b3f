use Rattle.std.proofs.Common.{◌≡◌, ◌+◌, ◌++◌, eqb, [], ◌∷◌, length, drop, vec_items, sym, ap, ◌∙◌, length-append, rules, tests}
use Rattle.std.proofs.lemmas.Iterator.Consumers.{YieldsList-at, YieldsList-turn, YieldsList-end}
use Rattle.std.proofs.lemmas.Iterator.Splits.{YieldsList-from_slice_split}
use Rattle.std.specs.Option.{option_map}
use Rattle.revise.specs.Scripts.{cut, numbers_of}
use Rattle.revise.proofs.Numbers.{numbers_step, numbers_none, numbers_end}
use Rattle.revise.proofs.Pieces.{piece_at, piece_end}
use Rattle.revise.proofs.script.read_codes.Goals as goal

pub returns-in_default : goal.returns-in_default
returns-in_default c =
    let text = c.args.text.now in
    let turn = YieldsList-turn
    (YieldsList-at c.into_iter-word-iterator.ensures.into_iter_gives
    (YieldsList-from_slice_split _ (λ b. eqb b 32) text c.split-word-items.ensures.rest c.split-word-items.ensures.done c.split-word-items.ensures.closure (λ x r q k. search (rules, tests))))
    c.loop-word.yielded _ c.loop-word.yielded_by _ _ c.in-Some.word c.in-Some.is c.next.ensures.steps in
    let cuts = piece_at 32 text (length c.loop-word.yielded) c.in-Some.word.now turn.0 turn.1 in
    numbers_none 255 (vec_items c.loop-word.read) c.in-Some.word.now _ _ cuts (sym c.in_default.is ∙ c.number.ensures.value) ∙ c.loop-word.invariant.1

pub loop-word-preserved : goal.loop-word-preserved
loop-word-preserved c =
    let text = c.args.text.now in
    let n = length c.loop-word.yielded in
    let turn = YieldsList-turn
    (YieldsList-at c.into_iter-word-iterator.ensures.into_iter_gives
    (YieldsList-from_slice_split _ (λ b. eqb b 32) text c.split-word-items.ensures.rest c.split-word-items.ensures.done c.split-word-items.ensures.closure (λ x r q k. search (rules, tests))))
    c.loop-word.yielded _ c.loop-word.yielded_by _ _ c.in-Some.word c.in-Some.is c.next.ensures.steps in
    let cuts = piece_at 32 text n c.in-Some.word.now turn.0 turn.1 in
    let more : length (c.loop-word.yielded ++ c.in-Some.word ∷ []) ≡ n + 1 = length-append c.loop-word.yielded (c.in-Some.word ∷ []) in (
      (search rules, search rules),
      ap (λ k. option_map (λ ns. vec_items c.push.new.self ++ ns) (numbers_of 255 (drop k (cut 32 text)))) more
          ∙ numbers_step 255 (vec_items c.loop-word.read) _ c.in-Some.word.now _ _ c.in-Some-number.code c.in_ok-push.ensures.items cuts c.in-Some-number.ensures.value
          ∙ c.loop-word.invariant.1,
    )

pub returns : goal.returns
returns c =
    let text = c.args.text.now in
    let all = YieldsList-end
    (YieldsList-at c.into_iter-word-iterator.ensures.into_iter_gives
    (YieldsList-from_slice_split _ (λ b. eqb b 32) text c.split-word-items.ensures.rest c.split-word-items.ensures.done c.split-word-items.ensures.closure (λ x r q k. search (rules, tests))))
    c.loop-word.yielded _ c.loop-word.yielded_by _ _ c.in-None.is c.next.ensures.steps in
    numbers_end 255 (vec_items c.loop-word.read) _ (piece_end 32 text (length c.loop-word.yielded) all.1) ∙ c.loop-word.invariant.1
