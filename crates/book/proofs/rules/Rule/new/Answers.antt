use Rattle.std.proofs.Common.{◌≡◌, ◌≤◌, true, not, length, sym, ap, ◌∙◌, rules, tests}
use Rattle.std.proofs.lemmas.Iterator.{YieldsList-from_slice}
use Rattle.std.proofs.lemmas.Iterator.Search.{position_from_yields_List}
use Rattle.book.specs.Answers.{granted}
use Rattle.book.specs.Rules.{◌⟶◌, is_bounded, first_bad}
use Rattle.book.specs.Symbols.{is_symbol}
use Rattle.book.proofs.Codes.{bounded_from_tests, bounded_granted, copied_front, copied_past, copied_whole, position_first_bad}
use Rattle.book.proofs.rules.Rule.new.Goals as goal
use Rattle.book.proofs.rules.Rule.new.Goals.{After-position, After-copy_from_slice}

found : (c : After-position) → c.position.result ≡ first_bad c.args.right.now
found c =
    position_from_yields_List (λ x. not (is_symbol x)) _ _ _ c.position.ensures.ran (YieldsList-from_slice c.args.right.now cc) (λ x b q k. search (rules, tests))
    ∙ position_first_bad c.args.right.now

-- the sides that were tested keep the bounds
bounds : (c : After-copy_from_slice) → c.position.result ≡ first_bad c.args.right.now → is_bounded (c.args.left ⟶ c.args.right.now) ≡ true
bounds c f =
    let low : 1 ≤ length c.args.right.now = search rules in
    let high : length c.args.right.now ≤ 6 = search rules in
    bounded_from_tests (c.args.left ⟶ c.args.right.now) (sym c.if-not-is_nonterminal.ensures) low high (sym f ∙ c.in_default.is)

pub returns-in-Some : goal.returns-in-Some
returns-in-Some c =
    let f = found (goal.at.returns-in-Some c).After-position in search rules

pub invariant_of-result : goal.invariant_of-result
invariant_of-result c =
    let at = goal.at.invariant_of-result c in
    let right = c.args.right.now in
    let copied = c.copy_from_slice.new.self in
    let same : copied ≡ right = c.copy_from_slice.ensures.after in
    record {
      short = search rules;
      bounded = ap (λ ws. is_bounded (c.args.left ⟶ ws)) (copied_front right copied same _) ∙ bounds at.After-copy_from_slice (found at.After-position);
      whole = copied_whole right copied same (search rules);
      padded = copied_past right copied same;
    }

pub returns : goal.returns
returns c =
    let at = goal.at.returns c in
    let p = c.args.left ⟶ c.args.right.now in
    ap (λ ws. granted (c.args.left ⟶ ws)) (copied_front c.args.right.now c.copy_from_slice.new.self c.copy_from_slice.ensures.after _)
    ∙ sym (bounded_granted p (bounds at.After-copy_from_slice (found at.After-position)))
