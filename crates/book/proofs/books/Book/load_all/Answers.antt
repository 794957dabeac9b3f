use Rattle.std.proofs.Common.{◌≡◌, ◌+◌, ◌-◌, ◌<◌, ◌≤◌, length, take, drop, IfSome, sym, ap, ◌∙◌, subst, ap₂, arith, length-drop, length-take}
use Rattle.std.proofs.lemmas.List.{drop-drop, take_rest}
use Rattle.book.specs.Answers.{granted}
use Rattle.book.specs.Files.{load_from}
use Rattle.book.specs.Held.{rules_of}
use Rattle.book.proofs.Loads.{onward, turn}
use Rattle.book.proofs.books.Book.load_all.Goals as goal

pub loop-width-preserved : goal.loop-width-preserved
loop-width-preserved c =
    let p = c.loop-width.place in
    let w = c.in-Some.width in
    let bytes = c.args.bytes.now in
    let xs = take (length bytes - p) (drop p bytes) in
    let all : xs ≡ drop p bytes = take_rest bytes p in
    let rules = rules_of c.loop-width.self in
    let after = rules_of c.load_record.new.self in
    let said = c.in_ok-width.ensures in
    let grants = ap granted (sym c.in-Some.is) ∙ said.answer in
    let fits : w ≤ length xs = (subst (λ o. IfSome o (λ v. (0 < v) × (v ≤ length xs))) c.in-Some.is said.within).1 in (
      omega (arith, simp (length-take, length-drop) at fits),
      ap (λ t. load_from t 0 after (p + w)) (sym (drop-drop w p bytes) ∙ ap (drop w) (sym all))
          ∙ ap₂ (λ a r. onward a xs r p) grants said.rules
          ∙ sym (turn xs rules p)
          ∙ ap (λ t. load_from t 0 rules p) all
          ∙ c.loop-width.invariant.1,
    )
