use Rattle.std.proofs.Common.{◌≡◌, ap, ◌∙◌, rules}
use Rattle.book.specs.Held.{production_of, rules_of}
use Rattle.book.specs.Rules.{◌⟶◌, holds, entered, is_well_formed}
use Rattle.book.proofs.Admission.{entered_well_formed}
use Rattle.book.proofs.Equal.{contains_holds}
use Rattle.book.proofs.books.Book.enter.Goals as goal
use Rattle.book.proofs.books.Book.enter.Goals.{After-contains}

found : (c : After-contains) → c.contains.result ≡ holds (rules_of c.args.self.now) (production_of c.in_ok-rule.rule)
found c =
    let held = production_of c.in_ok-rule.rule in
    c.contains.ensures.value ∙ contains_holds c.rules-2.result.now c.in_ok-rule.rule ∙ ap (λ ps. holds ps held) c.rules-2.ensures.value

pub returns-then-contains-clause-answer : goal.returns-then-contains-clause-answer
returns-then-contains-clause-answer c = let f = found (goal.at.returns-then-contains-clause-answer c).After-contains in search rules

pub returns-then-contains-clause-rules : goal.returns-then-contains-clause-rules
returns-then-contains-clause-rules c = let f = found (goal.at.returns-then-contains-clause-rules c).After-contains in search rules

pub returns : goal.returns
returns c =
    let before = rules_of c.args.self.now in
    let p = c.args.left ⟶ c.args.right.now in
    let f = found (goal.at.returns c).After-contains in
    let after : rules_of c.push.new.self ≡ entered before p = search rules in
    record { answer = search rules; rules = after; kept = λ w. ap is_well_formed after ∙ entered_well_formed before p w; same = tt }
