use Rattle.std.proofs.Common.{◌≡◌, ◌-◌, ◌≤◌, ◌++◌, length, take, drop, ap, ◌∙◌, arith, rules}
use Rattle.std.proofs.lemmas.Bool.Decides.{nat_tests}
use Rattle.book.specs.Answers.{granted, leaves}
use Rattle.book.specs.Held.{production_of, productions_of, rules_of}
use Rattle.book.specs.Rules.{is_well_formed, strike_says, struck}
use Rattle.book.proofs.Admission.{struck_well_formed}
use Rattle.book.proofs.Places.{take_own, struck_out, map_without}
use Rattle.book.proofs.books.Book.strike.Goals as goal

pub returns : goal.returns
returns c =
    let book = c.args.self.now in
    let k = c.args.number in
    let n = length c.rules-n.result.now in
    let low : 1 ≤ k = search rules in
    let high : k ≤ n = search rules in
    let array : length book.rules ≡ 100 = search rules in
    let long : n ≤ length book.rules = omega (arith, c.rules-n.ensures.few) in
    let front : take n book.rules ≡ take book.count.rules book.rules =
    ap (λ rs. take (length rs) book.rules) c.rules-n.ensures.list ∙ take_own book.rules book.count.rules in
    let grants : granted tt ≡ strike_says (rules_of book) k = grind (arith, nat_tests, c.rules-n.ensures.len) in
    let after : _ ≡ struck (rules_of book) k =
    ap productions_of (struck_out book.rules k n _ low high long c.rotate_left.ensures.after)
    ∙ ap (λ rs. productions_of (take (k - 1) rs ++ drop k rs)) front
    ∙ map_without production_of (take book.count.rules book.rules) (k - 1) k
    ∙ ap (λ a. leaves a (λ _. take (k - 1) (rules_of book) ++ drop k (rules_of book)) (rules_of book)) grants in
    record { answer = grants; rules = after; kept = λ w. ap is_well_formed after ∙ struck_well_formed (rules_of book) k w; same = tt }
