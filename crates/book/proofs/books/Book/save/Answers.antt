use Rattle.std.proofs.Common.{◌≡◌, ◌+◌, ◌≤◌, [], ◌∷◌, ◌++◌, length, take, drop, sym, ap, ◌∙◌, ap₂, arith, take_all}
use Rattle.std.proofs.lemmas.List.{take-append-drop}
use Rattle.std.proofs.lemmas.Bool.Decides.{nat_tests}
use Rattle.std.specs.List.{flat_map}
use Rattle.book.specs.Answers.{granted, leaves}
use Rattle.book.specs.Files.{record_of, file_of, save_says, load_says}
use Rattle.book.specs.Held.{production_of, rules_of}
use Rattle.book.proofs.Records.{records_of, records_more, length_records_more, records_within, length_file, back_on}
use Rattle.book.proofs.RoundTrip.{saved_loads}
use Rattle.book.proofs.books.Book.save.Goals as goal
use Rattle.book.proofs.books.Book.save.Goals.{After-rules-rules, After-loop-rule}

-- the records of all the rules
all_records : (c : After-rules-rules) → records_of c.rules-rules.result.now ≡ flat_map record_of (rules_of c.args.self.now)
all_records c = ap (flat_map record_of) c.rules-rules.ensures.value

-- the records and the closing record find room
room : (c : After-rules-rules) → length (records_of c.rules-rules.result.now) + 2 ≤ length c.args.out.now
room c = omega (arith, ap length (all_records c), length_file (rules_of c.args.self.now), c.if-out-file_size.false, c.file_size.ensures)

pub put_record-at-requires : goal.put_record-at-requires
put_record-at-requires c =
    let rs = c.rules-rules.result.now in
    let i = c.loop-rule.rule-index in
    omega (arith, room (goal.at.put_record-at-requires c).After-rules-rules, records_within rs (i + 1), length_records_more rs i c.rule-item.result c.loop-rule-test.true c.rule-item.is, c.loop-rule.invariant.0, c.loop-rule.invariant.1)

pub loop-rule-preserved : goal.loop-rule-preserved
loop-rule-preserved c =
    let rs = c.rules-rules.result.now in
    let i = c.loop-rule.rule-index in
    let put = c.put_record-at.ensures in
    let more = records_more rs i c.rule-item.result c.loop-rule-test.true c.rule-item.is in
    let front = put.front ∙ ap (λ t. t ++ record_of (production_of c.rule-item.result)) c.loop-rule.invariant.2 ∙ sym more in (
      omega (arith, c.put_record-at.auto.out, c.loop-rule.invariant.0),
      omega (arith, put.next, c.loop-rule.invariant.1, length_records_more rs i c.rule-item.result c.loop-rule-test.true c.rule-item.is),
      front,
      put.back ∙ back_on _ _ c.loop-rule.at c.put_record-at.result (omega (arith, put.next)) c.loop-rule.invariant.3,
    )

pub returns : goal.returns
returns c =
    let rs = c.rules-rules.result.now in
    let rules = rules_of c.args.self.now in
    let out = c.args.out.now in
    let written = c.put.new.out in
    let end = c.put.result in
    let all : records_of (take c.loop-rule.rule-index rs) ≡ flat_map record_of rules =
    ap records_of (take_all c.loop-rule.rule-index rs c.loop-rule-test.false) ∙ all_records (goal.at.returns c).After-rules-rules in
    let size : end ≡ length (file_of rules) = omega (arith, c.put.ensures.next, c.loop-rule.invariant.1, ap length all, length_file rules) in
    let front : take end written ≡ file_of rules =
    c.put.ensures.front ∙ ap₂ (λ t n. t ++ 7 ∷ n ∷ []) (c.loop-rule.invariant.2 ∙ all) c.rules-rules.ensures.len in
    let back : drop end written ≡ drop end out =
    c.put.ensures.back ∙ back_on _ _ c.loop-rule.at end (omega (arith, c.put.ensures.next)) c.loop-rule.invariant.3 in
    let fits : length (file_of rules) ≤ length out = omega (arith, c.if-out-file_size.false, c.file_size.ensures) in
    let grants : granted end ≡ save_says rules (length out) = ap granted size ∙ grind (arith, nat_tests, fits) in
    record {
      answer = grants;
      buffer = sym (take-append-drop end written) ∙ ap₂ ◌++◌ front back ∙ ap (λ a. leaves a (λ n. file_of rules ++ drop n out) out) grants;
      loads = λ w. ap load_says front ∙ saved_loads rules w;
    }
