use Rattle.std.proofs.Common.{◌≡◌, ◌≤◌, ◌^◌, length, ap, arith, rules}
use Rattle.std.specs.List.{flat_map, sum_by}
use Rattle.std.proofs.lemmas.Iterator.{YieldsList-from_slice, YieldsList-from_map}
use Rattle.std.proofs.lemmas.Iterator.Consumers.{sum_by_from_yields_List, fits_by_from_yields_list}
use Rattle.book.specs.Files.{record_of}
use Rattle.book.specs.Held.{rules_of}
use Rattle.book.proofs.Records.{record_len, record_lens, record_lens_bound, length_file}
use Rattle.book.proofs.books.Book.file_size.Goals as goal
use Rattle.book.proofs.books.Book.file_size.Goals.{After-rules, After-sum-records}

few : (c : After-rules) → sum_by record_len c.rules.result.now ≤ 800
few c = omega (arith, record_lens_bound c.rules.result.now, c.rules.ensures.few)

total : (c : After-sum-records) → c.sum-records.result ≡ sum_by record_len c.rules.result.now
total c =
    let rs = c.rules.result.now in
    sum_by_from_yields_List record_len rs c.map.result _ c.sum-records.ensures.ran (YieldsList-from_map _ record_len (YieldsList-from_slice rs cc) c.map.ensures.closure (λ x r q k. search rules))

pub sum-records-requires-clause-fits : goal.sum-records-requires-clause-fits
sum-records-requires-clause-fits c =
    let rs = c.rules.result.now in
    let f = few (goal.at.sum-records-requires-clause-fits c).After-rules in
    fits_by_from_yields_list record_len rs c.map.result (2 ^ 64)
    (YieldsList-from_map _ record_len (YieldsList-from_slice rs cc) c.map.ensures.closure (λ x r q k. search rules)) (omega arith)

pub overflow_add-result : goal.overflow_add-result
overflow_add-result c =
    let at = goal.at.overflow_add-result c in
    let t = total at.After-sum-records in
    let f = few at.After-rules in
    search rules

pub returns : goal.returns
returns c =
    let t = total (goal.at.returns c).After-sum-records in
    let all = ap (λ ps. length (flat_map record_of ps)) c.rules.ensures.value in
    omega (arith, record_lens c.rules.result.now, length_file (rules_of c.args.self.now))
