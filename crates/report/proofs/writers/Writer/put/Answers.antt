use Rattle.std.proofs.Common.{rules}
use Rattle.std.proofs.lemmas.Slice.{overwrites}
use Rattle.report.proofs.writers.Writer.put.Goals as goal

pub returns : goal.returns
returns c = record {
  same = search rules;
  size = search rules;
  puts = record { next = search rules; front = search (rules, overwrites); back = search (rules, overwrites) };
}
