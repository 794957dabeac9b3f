use Rattle.std.proofs.Common.{◌≡◌, ◌+◌, ◌-◌, ◌≤◌}
use Rattle.reading.specs.Reading.{most_words, covered}
use Rattle.reading.specs.Held.{stack_of, pending_of, words_under}
use Rattle.reading.proofs.piles.Stacks.covered.Given as goal

abbrev pub invariant-loop : goal.invariant-loop
invariant-loop l = record {
  covers : covered (l.count - l.counter) (stack_of l.self) l.span.first l.span.width ≡ covered l.count (stack_of l.initial.self) 0 0;
  few : words_under (stack_of l.self) + l.span.width ≤ most_words;
  pending : pending_of l.self ≡ pending_of l.initial.self;
}
