use Rattle.std.proofs.Common.{◌≡◌, ◌-◌, map, length}
use Rattle.book.specs.Held.{productions_of}
use Rattle.grammar.specs.Items.{is_complete}
use Rattle.grammar.specs.Lookahead.{slr, lookahead_of, overlap, slr_conflicting}
use Rattle.grammar.specs.Numbered.{numbered}
use Rattle.grammar.specs.Relating.{related_in}
use Rattle.grammar.specs.Sets.{keep, up_from}
use Rattle.grammar.proofs.lookaheads.is_conflicting.Given as goal

abbrev pub invariant-loop-number : goal.invariant-loop-number
invariant-loop-number l =
    overlap l.seen (map (lookahead_of (slr (related_in l.related) l.closed))
    (keep (is_complete (numbered (productions_of l.related.rules.now)) l.closed) (up_from l.number (length (numbered (productions_of l.related.rules.now)) - l.number))))
    ≡ slr_conflicting (related_in l.related) l.closed
