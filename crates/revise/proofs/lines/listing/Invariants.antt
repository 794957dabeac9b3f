use Rattle.std.proofs.Common.{◌≡◌, ◌+◌, ◌++◌, drop, string_bytes}
use Rattle.book.specs.Held.{productions_of}
use Rattle.revise.specs.Lines.{list_text}
use Rattle.revise.proofs.lines.listing.Given as goal

abbrev pub invariant-loop-i : goal.invariant-loop-i
invariant-loop-i l = string_bytes l.text ++ list_text (l.i + 1) (productions_of (drop l.i l.rules)) ≡ list_text 1 (productions_of l.rules)
