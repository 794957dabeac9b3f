use Rattle.std.proofs.Common.{◌≡◌, length, take, drop}
use Rattle.std.specs.List.{flat_map}
use Rattle.book.specs.Files.{record_of}
use Rattle.book.specs.Held.{productions_of}
use Rattle.book.proofs.books.Book.save.Given as goal

abbrev pub invariant-loop-rule : goal.invariant-loop-rule
invariant-loop-rule l =
    (length l.out ≡ length l.initial.out)
    × (l.at ≡ length (flat_map record_of (productions_of (take l.rule-index l.rules))))
    × (take l.at l.out ≡ flat_map record_of (productions_of (take l.rule-index l.rules)))
    × (drop l.at l.out ≡ drop l.at l.initial.out)
