use Rattle.std.proofs.Common.{◌≡◌, ◌-◌, ◌≤◌, length, drop}
use Rattle.book.specs.Files.{load_from, load_says}
use Rattle.book.specs.Held.{rules_of}
use Rattle.book.proofs.books.Book.load_all.Given as goal

abbrev pub invariant-loop-width : goal.invariant-loop-width
invariant-loop-width l =
    (l.place ≤ length l.bytes)
    × (load_from (drop l.place l.bytes) 0 (rules_of l.self) l.place ≡ load_says l.bytes)

abbrev pub decreases-loop-width : goal.decreases-loop-width
decreases-loop-width l = length l.bytes - l.place
