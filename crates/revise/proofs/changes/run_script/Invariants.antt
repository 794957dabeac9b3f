use Rattle.std.proofs.Common.{◌≡◌, ◌+◌, ◌++◌, length, drop, string_bytes}
use Rattle.book.specs.Held.{rules_of}
use Rattle.revise.specs.Scripts.{cut}
use Rattle.revise.specs.Runs.{lines_leave, lines_text, script_leaves, script_text}
use Rattle.revise.proofs.changes.run_script.Given as goal

abbrev pub invariant-loop-i : goal.invariant-loop-i
invariant-loop-i l =
    (lines_leave (rules_of l.book) (drop (length l.yielded) (cut 10 l.script)) ≡ script_leaves (rules_of l.initial.book) l.script)
    × (string_bytes l.report ++ lines_text (length l.yielded + 1) (rules_of l.book) (drop (length l.yielded) (cut 10 l.script)) ≡ script_text (rules_of l.initial.book) l.script)
