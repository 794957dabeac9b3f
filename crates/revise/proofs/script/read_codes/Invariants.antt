use Rattle.std.proofs.Common.{◌≡◌, ◌++◌, length, drop, vec_items}
use Rattle.std.specs.Option.{option_map}
use Rattle.revise.specs.Scripts.{cut, numbers_of}
use Rattle.revise.proofs.script.read_codes.Given as goal

abbrev pub invariant-loop-word : goal.invariant-loop-word
invariant-loop-word l =
    ((goal.iterator-loop-word).can_next l.word-iterator × (goal.iterator-loop-word).is_finite l.word-iterator)
    × (option_map (λ ns. vec_items l.read ++ ns) (numbers_of 255 (drop (length l.yielded) (cut 32 l.text))) ≡ numbers_of 255 (cut 32 l.text))
