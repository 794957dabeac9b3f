use Rattle.std.proofs.Common.{[], ◌∷◌, take, get_or, decimal, sym, ap, ◌∙◌, rules}
use Rattle.std.proofs.lemmas.List.{take_more, flat_map_more}
use Rattle.std.proofs.Output.{has_written_append, has_written_of_eq}
use Rattle.std.specs.List.{flat_map}
use Rattle.revise.proofs.lines.SidesDisplay.fmt.Goals as goal

pub loop-code-preserved : goal.loop-code-preserved
loop-code-preserved g c =
    let xs = c.args.self.now.right.now in
    let i = c.loop-code.code-index in
    let more = flat_map_more (λ w. 32 ∷ decimal w) [] (take i xs) (get_or xs i 0) ∙ ap (flat_map (λ w. 32 ∷ decimal w)) (sym (take_more xs i 0 c.loop-code-test.true)) in
    λ p. has_written_of_eq _ _ _ _ _ more (has_written_append _ _ _ _ _ _ (c.loop-code.invariant p) (search rules))
