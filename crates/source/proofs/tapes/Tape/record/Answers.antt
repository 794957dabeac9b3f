use Rattle.std.proofs.Common.{arith}
use Rattle.std.proofs.lemmas.Grind.{common_steps}
use Rattle.source.proofs.Turns.{tape_rest}
use Rattle.source.proofs.tapes.Tape.record.Goals as goal

pub returns-else-not-is_terminal-clause-rest : goal.returns-else-not-is_terminal-clause-rest
returns-else-not-is_terminal-clause-rest c =
    let t = c.args.self.now in
    tape_rest t.state t.bytes.now t.place c.requires (grind (arith, common_steps)) (grind (arith, common_steps)) (grind (arith, common_steps))
