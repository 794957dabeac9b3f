use Rattle.reading.proofs.reading_laws_stand.Goals as goal
use Rattle.reading.proofs.Outcome.{reads_well}
use Rattle.reading.proofs.Limits.{keeps_limits}
use Rattle.reading.proofs.Ended.{answers_always}
use Rattle.reading.proofs.Answered.{answered, one_answer}

-- src/lib.rt:16:1
pub returns : goal.returns
returns c = (record {
  reads_well = reads_well;
  one_answer = λ rules start next action ending cap ps xs ws n at out a c p q. one_answer rules start next action ending cap p q;
  worked_out = λ rules start next action ending cap k ps xs ws n at out a e. answered rules start next action ending cap k ps xs ws n at out a e;
  keeps_limits = keeps_limits;
  answers_always = answers_always;
})
