use Rattle.grammar.proofs.Closing.{closing_means}
use Rattle.grammar.proofs.Meanings.{expansion_means, states_mean, build_means}
use Rattle.grammar.proofs.Moving.{next_means}
use Rattle.grammar.specs.Policies.{policies_lawful}
use Rattle.grammar.proofs.Reaching.{reached_means}
use Rattle.grammar.proofs.Reading.{reads_mean}
use Rattle.grammar.proofs.Yielding.{yields_means}
use Rattle.grammar.proofs.laws.laws_hold.Goals as goal

pub returns : goal.returns
returns c =
    record {
      reached = reached_means;
      yields = yields_means;
      closing = closing_means;
      reads = reads_mean;
      expansion = expansion_means;
      next = next_means;
      policies = policies_lawful;
      states = states_mean;
      build = build_means;
    }
