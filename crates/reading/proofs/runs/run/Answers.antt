use Rattle.std.proofs.Common.{refl, ap, rules}
use Rattle.reading.proofs.Underway.{same_loans, underway_start, underway_ready, underway_falls, underway_on, underway_ends}
use Rattle.reading.proofs.runs.run.Goals as goal

pub loop-verdict-init : goal.loop-verdict-init
loop-verdict-init g c =
    let new = c.new-read.ensures in
    record {
      underway = underway_start _ _ _ _ c.requires.built (g.S.Source.terminals c.args.source.now) _ _ new.tables new.rules new.steps (ap g.S.Source.means new.source) new.stack new.pending new.progress;
      loans = record { stacks = refl; source = refl; list = refl };
    }

pub turn-requires : goal.turn-requires
turn-requires g c = record { ready = underway_ready _ _ _ _ _ _ c.loop-verdict.invariant.underway }

pub returns-in-Some : goal.returns-in-Some
returns-in-Some g c =
    let next = c.turn.new.self in
    let said = c.in-Some.ensures in
    let ends = underway_ends _ _ _ _ _ _ c.loop-verdict.invariant.underway c.requires.built (g.S.Source.terminals c.args.source.now) c.in-Some.verdict next (g.S.Source.means next.source.now) said.moved said.onward _ _ c.outcome.ensures (search rules) in
    record { answer = ends.answer; kept = ends.kept; within = search rules; back = ends.back; rest = search rules }

pub loop-verdict-smaller : goal.loop-verdict-smaller
loop-verdict-smaller g c = underway_falls _ _ _ _ _ _ c.loop-verdict.invariant.underway c.turn.new.self (g.S.Source.means c.turn.new.self.source.now) c.in_default.ensures.moved

pub loop-verdict-preserved : goal.loop-verdict-preserved
loop-verdict-preserved g c =
    let inv = c.loop-verdict.invariant in
    let said = c.in_default.ensures in
    record {
      underway = underway_on _ _ _ _ _ _ inv.underway c.turn.new.self _ said.moved (said.left _ inv.underway.source) said.onward;
      loans = same_loans _ _ _ inv.loans said.onward.loans;
    }
