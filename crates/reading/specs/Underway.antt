-- A read under way, as the definition of reading sees it.
use Rattle.std.specs.Prelude.{◌≡◌, ℕ, ◌≤◌, List, length, drop, Option}
use Rattle.book.specs.Held.{productions_of}
use Rattle.source.specs.Streams.{Stream}
use Rattle.grammar.specs.Meaning.{Move}
use Rattle.tables.specs.Built.{table_of}
use Rattle.reading.specs.declared.outcomes.Verdict.{Verdict}
use Rattle.reading.specs.declared.turns.Read.{Read}
use Rattle.reading.specs.Trees.{StepOfNode}
use Rattle.reading.specs.Tables.{next_in, action_in}
use Rattle.reading.specs.Reading.{SpannedSymbol, Turned, top_state, acting, turn_from}
use Rattle.reading.specs.Held.{stack_of, pending_of}
use Rattle.reading.specs.Told.{written_in, turned_by}

module _ {S : Type 0} where
  -- the steps written so far
  abbrev pub steps_of : Read S → List StepOfNode
  steps_of r = written_in r.progress.steps r.steps.now

  -- what the next turn leads to, where the source means s
  abbrev pub turn_of : Read S → Stream → Turned
  turn_of r s = turn_from (productions_of r.rules.now) 0 (next_in (table_of r.tables.now)) (action_in (table_of r.tables.now)) s.ending (length r.steps.now) (stack_of r.stacks.now) (pending_of r.stacks.now) s.tokens r.progress.words r.progress.place (steps_of r)

  -- what an action leads to at the symbol x
  abbrev pub act_of : Read S → Stream → Option Move → SpannedSymbol → Turned
  act_of r s m x = acting (productions_of r.rules.now) 0 (next_in (table_of r.tables.now)) (action_in (table_of r.tables.now)) s.ending (length r.steps.now) m (stack_of r.stacks.now) x (pending_of r.stacks.now) s.tokens r.progress.words r.progress.place (steps_of r)

  -- the action of the top state at a symbol
  abbrev pub action_of : Read S → ℕ → Option Move
  action_of r x = action_in (table_of r.tables.now) (top_state 0 (stack_of r.stacks.now)) x

  -- what a turn has led to: a read that goes on from here, or the answer with the verdict
  abbrev pub led_to : Option Verdict → Read S → Stream → Turned
  led_to v r s = turned_by v r.stacks.now s.tokens r.progress (steps_of r)

  -- the same stacks, source and list, whatever they hold
  pub record SameLoans (before after : Read S) : Type 0 where
    pub stacks : after.stacks.ghost_name ≡ before.stacks.ghost_name
    pub source : after.source.ghost_name ≡ before.source.ghost_name
    pub list : after.steps.ghost_name ≡ before.steps.ghost_name

  -- what a turn leaves: the same tables, rules and loans; of the list as many places, those past the steps written as they were
  pub record Onward (before after : Read S) : Type 0 where
    pub tables : after.tables ≡ before.tables
    pub rules : after.rules ≡ before.rules
    pub loans : SameLoans before after
    pub long : length after.steps.now ≡ length before.steps.now
    pub back : drop after.progress.steps after.steps.now ≡ drop after.progress.steps before.steps.now
    pub more : before.progress.steps ≤ after.progress.steps
