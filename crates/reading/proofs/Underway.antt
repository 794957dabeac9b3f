-- A read under way, from its first turn to its verdict.
use Rattle.std.proofs.Common.{◌≡◌, ◌≤◌, ℕ, suc, true, List, [], length, drop, Some, None, sym, ap, ◌∙◌}
use Rattle.book.specs.declared.rules.Rule.{Rule}
use Rattle.book.specs.Held.{productions_of}
use Rattle.source.specs.Streams.{Stream, all_terminals}
use Rattle.tables.specs.declared.building.Tables.{Tables}
use Rattle.tables.specs.Built.{table_of}
use Rattle.reading.specs.declared.outcomes.Step.{Step}
use Rattle.reading.specs.declared.outcomes.Verdict.{Verdict}
use Rattle.reading.specs.declared.outcomes.Outcome.{Outcome}
use Rattle.reading.specs.declared.turns.Read.{Read}
use Rattle.reading.specs.Tables.{next_in, action_in}
use Rattle.reading.specs.Reading.{ReadAnswer, codes_of, Turned, turn_from, read_says}
use Rattle.reading.specs.Promise.{Kept}
use Rattle.reading.specs.Building.{Belonging}
use Rattle.reading.specs.Held.{stack_of, pending_of}
use Rattle.reading.specs.Told.{answer_of, after_words, Ready}
use Rattle.reading.specs.Underway.{steps_of, turn_of, led_to, SameLoans, Onward}
use Rattle.reading.proofs.Running.{Going, left_over, rules_bounded, drop_on, going_start, going_on, going_falls, going_ready, going_ends, says_answer, keeps_promise}

-- an outcome and a list of steps answer what a read from the start says, and keep the promise; past the steps the list is as it was
pub record Answers (tables : Tables) (rules : List Rule) (list : List Step) (all : Stream) (o : Outcome) (out : List Step) : Type 0 where
  pub answer : read_says (productions_of rules) 0 (next_in (table_of tables)) (action_in (table_of tables)) (length list) all ≡ Some (answer_of o out)
  pub kept : ∥ Kept (productions_of rules) (codes_of all.tokens) all.ending (length list) (answer_of o out) ∥₁
  pub back : drop o.steps out ≡ drop o.steps list

module _ {S : Type 0} where
  pub same_loans : (a b c : Read S) → SameLoans a b → SameLoans b c → SameLoans a c
  same_loans a b c p q = record { stacks = q.stacks ∙ p.stacks; source = q.source ∙ p.source; list = q.list ∙ p.list }

  -- what is left to be done where the source means s
  abbrev pub left_of : Read S → Stream → ℕ
  left_of r s = left_over (pending_of r.stacks.now) s.tokens r.progress.words (steps_of r)

  -- the outcome with a verdict
  abbrev pub outcome_of : Read S → Verdict → Outcome
  outcome_of r v = record { verdict = v; words = r.progress.words; place = r.progress.place; steps = r.progress.steps }

  module _ (tables : Tables) (rules : List Rule) (list : List Step) (all : Stream) where
    -- a read of a source that meant all has come to r; its source now means s
    pub record Underway (r : Read S) (s : Stream) : Type 0 where
      pub tables_stay : r.tables.now ≡ tables
      pub rules_stay : r.rules.now ≡ rules
      pub long : length r.steps.now ≡ length list
      pub back : drop r.progress.steps r.steps.now ≡ drop r.progress.steps list
      pub source : s ≡ after_words r.progress.words all
      pub going : Going (productions_of rules) (table_of tables) (length list) all (stack_of r.stacks.now) (pending_of r.stacks.now) s.tokens r.progress.words r.progress.place (steps_of r)

    pub underway_start : Belonging (productions_of rules) (table_of tables) → all_terminals all.tokens ≡ true → (r : Read S) (s : Stream) → r.tables.now ≡ tables → r.rules.now ≡ rules → r.steps.now ≡ list
        → s ≡ all → stack_of r.stacks.now ≡ [] → pending_of r.stacks.now ≡ [] → r.progress ≡ record { words = 0; place = 0; steps = 0 } → Underway r s
    underway_start b words r s t q l e stack pending progress = record {
      tables_stay = t;
      rules_stay = q;
      long = ap length l;
      back = ap (drop r.progress.steps) l;
      source = rw progress e;
      going = rw (e, stack, pending, progress) (going_start (productions_of rules) (table_of tables) (length list) all (rules_bounded rules) b words);
    }

    module _ (r : Read S) (s : Stream) (U : Underway r s) where
      abbrev turn : Turned
      turn = turn_from (productions_of rules) 0 (next_in (table_of tables)) (action_in (table_of tables)) all.ending (length list) (stack_of r.stacks.now) (pending_of r.stacks.now) s.tokens r.progress.words r.progress.place (steps_of r)

      same_turn : turn_of r s ≡ turn
      same_turn = let t = U.tables_stay in let q = U.rules_stay in let long = U.long in let ends = ap (λ (z : Stream). z.ending) U.source in cc

      pub underway_ready : Ready (table_of r.tables.now) (stack_of r.stacks.now) (pending_of r.stacks.now) r.progress.words
      underway_ready = rw U.tables_stay (going_ready _ _ _ all U.going)

      module _ (next : Read S) (t : Stream) (led : led_to None next t ≡ turn_of r s) where
        pub underway_falls : suc (left_of next t) ≤ left_of r s
        underway_falls = going_falls _ _ _ all U.going (sym (led ∙ same_turn))

        pub underway_on : t ≡ after_words next.progress.words all → Onward r next → Underway next t
        underway_on e o = record {
          tables_stay = ap (λ b. b.now) o.tables ∙ U.tables_stay;
          rules_stay = ap (λ b. b.now) o.rules ∙ U.rules_stay;
          long = o.long ∙ U.long;
          back = o.back ∙ drop_on r.steps.now list r.progress.steps next.progress.steps o.more U.back;
          source = e;
          going = going_on _ _ _ all U.going (sym (led ∙ same_turn));
        }

      pub underway_ends : Belonging (productions_of rules) (table_of tables) → all_terminals all.tokens ≡ true → (v : Verdict) (next : Read S) (t : Stream) → led_to (Some v) next t ≡ turn_of r s → Onward r next
          → (o : Outcome) (out : List Step) → o ≡ outcome_of next v → out ≡ next.steps.now → Answers tables rules list all o out
      underway_ends b words v next t led on o out said left =
          let bounded = rules_bounded rules in
          let a : ReadAnswer = answer_of (outcome_of next v) next.steps.now in
          let reads = going_ends _ _ _ all U.going a (sym (led ∙ same_turn)) in
          rw (said, left) (record {
            answer = says_answer _ _ _ all bounded b words a reads;
            kept = keeps_promise _ _ _ all bounded b words a reads;
            back = on.back ∙ drop_on r.steps.now list r.progress.steps next.progress.steps on.more U.back;
          })
