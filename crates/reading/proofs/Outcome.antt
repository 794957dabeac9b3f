-- A read keeps its promise.
use Rattle.std.proofs.Common.{◌≡◌, ℕ, ◌+◌, ◌*◌, ◌<◌, ◌≤◌, true, false, List, [], ◌∷◌, ◌++◌, length, sym, refl, ap, ◌∙◌, subst, subst₂, append_assoc, append-nil, arith, length-append}
use Rattle.book.specs.Answers.{refused, no}
use Rattle.source.specs.Streams.{Token, Ending, fault, all_terminals}
use Rattle.book.specs.Symbols.{is_terminal}
use Rattle.std.proofs.lemmas.Bool.{and_parts}
use Rattle.reading.specs.Promise.{EndsCleanly, AllUseful, Fitting, Listed, Kept, ReadsWell}
use Rattle.reading.specs.Trees.{Tree, Forest, none, leaves_of, MadeAll, Derives, StepOfNode, widths_of, tree_steps, forest_steps, total_of, SameSteps, same_step, count_of, nodes_of}
use Rattle.reading.specs.Tables.{Faithful}
use Rattle.reading.specs.Reader.{Pile, base, push, go, stuck, top_of, next_symbol, step_from, Runs, run_done, run_go, as_leaves, stack_width, writes_at, written_by, AllTerminals}
use Rattle.reading.specs.Reading.{codes_of, SpannedSymbol, StackedSymbol, accepted, ReadAnswer, on, halt, Reads, stops, goes}
use Rattle.book.specs.Rules.{Production, all_bounded}
use Rattle.reading.proofs.Complete.{complete, unique}
use Rattle.reading.proofs.Stepping.{Sane, sane_step, stepped, MadeStack}
use Rattle.reading.proofs.Sound.{sane_start, sound}
use Rattle.reading.proofs.Basics.{zero_one}
use Rattle.reading.proofs.Accepting.{Accepted, accepted as accepted-at}
use Rattle.reading.proofs.Written.{stack_steps, balance, writes_steps, total-++, no_steps}
use Rattle.reading.proofs.Bounds.{nodes_bound, nodes_of_bound}
use Rattle.reading.proofs.Once.{once}
use Rattle.reading.proofs.Spans.{Shows, Seen, quiet, stepping, full, lost, finished, long, faulty, sees}
use Rattle.reading.proofs.Counting.{length_leaves_of, length_under, each, total_each, each_nodes, each_nodes_of, nodes-⁺, made-⁺}

module _ (rules : List Production) (T : Faithful rules) (bounded : all_bounded rules ≡ true) (ending : Ending) (cap : ℕ) (toks : List Token) where
  abbrev line : List ℕ
  line = codes_of toks

  open T use {start_state, next_state, action_at}

  abbrev Rd : List StackedSymbol → List SpannedSymbol → List Token → ℕ → ℕ → List StepOfNode → ReadAnswer → Type 0
  Rd ps xs ws n pl out a = Reads rules start_state next_state action_at ending cap ps xs ws n pl out a

  abbrev says : Pile → Forest → List StepOfNode
  says σ ρ = writes_at rules (action_at (top_of start_state σ) (next_symbol rules ρ)) σ

  -- what an answer tells of the runs of the reader without limits
  data Tells (out : List StepOfNode) (σ : Pile) (ρ : Forest) : ReadAnswer → Type 0 where
    t_yes : {n pl : ℕ} {out' : List StepOfNode} {t : Tree} (r : Runs rules T σ ρ t) → out' ≡ out ++ written_by rules T r → length out' ≤ cap → EndsCleanly ending → length line ≤ 1000 → Tells out σ ρ (record { read_verdict = accepted; words_taken = n; place_taken = pl; steps_written = out' })
    t_lost : {n pl : ℕ} {out' : List StepOfNode} → ((t : Tree) → Runs rules T σ ρ t → ⊥) → Tells out σ ρ (record { read_verdict = refused (no 13 []); words_taken = n; place_taken = pl; steps_written = out' })
    t_full : {n pl : ℕ} {out' : List StepOfNode} → ((t : Tree) (r : Runs rules T σ ρ t) → cap < length out + length (written_by rules T r)) → Tells out σ ρ (record { read_verdict = refused (no 14 []); words_taken = n; place_taken = pl; steps_written = out' })
    t_long : {n pl : ℕ} {out' : List StepOfNode} → 1000 < length line → Tells out σ ρ (record { read_verdict = refused (no 12 []); words_taken = n; place_taken = pl; steps_written = out' })
    t_fault : {n k pl : ℕ} {out' : List StepOfNode} → ending ≡ fault k pl → Tells out σ ρ (record { read_verdict = refused (no 11 (k ∷ pl ∷ [])); words_taken = n; place_taken = pl; steps_written = out' })

  -- a run goes by the step
  rest_of : {σ σ' : Pile} {ρ ρ' : Forest} {t : Tree} → step_from rules T σ ρ ≡ go σ' ρ' → (r : Runs rules T σ ρ t) → (r' : Runs rules T σ' ρ' t) × (written_by rules T r ≡ says σ ρ ++ written_by rules T r')
  rest_of e (run_done d) = absurd (zero_one (cc))
  rest_of {σ} {σ'} {ρ} {ρ'} {t} e (run_go {σ' = σ₁} {ρ' = ρ₁} d r) =
      let p : σ₁ ≡ σ' = cc in
      let q : ρ₁ ≡ ρ' = cc in
      subst₂ (λ x y. (r' : Runs rules T x y t) × (written_by rules T {σ = σ} {ρ = ρ} (run_go d r) ≡ says σ ρ ++ written_by rules T r')) p q (r, refl)

  no_run : {σ : Pile} {ρ : Forest} {t : Tree} → step_from rules T σ ρ ≡ stuck → Runs rules T σ ρ t → ⊥
  no_run e (run_done d) = zero_one (cc)
  no_run e (run_go d r) = zero_one (cc)

  lift : {out out' : List StepOfNode} {σ σ' : Pile} {ρ ρ' : Forest} {a : ReadAnswer} → step_from rules T σ ρ ≡ go σ' ρ' → out' ≡ out ++ says σ ρ → Tells out' σ' ρ' a → Tells out σ ρ a
  lift {out} {out'} {σ} {σ'} {ρ} e o (t_yes r q k c f) =
      t_yes (run_go e r) (q ∙ ap (λ l. l ++ written_by rules T r) o ∙ append_assoc out (says σ ρ) (written_by rules T r)) k c f
  lift {out} {out'} {σ} {σ'} {ρ} e o (t_lost h) = t_lost (λ t r. h t (rest_of e r).0)
  lift {out} {out'} {σ} {σ'} {ρ} e o (t_full h) = t_full (λ t r.
      let (r', w) = rest_of e r in
      let k = h t r' in
      let l₁ : length (written_by rules T r) ≡ length (says σ ρ) + length (written_by rules T r') = ap length w ∙ length-append (says σ ρ) (written_by rules T r') in
      let l₂ : length out' ≡ length out + length (says σ ρ) = ap length o ∙ length-append out (says σ ρ) in
      omega arith)
  lift e o (t_long h) = t_long h
  lift e o (t_fault h) = t_fault h

  pub shows_start : Shows rules T bounded ending cap [] [] toks 0 base (as_leaves line)
  shows_start = record {
    π = none;
    fin = false;
    is_ps = refl;
    is_xs = refl;
    is_n = omega arith;
    is_ρ = refl;
    is_fin = λ f. absurd (zero_one (cc));
    is_clean = λ f. absurd (zero_one (cc));
    is_few = omega arith;
  }

  line_length : {σ : Pile} {ρ : Forest} → Sane rules T line σ ρ → length line ≡ stack_width σ + widths_of ρ
  line_length {σ} {ρ} N = let h = ap length N.covers in let g = length_under σ (leaves_of ρ []) in let k = length_leaves_of ρ [] in omega arith

  at_stop : {out : List StepOfNode} {n : ℕ} {σ : Pile} {ρ : Forest} {a : ReadAnswer} → Seen rules T bounded ending cap σ ρ out n (halt a) → Sane rules T line σ ρ → length out ≤ cap → Tells out σ ρ a
  at_stop {out} {n} {σ} {ρ} (full e c l) N h = t_full (λ t r.
      let (r', w) = rest_of e r in
      let k : length (written_by rules T r) ≡ length (says σ ρ) + length (written_by rules T r') = ap length w ∙ length-append (says σ ρ) (written_by rules T r') in
      omega arith)
  at_stop (lost e) N h = t_lost (λ t r. no_run e r)
  at_stop {out} {n} {σ} {ρ} (finished {t = t} e c f) N h =
      let A : Accepted rules T bounded σ ρ t = accepted-at rules T bounded N.linked N.made_ρ e in
      let k = line_length N in
      let z : widths_of ρ ≡ 0 = ap widths_of A.nothing in
      t_yes (run_done e) (sym (append-nil out)) h (c A.nothing) (omega arith)
  at_stop (long l k) N h = let g = line_length N in t_long (omega arith)
  at_stop (faulty e) N h = t_fault e

  at_go : {out : List StepOfNode} {n : ℕ} {σ : Pile} {ρ : Forest} {a : ReadAnswer} {ps : List StackedSymbol} {xs : List SpannedSymbol} {ws : List Token} {m pl : ℕ} {out' : List StepOfNode}
      → Seen rules T bounded ending cap σ ρ out n (on ps xs ws m pl out') → Sane rules T line σ ρ → length out ≤ cap
      → ((σ' : Pile) (ρ' : Forest) → Shows rules T bounded ending cap ps xs ws m σ' ρ' → Sane rules T line σ' ρ' → length out' ≤ cap → Tells out' σ' ρ' a) → Tells out σ ρ a
  at_go {out} {n} {σ} {ρ} (quiet S) N h go_on = go_on σ ρ S N h
  at_go (stepping {σ' = σ'} {ρ' = ρ'} e S o k) N h go_on = lift e o (go_on σ' ρ' S (sane_step rules T N e) (k h))

  outcome : {ps : List StackedSymbol} {xs : List SpannedSymbol} {ws : List Token} {n pl : ℕ} {out : List StepOfNode} {a : ReadAnswer} → Rd ps xs ws n pl out a → (σ : Pile) (ρ : Forest) → Shows rules T bounded ending cap ps xs ws n σ ρ → Sane rules T line σ ρ → length out ≤ cap → Tells out σ ρ a
  outcome {out = out} {a = a} (stops {n = n} {at = pl} e) σ ρ S N h = at_stop (subst (Seen rules T bounded ending cap σ ρ out n) e (sees rules T bounded ending cap pl out S N.linked)) N h
  outcome {out = out} {a = a} (goes {n = n} {at = pl} e r) σ ρ S N h = at_go (subst (Seen rules T bounded ending cap σ ρ out n) e (sees rules T bounded ending cap pl out S N.linked)) N h (outcome r)

  -- how many steps were written, at each point
  module _ (useful : AllUseful rules) where
    stack_few : (σ : Pile) → MadeStack rules T σ → total_of each (stack_steps σ) ≤ 80 * stack_width σ
    stack_few base m = omega arith
    stack_few (push σ t s) m =
        let h = stack_few σ m.0 in
        let g = nodes_bound rules T bounded useful t m.1 in
        let k = total-++ each (stack_steps σ) (tree_steps t (stack_width σ)) in
        let e = each_nodes t (stack_width σ) in
        omega arith

    pub few_here : {ps : List StackedSymbol} {xs : List SpannedSymbol} {ws : List Token} {n : ℕ} {σ : Pile} {ρ : Forest} → Shows rules T bounded ending cap ps xs ws n σ ρ → Sane rules T line σ ρ
        → total_of each (stack_steps σ) + total_of each (forest_steps ρ (stack_width σ)) ≤ 80 * n
    few_here {ws = ws} {n = n} {σ = σ} {ρ = ρ} S N =
        let h = stack_few σ N.made_σ in
        let e₁ = each_nodes_of ρ (stack_width σ) in
        let e₂ : nodes_of ρ ≡ nodes_of S.π = ap nodes_of S.is_ρ ∙ nodes-⁺ S.π (codes_of ws) in
        let m : MadeAll rules S.π = made-⁺ rules S.π (as_leaves (codes_of ws)) (subst (MadeAll rules) S.is_ρ N.made_ρ) in
        let g = nodes_of_bound rules T bounded useful S.π m in
        let k : n ≡ stack_width σ + widths_of S.π = S.is_n in
        omega arith

    few_stop : {out : List StepOfNode} {n : ℕ} {σ : Pile} {ρ : Forest} {a : ReadAnswer} → Seen rules T bounded ending cap σ ρ out n (halt a) → length out ≤ 80 * n → length a.steps_written ≤ 80 * a.words_taken
    few_stop (full e c l) h = h
    few_stop (lost e) h = h
    few_stop (finished e c f) h = h
    few_stop (long l k) h = omega arith
    few_stop (faulty e) h = h

    few_go : (a : ReadAnswer) {out : List StepOfNode} {n : ℕ} {σ : Pile} {ρ : Forest} {ps : List StackedSymbol} {xs : List SpannedSymbol} {ws : List Token} {m pl : ℕ} {out' : List StepOfNode}
        → Seen rules T bounded ending cap σ ρ out n (on ps xs ws m pl out') → Sane rules T line σ ρ → length out ≡ total_of each (stack_steps σ) + total_of each (forest_steps ρ (stack_width σ))
        → ((σ' : Pile) (ρ' : Forest) → Shows rules T bounded ending cap ps xs ws m σ' ρ' → Sane rules T line σ' ρ' → length out' ≡ total_of each (stack_steps σ') + total_of each (forest_steps ρ' (stack_width σ')) → length a.steps_written ≤ 80 * a.words_taken)
        → length a.steps_written ≤ 80 * a.words_taken
    few_go a {out} {n} {σ} {ρ} (quiet S) N h go_on = go_on σ ρ S N h
    few_go a {out} {n} {σ} {ρ} {out' = out'} (stepping {σ' = σ'} {ρ' = ρ'} e S o k) N h go_on =
        let l₁ : length out' ≡ length out + length (says σ ρ) = ap length o ∙ length-append out (says σ ρ) in
        let l₂ = total_each (says σ ρ) in
        let l₃ = balance rules T bounded each {σ = σ} {σ' = σ'} {ρ = ρ} {ρ' = ρ'} (stepped rules T N.linked e) in
        go_on σ' ρ' S (sane_step rules T N e) (omega arith)

    few : {ps : List StackedSymbol} {xs : List SpannedSymbol} {ws : List Token} {n pl : ℕ} {out : List StepOfNode} {a : ReadAnswer} → Rd ps xs ws n pl out a → (σ : Pile) (ρ : Forest) → Shows rules T bounded ending cap ps xs ws n σ ρ → Sane rules T line σ ρ
        → length out ≡ total_of each (stack_steps σ) + total_of each (forest_steps ρ (stack_width σ)) → length a.steps_written ≤ 80 * a.words_taken
    few {out = out} (stops {n = n} {at = pl} e) σ ρ S N h =
        let k = few_here S N in
        few_stop (subst (Seen rules T bounded ending cap σ ρ out n) e (sees rules T bounded ending cap pl out S N.linked)) (omega arith)
    few {out = out} {a = a} (goes {n = n} {at = pl} e r) σ ρ S N h = few_go a (subst (Seen rules T bounded ending cap σ ρ out n) e (sees rules T bounded ending cap pl out S N.linked)) N h (few r)

    -- the promise
    module _ (words : AllTerminals line) where
      length_steps : (xs ys : List StepOfNode) → SameSteps xs ys → length xs ≡ length ys
      length_steps xs ys h = let e = h each in let a = total_each xs in let c = total_each ys in omega arith

      to_accepts : {a : ReadAnswer} → Tells [] base (as_leaves line) a → a.read_verdict ≡ accepted → (EndsCleanly ending) × (length line ≤ 1000) × Fitting rules line cap
      to_accepts (t_yes {t = t} r o k c f) e =
          let l = length_steps (written_by rules T r) (tree_steps t 0) (writes_steps rules T bounded line t words r) in
          let g = ap length o in
          (c, f, record { tree = t; derives = sound rules T bounded line t words r; fits = omega arith })
      to_accepts (t_lost h) e = absurd (zero_one (cc))
      to_accepts (t_full h) e = absurd (zero_one (cc))
      to_accepts (t_long h) e = absurd (zero_one (cc))
      to_accepts (t_fault h) e = absurd (zero_one (cc))

      of_accepts : {a : ReadAnswer} → Tells [] base (as_leaves line) a → EndsCleanly ending → length line ≤ 1000 → Fitting rules line cap → a.read_verdict ≡ accepted
      of_accepts (t_yes r o k c f) e l F = refl
      of_accepts (t_lost h) e l F = absurd (h F.tree (complete rules T bounded F.tree line F.derives))
      of_accepts (t_full h) e l F =
          let r : Runs rules T base (as_leaves line) F.tree = complete rules T bounded F.tree line F.derives in
          let g = length_steps (written_by rules T r) (tree_steps F.tree 0) (writes_steps rules T bounded line F.tree words r) in
          let k = h F.tree r in
          let f = F.fits in
          absurd (omega arith)
      of_accepts (t_long h) e l F = absurd (omega arith)
      of_accepts (t_fault h) e l F = absurd (subst EndsCleanly h e)

      to_lists : {a : ReadAnswer} → Tells [] base (as_leaves line) a → a.read_verdict ≡ accepted → Listed rules line a.steps_written
      to_lists (t_yes {out' = out} {t = t} r o k c f) e =
          let D : Derives rules t line = sound rules T bounded line t words r in
          let w : SameSteps (written_by rules T r) (tree_steps t 0) = writes_steps rules T bounded line t words r in
          record {
            tree = t;
            derives = D;
            only = λ t' D'. unique rules T bounded t' t line D' D;
            long = ap length o ∙ length_steps (written_by rules T r) (tree_steps t 0) w;
            holds = λ x. ap (count_of x) o ∙ w (same_step x);
            once = λ x. once rules T bounded useful x t 0 D.made;
          }
      to_lists (t_lost h) e = absurd (zero_one (cc))
      to_lists (t_full h) e = absurd (zero_one (cc))
      to_lists (t_long h) e = absurd (zero_one (cc))
      to_lists (t_fault h) e = absurd (zero_one (cc))

      kept : {a : ReadAnswer} → Rd [] [] toks 0 0 [] a → Kept rules line ending cap a
      kept {a} r =
          let N : Sane rules T line base (as_leaves line) = sane_start rules T line words in
          let t : Tells [] base (as_leaves line) a = outcome r base (as_leaves line) shows_start N (omega arith) in
          let z : total_of each (forest_steps (as_leaves line) 0) ≡ 0 = ap (total_of each) (no_steps line 0) in
          record {
            accepts = (to_accepts t, λ h. of_accepts t h.0 h.1 h.2);
            lists = to_lists t;
            few = few r base (as_leaves line) shows_start N (omega arith);
          }

pub terminals_all : (ts : List Token) → all_terminals ts ≡ true → AllTerminals (codes_of ts)
terminals_all [] h = tt
terminals_all (t ∷ ts) h = let p = and_parts (is_terminal t.symbol) (all_terminals ts) h in (p.0, terminals_all ts p.1)

pub reads_well : ReadsWell
reads_well rules T bounded useful s cap a words r = kept rules T bounded s.ending cap s.tokens useful (terminals_all s.tokens words) r
