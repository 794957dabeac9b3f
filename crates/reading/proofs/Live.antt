-- What holds at each turn of a read, for the loop of a program: the stack and the pending symbols are few, and so are the steps.
use Rattle.std.proofs.Common.{◌≡◌, ℕ, ◌+◌, ◌*◌, ◌≤◌, Bool, true, false, List, [], length, ap, ◌∙◌, subst, arith, length-append}
use Rattle.source.specs.Streams.{Token, Ending}
use Rattle.reading.specs.Promise.{AllUseful}
use Rattle.reading.specs.Trees.{Forest, none, ◌&◌, MadeAll, StepOfNode, width_of, widths_of, total_of, forest_steps}
use Rattle.reading.specs.Tables.{Faithful}
use Rattle.reading.specs.Reader.{Pile, base, push, as_leaves, top_of, next_symbol, writes_at, stack_width, AllTerminals}
use Rattle.reading.specs.Reading.{codes_of, SpannedSymbol, StackedSymbol, on, turn_from}
use Rattle.book.specs.Rules.{Production, all_bounded}
use Rattle.reading.proofs.Stepping.{Sane, sane_step, stepped, MadeStack}
use Rattle.reading.proofs.Sound.{sane_start}
use Rattle.reading.proofs.Written.{stack_steps, balance, no_steps}
use Rattle.reading.proofs.Bounds.{width_some}
use Rattle.reading.proofs.Spans.{places, spans, mark, Shows, Seen, quiet, stepping, sees}
use Rattle.reading.proofs.Counting.{each, total_each, made-⁺}
use Rattle.reading.proofs.Outcome.{few_here, shows_start}

module _ (rules : List Production) (T : Faithful rules) (bounded : all_bounded rules ≡ true) (ending : Ending) (cap : ℕ) (toks : List Token) where
  abbrev line : List ℕ
  line = codes_of toks

  open T use {start_state, next_state, action_at}

  pub record Live (ps : List StackedSymbol) (xs : List SpannedSymbol) (ws : List Token) (n pl : ℕ) (out : List StepOfNode) : Type 0 where
    pub σ : Pile
    pub ρ : Forest
    pub shows : Shows rules T bounded ending cap ps xs ws n σ ρ
    pub sane : Sane rules T line σ ρ
    pub counts : length out ≡ total_of each (stack_steps σ) + total_of each (forest_steps ρ (stack_width σ))

  pub live_start : AllTerminals line → Live [] [] toks 0 0 []
  live_start words =
      let z : total_of each (forest_steps (as_leaves line) 0) ≡ 0 = ap (total_of each) (no_steps line 0) in
      record { σ = base; ρ = as_leaves line; shows = shows_start rules T bounded ending cap toks; sane = sane_start rules T line words; counts = omega arith }

  live_seen : {n m pl : ℕ} {ps : List StackedSymbol} {xs : List SpannedSymbol} {ws : List Token} {out out' : List StepOfNode} {σ : Pile} {ρ : Forest} → Sane rules T line σ ρ → length out ≡ total_of each (stack_steps σ) + total_of each (forest_steps ρ (stack_width σ))
      → Seen rules T bounded ending cap σ ρ out n (on ps xs ws m pl out') → Live ps xs ws m pl out'
  live_seen {σ = σ} {ρ = ρ} N h (quiet S) = record { σ = σ; ρ = ρ; shows = S; sane = N; counts = h }
  live_seen {out = out} {out' = out'} {σ = σ} {ρ = ρ} N h (stepping {σ' = σ'} {ρ' = ρ'} e S o k) =
      let says : List StepOfNode = writes_at rules (action_at (top_of start_state σ) (next_symbol rules ρ)) σ in
      let l₁ : length out' ≡ length out + length says = ap length o ∙ length-append out says in
      let l₂ : total_of each says ≡ length says = total_each says in
      let l₃ = balance rules T bounded each {σ = σ} {σ' = σ'} {ρ = ρ} {ρ' = ρ'} (stepped rules T N.linked e) in
      record { σ = σ'; ρ = ρ'; shows = S; sane = sane_step rules T N e; counts = omega arith }

  -- it goes on holding
  pub live_move : {ps ps' : List StackedSymbol} {xs xs' : List SpannedSymbol} {ws ws' : List Token} {n n' pl pl' : ℕ} {out out' : List StepOfNode}
      → Live ps xs ws n pl out → turn_from rules start_state next_state action_at ending cap ps xs ws n pl out ≡ on ps' xs' ws' n' pl' out' → Live ps' xs' ws' n' pl' out'
  live_move {n = n} {pl = pl} {out = out} L e = live_seen L.sane L.counts (subst (Seen rules T bounded ending cap L.σ L.ρ out n) e (sees rules T bounded ending cap pl out L.shows L.sane.linked))

  places_few : (σ : Pile) → MadeStack rules T σ → length (places rules σ) ≤ stack_width σ
  places_few base m = omega arith
  places_few (push σ t s) m = let h = places_few σ m.0 in let w = width_some rules bounded t m.1 in omega arith

  spans_few : (π : Forest) (at : ℕ) → MadeAll rules π → length (spans rules π at) ≤ widths_of π
  spans_few none at m = omega arith
  spans_few (t & ts) at m = let h = spans_few ts (at + width_of t) m.1 in let w = width_some rules bounded t m.0 in omega arith

  mark_few : (f : Bool) (n : ℕ) → length (mark f n) ≤ 1
  mark_few true n = omega arith
  mark_few false n = omega arith

  -- the stack and the pending symbols are at most one more than the words taken, which are at most 1,000
  pub live_room : {ps : List StackedSymbol} {xs : List SpannedSymbol} {ws : List Token} {n pl : ℕ} {out : List StepOfNode} → Live ps xs ws n pl out → (length ps + length xs ≤ n + 1) × (n ≤ 1000)
  live_room {ps} {xs} {ws} {n} L =
      let S : Shows rules T bounded ending cap ps xs ws n L.σ L.ρ = L.shows in
      let m : MadeAll rules S.π = made-⁺ rules S.π (as_leaves (codes_of ws)) (subst (MadeAll rules) S.is_ρ L.sane.made_ρ) in
      let p = places_few L.σ L.sane.made_σ in
      let q = spans_few S.π (stack_width L.σ) m in
      let r = mark_few S.fin n in
      let e₁ : length ps ≡ length (places rules L.σ) = ap length S.is_ps in
      let e₂ : length xs ≡ length (spans rules S.π (stack_width L.σ)) + length (mark S.fin n) = ap length S.is_xs ∙ length-append (spans rules S.π (stack_width L.σ)) (mark S.fin n) in
      let e₃ : n ≡ stack_width L.σ + widths_of S.π = S.is_n in
      (omega arith, S.is_few)

  pub live_few : AllUseful rules → {ps : List StackedSymbol} {xs : List SpannedSymbol} {ws : List Token} {n pl : ℕ} {out : List StepOfNode} → Live ps xs ws n pl out → length out ≤ 80 * n
  live_few useful L = let h = few_here rules T bounded ending cap toks useful L.shows L.sane in let k = L.counts in omega arith
