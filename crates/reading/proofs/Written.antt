-- The reader writes exactly the steps of the tree that it builds.
use Rattle.std.proofs.Common.{◌≡◌, ℕ, ◌+◌, true, List, [], ◌∷◌, ◌++◌, refl, ap, ◌∙◌, arith}
use Rattle.reading.specs.Trees.{Tree, Forest, node, StepOfNode, width_of, widths_of, tree_steps, forest_steps, total_of, SameSteps}
use Rattle.reading.specs.Tables.{Faithful}
use Rattle.reading.specs.Reader.{Pile, base, push, top_of, next_symbol, Runs, run_done, run_go, as_leaves, stack_width, writes_at, written_by, AllTerminals}
use Rattle.book.specs.Rules.{Production, all_bounded}
use Rattle.reading.proofs.Stacks.{Kids, k_none, k_more, unstack_reduce}
use Rattle.reading.proofs.Stepping.{Sane, Stepped, shifted, reduced, stepped, sane_step}
use Rattle.reading.proofs.Accepting.{Accepted, accepted}
use Rattle.reading.proofs.Sound.{sane_start}

pub total-++ : (f : StepOfNode → ℕ) (xs ys : List StepOfNode) → total_of f (xs ++ ys) ≡ total_of f xs + total_of f ys
total-++ f [] ys = omega arith
total-++ f (x ∷ xs) ys = let h = total-++ f xs ys in omega arith

-- the steps of the trees on the stack
abbrev pub stack_steps : Pile → List StepOfNode
stack_steps base = []
stack_steps (push σ t s) = stack_steps σ ++ tree_steps t (stack_width σ)

pub kids_width : {ks : Forest} {σ₀ σ : Pile} → Kids ks σ₀ σ → stack_width σ ≡ stack_width σ₀ + widths_of ks
kids_width k_none = omega arith
kids_width (k_more k) = let h = kids_width k in omega arith

kids_steps : (f : StepOfNode → ℕ) {ks : Forest} {σ₀ σ : Pile} → Kids ks σ₀ σ → total_of f (stack_steps σ) ≡ total_of f (stack_steps σ₀) + total_of f (forest_steps ks (stack_width σ₀))
kids_steps f k_none = omega arith
kids_steps f (k_more {t = t} {ks = ks} {σ = σ} k) =
    let h = kids_steps f k in
    let e₁ = total-++ f (stack_steps σ) (tree_steps t (stack_width σ)) in
    let e₂ = total-++ f (tree_steps t (stack_width σ)) (forest_steps ks (stack_width σ + width_of t)) in
    omega arith

module _ (rules : List Production) (T : Faithful rules) (bounded : all_bounded rules ≡ true) where
  open T use {start_state, action_at}

  -- what a step writes, and what it makes of the steps of all trees
  pub balance : (f : StepOfNode → ℕ) {σ σ' : Pile} {ρ ρ' : Forest} → Stepped rules T σ ρ σ' ρ'
      → total_of f (stack_steps σ) + total_of f (forest_steps ρ (stack_width σ)) + total_of f (writes_at rules (action_at (top_of start_state σ) (next_symbol rules ρ)) σ) ≡ total_of f (stack_steps σ') + total_of f (forest_steps ρ' (stack_width σ'))
  balance f {σ} {σ'} {ρ} {ρ'} (shifted t s a e₁ e₂ L) =
      rw (a, e₁, e₂)
      (let h₁ = total-++ f (tree_steps t (stack_width σ)) (forest_steps ρ' (stack_width σ + width_of t)) in
      let h₂ = total-++ f (stack_steps σ) (tree_steps t (stack_width σ)) in
      omega arith)
  balance f {σ} {σ'} {ρ} {ρ'} (reduced r ks a h k l q) =
      let x : StepOfNode = record { rule_no = r; first_word = stack_width σ'; word_count = widths_of ks } in
      let w : writes_at rules (action_at (top_of start_state σ) (next_symbol rules ρ)) σ ≡ x ∷ [] =
      ap (λ c. writes_at rules c σ) a ∙ ap (λ u. record { rule_no = r; first_word = stack_width u.0; word_count = widths_of u.1 } ∷ []) (unstack_reduce rules T σ' σ ks r k l) in
      rw (w, q, kids_width k)
      (let h₁ = total-++ f (tree_steps (node r ks) (stack_width σ')) (forest_steps ρ (stack_width σ' + widths_of ks)) in
      let h₂ = total-++ f (forest_steps ks (stack_width σ')) (x ∷ []) in
      let h₃ = kids_steps f k in
      omega arith)

  written_run : (f : StepOfNode → ℕ) {line : List ℕ} {σ : Pile} {ρ : Forest} {t : Tree} → Sane rules T line σ ρ → (r : Runs rules T σ ρ t)
      → total_of f (stack_steps σ) + total_of f (forest_steps ρ (stack_width σ)) + total_of f (written_by rules T r) ≡ total_of f (tree_steps t 0)
  written_run f {line} {σ} {ρ} {t} S (run_done e) =
      let A : Accepted rules T bounded σ ρ t = accepted rules T bounded S.linked S.made_ρ e in
      rw (A.alone, A.nothing) (omega arith)
  written_run f {line} {σ} {ρ} S (run_go {σ' = σ'} {ρ' = ρ'} e r) =
      let h₁ = balance f {σ = σ} {σ' = σ'} {ρ = ρ} {ρ' = ρ'} (stepped rules T S.linked e) in
      let h₂ = written_run f (sane_step rules T S e) r in
      let h₃ = total-++ f (writes_at rules (action_at (top_of start_state σ) (next_symbol rules ρ)) σ) (written_by rules T r) in
      omega arith

pub no_steps : (ws : List ℕ) (at : ℕ) → forest_steps (as_leaves ws) at ≡ []
no_steps [] at = refl
no_steps (w ∷ ws) at = no_steps ws (at + 1)

-- An accepted read has written the steps of its tree, each as often as it is one.
pub writes_steps : (rules : List Production) (T : Faithful rules) → all_bounded rules ≡ true → (line : List ℕ) (t : Tree) → AllTerminals line → (r : Runs rules T base (as_leaves line) t) → SameSteps (written_by rules T r) (tree_steps t 0)
writes_steps rules T bounded line t h r f =
    let e₁ = written_run rules T bounded f (sane_start rules T line h) r in
    let e₂ : total_of f (forest_steps (as_leaves line) 0) ≡ 0 = ap (total_of f) (no_steps line 0) in
    omega arith
