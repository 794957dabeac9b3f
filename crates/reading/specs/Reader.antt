-- The reader without limits, with trees on its stack.
use Rattle.std.specs.Prelude.{◌≡◌, ℕ, zero, suc, ◌+◌, true, List, [], ◌∷◌, ◌++◌, length, Some, None, Option}
use Rattle.book.specs.Rules.{Production, all_bounded}
use Rattle.book.specs.Symbols.{is_terminal}
use Rattle.grammar.specs.Meaning.{rule_of, Move, shifts, accepts, reduces}
use Rattle.reading.specs.Tables.{Faithful}
use Rattle.reading.specs.Trees.{Tree, Forest, node, leaf, none, ◌&◌, label, Derives, StepOfNode, width_of, widths_of}

-- the stack: each symbol is the label of a tree, with the state above it
pub data Pile : Type 0 where
  base : Pile
  push : Pile → Tree → ℕ → Pile

-- what a step leads to: a stack and the trees not yet shifted, or the tree that was read, or neither
pub data StepOutcome : Type 0 where
  go : Pile → Forest → StepOutcome
  done : Tree → StepOutcome
  stuck : StepOutcome

-- the state on top, where s₀ is that of the empty stack
abbrev pub top_of : ℕ → Pile → ℕ
top_of s₀ base = s₀
top_of s₀ (push σ t s) = s

-- unstacks n symbols, in front of those given
abbrev pub unstack : ℕ → Pile → Forest → Pile × Forest
unstack zero σ ks = (σ, ks)
unstack (suc n) base ks = (base, ks)
unstack (suc n) (push σ t s) ks = unstack n σ (t & ks)

-- the next symbol: of a pending tree or a word not yet taken, or the end mark
abbrev pub next_symbol : List Production → Forest → ℕ
next_symbol rules none = 0
next_symbol rules (t & ts) = label rules t

module _ (rules : List Production) (T : Faithful rules) where
  -- what an action does
  abbrev pub obey : Option Move → Pile → Forest → StepOutcome
  obey None σ ρ = stuck
  obey (Some shifts) σ none = stuck
  obey (Some shifts) σ (t & ts) = go (push σ t (T.next_state (top_of T.start_state σ) (label rules t))) ts
  obey (Some (reduces r)) σ ρ = let u = unstack (length (rule_of rules r).rhs) σ none in go u.0 (node r u.1 & ρ)
  obey (Some accepts) base ρ = stuck
  obey (Some accepts) (push σ t s) ρ = done t

  -- one step of the reader; the words not yet taken follow the pending symbols, as leaves
  abbrev pub step_from : Pile → Forest → StepOutcome
  step_from σ ρ = obey (T.action_at (top_of T.start_state σ) (next_symbol rules ρ)) σ ρ

  -- from a stack and the trees not yet shifted the reader ends with the tree
  pub data Runs : Pile → Forest → Tree → Type 0 where
    run_done : {σ : Pile} {ρ : Forest} {t : Tree} → step_from σ ρ ≡ done t → Runs σ ρ t
    run_go : {σ σ' : Pile} {ρ ρ' : Forest} {t : Tree} → step_from σ ρ ≡ go σ' ρ' → Runs σ' ρ' t → Runs σ ρ t

-- the words of a line, as the trees that the reader begins with
abbrev pub as_leaves : List ℕ → Forest
as_leaves [] = none
as_leaves (w ∷ ws) = leaf w & as_leaves ws

-- What a run writes.

-- how many words stand under a stack
abbrev pub stack_width : Pile → ℕ
stack_width base = 0
stack_width (push σ t s) = stack_width σ + width_of t

-- what an action writes: a reduce writes the step of its node
abbrev pub writes_at : List Production → Option Move → Pile → List StepOfNode
writes_at rules None σ = []
writes_at rules (Some shifts) σ = []
writes_at rules (Some accepts) σ = []
writes_at rules (Some (reduces r)) σ = let u = unstack (length (rule_of rules r).rhs) σ none in record { rule_no = r; first_word = stack_width u.0; word_count = widths_of u.1 } ∷ []

-- what a run writes, in order
abbrev pub written_by : (rules : List Production) (T : Faithful rules) {σ : Pile} {ρ : Forest} {t : Tree} → Runs rules T σ ρ t → List StepOfNode
written_by rules T (run_done e) = []
written_by rules T (run_go {σ = σ} {ρ = ρ} e r) = writes_at rules (T.action_at (top_of T.start_state σ) (next_symbol rules ρ)) σ ++ written_by rules T r

-- Laws of the reader.

-- the codes of a line are terminals
abbrev pub AllTerminals : List ℕ → Type 0
AllTerminals [] = Unit {0}
AllTerminals (w ∷ ws) = (is_terminal w ≡ true) × AllTerminals ws

-- the tree that it ends with derives the line
abbrev pub SoundReader : Type 0
SoundReader = (rules : List Production) (T : Faithful rules) → all_bounded rules ≡ true → (line : List ℕ) (t : Tree) → AllTerminals line → Runs rules T base (as_leaves line) t → Derives rules t line

-- it ends with every tree that derives the line
abbrev pub CompleteReader : Type 0
CompleteReader = (rules : List Production) (T : Faithful rules) → all_bounded rules ≡ true → (t : Tree) (line : List ℕ) → Derives rules t line → Runs rules T base (as_leaves line) t

-- so a line has at most one tree
abbrev pub Unambiguous : Type 0
Unambiguous = (rules : List Production) → Faithful rules → all_bounded rules ≡ true → (t t' : Tree) (line : List ℕ) → Derives rules t line → Derives rules t' line → t ≡ t'
