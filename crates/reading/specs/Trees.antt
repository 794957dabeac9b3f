-- Derivation trees of a book over words, and the steps that a tree has.
use Rattle.std.specs.Prelude.{◌≡◌, ℕ, suc, ◌+◌, true, cond, List, [], ◌∷◌, ◌++◌, ◌==◌}
use Rattle.book.specs.Rules.{Production}
use Rattle.book.specs.Symbols.{is_terminal}
use Rattle.grammar.specs.Numbered.{start_symbol}
use Rattle.grammar.specs.Meaning.{rule_of, InBook}

-- a leaf is a terminal, a node is the number of a rule, with its children
mutual
  pub data Tree : Type 0 where
    leaf : ℕ → Tree
    node : ℕ → Forest → Tree

  pub data Forest : Type 0 where
    none : Forest
    ◌&◌ : Tree → Forest → Forest

infixr 50 ◌&◌
-- the symbol that a tree stands for
abbrev pub label : List Production → Tree → ℕ
label rules (leaf w) = w
label rules (node r ks) = (rule_of rules r).lhs

-- the symbols that trees stand for
abbrev pub labels : List Production → Forest → List ℕ
labels rules none = []
labels rules (t & ts) = label rules t ∷ labels rules ts

-- the leaves, before what follows
abbrev mutual
  pub leaves : Tree → List ℕ → List ℕ
  leaves (leaf w) ws = w ∷ ws
  leaves (node r ks) ws = leaves_of ks ws

  pub leaves_of : Forest → List ℕ → List ℕ
  leaves_of none ws = ws
  leaves_of (t & ts) ws = leaves t (leaves_of ts ws)

-- the tree is made of terminals and of the book's rules
abbrev mutual
  pub Made : List Production → Tree → Type 0
  Made rules (leaf w) = is_terminal w ≡ true
  Made rules (node r ks) = InBook rules r × (labels rules ks ≡ (rule_of rules r).rhs) × MadeAll rules ks

  pub MadeAll : List Production → Forest → Type 0
  MadeAll rules none = Unit {0}
  MadeAll rules (t & ts) = Made rules t × MadeAll rules ts

-- the rules derive the line by the tree
pub record Derives (rules : List Production) (t : Tree) (line : List ℕ) : Type 0 where
  pub made : Made rules t
  pub root : label rules t ≡ start_symbol
  pub spells : leaves t [] ≡ line

-- Steps.

-- the step of a node: its rule, how many words stand left of it, and how many under it
pub record StepOfNode : Type 0 where
  pub rule_no : ℕ
  pub first_word : ℕ
  pub word_count : ℕ

-- how many words stand under a tree
abbrev mutual
  pub width_of : Tree → ℕ
  width_of (leaf w) = 1
  width_of (node r ks) = widths_of ks

  pub widths_of : Forest → ℕ
  widths_of none = 0
  widths_of (t & ts) = width_of t + widths_of ts

-- the steps of a tree with `at` words left of it, one for each node
abbrev mutual
  pub tree_steps : Tree → ℕ → List StepOfNode
  tree_steps (leaf w) at = []
  tree_steps (node r ks) at = forest_steps ks at ++ (record { rule_no = r; first_word = at; word_count = widths_of ks } ∷ [])

  pub forest_steps : Forest → ℕ → List StepOfNode
  forest_steps none at = []
  forest_steps (t & ts) at = tree_steps t at ++ forest_steps ts (at + width_of t)

-- the sum of a number for each step
abbrev pub total_of : (StepOfNode → ℕ) → List StepOfNode → ℕ
total_of f [] = 0
total_of f (x ∷ xs) = f x + total_of f xs

-- 1 for equal steps, 0 for others
abbrev pub same_step : StepOfNode → StepOfNode → ℕ
same_step x y = cond (x.rule_no == y.rule_no) (cond (x.first_word == y.first_word) (cond (x.word_count == y.word_count) 1 0) 0) 0

-- how often a step stands in a list
abbrev pub count_of : StepOfNode → List StepOfNode → ℕ
count_of x ys = total_of (same_step x) ys

-- two lists have the same steps, each as often: they have the same sum, whatever is counted
abbrev pub SameSteps : List StepOfNode → List StepOfNode → Type 0
SameSteps xs ys = (f : StepOfNode → ℕ) → total_of f xs ≡ total_of f ys

-- how many nodes a tree has
abbrev mutual
  pub nodes_in : Tree → ℕ
  nodes_in (leaf w) = 0
  nodes_in (node r ks) = suc (nodes_of ks)

  pub nodes_of : Forest → ℕ
  nodes_of none = 0
  nodes_of (t & ts) = nodes_in t + nodes_of ts
