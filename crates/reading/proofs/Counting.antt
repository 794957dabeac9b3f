-- How many words stand under trees and stacks, and how many steps they have.
use Rattle.std.proofs.Common.{◌≡◌, ℕ, ◌+◌, List, [], ◌∷◌, length, refl, arith}
use Rattle.reading.specs.Trees.{Tree, Forest, node, leaf, none, ◌&◌, leaves, leaves_of, MadeAll, StepOfNode, width_of, widths_of, tree_steps, forest_steps, total_of, nodes_in, nodes_of}
use Rattle.reading.specs.Reader.{Pile, base, push, as_leaves, stack_width}
use Rattle.book.specs.Rules.{Production}
use Rattle.reading.proofs.Stacks.{◌⁺◌}
use Rattle.reading.proofs.Stepping.{under}
use Rattle.reading.proofs.Written.{total-++}

mutual
  pub length_leaves : (t : Tree) (ws : List ℕ) → length (leaves t ws) ≡ width_of t + length ws
  length_leaves (leaf w) ws = omega arith
  length_leaves (node r ks) ws = length_leaves_of ks ws

  pub length_leaves_of : (ks : Forest) (ws : List ℕ) → length (leaves_of ks ws) ≡ widths_of ks + length ws
  length_leaves_of none ws = omega arith
  length_leaves_of (t & ts) ws = let h = length_leaves t (leaves_of ts ws) in let g = length_leaves_of ts ws in omega arith

pub length_under : (σ : Pile) (ws : List ℕ) → length (under σ ws) ≡ stack_width σ + length ws
length_under base ws = omega arith
length_under (push σ t s) ws = let h = length_under σ (leaves t ws) in let g = length_leaves t ws in omega arith

abbrev pub each : StepOfNode → ℕ
each x = 1

pub total_each : (xs : List StepOfNode) → total_of each xs ≡ length xs
total_each [] = refl
total_each (x ∷ xs) = let h = total_each xs in omega arith

mutual
  pub each_nodes : (t : Tree) (at : ℕ) → total_of each (tree_steps t at) ≡ nodes_in t
  each_nodes (leaf w) at = refl
  each_nodes (node r ks) at = let h = each_nodes_of ks at in let g = total-++ each (forest_steps ks at) (record { rule_no = r; first_word = at; word_count = widths_of ks } ∷ []) in omega arith

  pub each_nodes_of : (ks : Forest) (at : ℕ) → total_of each (forest_steps ks at) ≡ nodes_of ks
  each_nodes_of none at = refl
  each_nodes_of (t & ts) at =
      let h = each_nodes t at in let g = each_nodes_of ts (at + width_of t) in let k = total-++ each (tree_steps t at) (forest_steps ts (at + width_of t)) in omega arith

pub nodes_leaves : (ws : List ℕ) → nodes_of (as_leaves ws) ≡ 0
nodes_leaves [] = refl
nodes_leaves (w ∷ ws) = let h = nodes_leaves ws in omega arith

pub nodes-⁺ : (π : Forest) (ws : List ℕ) → nodes_of (π ⁺ as_leaves ws) ≡ nodes_of π
nodes-⁺ none ws = nodes_leaves ws
nodes-⁺ (t & π) ws = let h = nodes-⁺ π ws in omega arith

pub made-⁺ : (rules : List Production) (π τ : Forest) → MadeAll rules (π ⁺ τ) → MadeAll rules π
made-⁺ rules none τ m = tt
made-⁺ rules (t & π) τ m = (m.0, made-⁺ rules π τ m.1)
