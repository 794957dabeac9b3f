-- A tree over m words has at most 40 × (2 m - 1) nodes, since a chain of rules with one symbol each repeats no nonterminal.
use Rattle.std.proofs.Common.{◌≡◌, ℕ, zero, suc, ◌+◌, ◌*◌, ◌<◌, ◌≤◌, true, ◌≢◌, List, [], ◌∷◌, length, sym, refl, ap, subst, arith}
use native.Mathlib.Decide.{ℕ_discrete}
use Rattle.grammar.specs.Meaning.{rule_of, InBook}
use Rattle.reading.specs.Trees.{Tree, Forest, node, leaf, none, ◌&◌, label, labels, leaves, leaves_of, Made, MadeAll, width_of, widths_of, nodes_in, nodes_of}
use Rattle.reading.specs.Promise.{AllUseful}
use Rattle.reading.specs.Tables.{Faithful}
use Rattle.book.specs.Rules.{Production, all_bounded}
use Rattle.reading.proofs.Basics.{left_code, right_some}
use Rattle.reading.proofs.Stacks.{size, labels_size}
use Rattle.reading.proofs.Contexts.{one_tree}

-- the pigeonhole principle: n numbers at most, all apart, lie between low and low + n
abbrev NotIn : ℕ → List ℕ → Type 0
NotIn x [] = Unit {0}
NotIn x (y ∷ ys) = (x ≡ y → ⊥) × NotIn x ys

abbrev Apart : List ℕ → Type 0
Apart [] = Unit {0}
Apart (x ∷ xs) = NotIn x xs × Apart xs

abbrev Between : ℕ → ℕ → List ℕ → Type 0
Between low n [] = Unit {0}
Between low n (x ∷ xs) = (low ≤ x) × (x < low + n) × Between low n xs

-- without the number low + n
record Less (low n : ℕ) (xs : List ℕ) : Type 0 where
  ys : List ℕ
  apart : Apart ys
  between : Between low n ys
  longer : length xs ≤ suc (length ys)
  still : (z : ℕ) → NotIn z xs → NotIn z ys

narrow : (low n : ℕ) (xs : List ℕ) → NotIn (low + n) xs → Between low (suc n) xs → Between low n xs
narrow low n [] h k = tt
narrow low n (x ∷ xs) h k = (k.0, let u : x ≢ low + n = λ e. h.0 (sym e) in omega arith, narrow low n xs h.1 k.2)

less : (low n : ℕ) (xs : List ℕ) → Apart xs → Between low (suc n) xs → Less low n xs
less low n [] a k = record { ys = []; apart = tt; between = tt; longer = omega arith; still = λ z h. tt }
less low n (x ∷ xs) a k = go (ℕ_discrete x (low + n)) (less low n xs a.1 k.2)
  where
    go : Dec (x ≡ low + n) → Less low n xs → Less low n (x ∷ xs)
    go (yes e) L = record { ys = xs; apart = a.1; between = narrow low n xs (subst (λ z. NotIn z xs) e a.0) k.2; longer = omega arith; still = λ z h. h.1 }
    go (no e) L =
        record { ys = x ∷ L.ys; apart = (L.still x a.0, L.apart); between = (k.0, omega arith, L.between); longer = let h = L.longer in omega arith; still = λ z h. (h.0, L.still z h.1) }

pigeon : (low n : ℕ) (xs : List ℕ) → Apart xs → Between low n xs → length xs ≤ n
pigeon low zero [] a k = omega arith
pigeon low zero (x ∷ xs) a k = omega arith
pigeon low (suc n) xs a k =
    let L : Less low n xs = less low n xs a k in
    let h = pigeon low n L.ys L.apart L.between in
    let g = L.longer in
    omega arith

module _ (rules : List Production) (bounded : all_bounded rules ≡ true) where
  size_some : (r : ℕ) (ks : Forest) → InBook rules r → labels rules ks ≡ (rule_of rules r).rhs → 1 ≤ size ks
  size_some r none h e = absurd (right_some rules bounded r h (sym e))
  size_some r (k & ks) h e = omega arith

  size_zero : (ks : Forest) → size ks ≡ 0 → ks ≡ none
  size_zero none e = refl
  size_zero (k & ks) e = absurd (omega arith)

  mutual
    pub width_some : (t : Tree) → Made rules t → 1 ≤ width_of t
    width_some (leaf w) m = omega arith
    width_some (node r ks) m = let h = size_some r ks m.0 m.1 in let g = widths_size ks m.2 in omega arith

    pub widths_size : (ks : Forest) → MadeAll rules ks → size ks ≤ widths_of ks
    widths_size none m = omega arith
    widths_size (t & ts) m = let h = width_some t m.0 in let g = widths_size ts m.1 in omega arith

module _ (rules : List Production) (T : Faithful rules) (bounded : all_bounded rules ≡ true) (useful : AllUseful rules) where
  -- trees over the same words as ks, with more nodes than ks has
  abbrev Above : Forest → Forest → Type 0
  Above none ks = Unit {0}
  Above (a & hs) ks = Made rules a × ((ws : List ℕ) → leaves a ws ≡ leaves_of ks ws) × (nodes_of ks < nodes_in a) × Above hs ks

  above_down : (hs : Forest) (r : ℕ) (ks : Forest) → Above hs (node r ks & none) → Above hs ks
  above_down none r ks h = tt
  above_down (a & hs) r ks h = (h.0, h.1, omega arith, above_down hs r ks h.3)

  fresh : (hs : Forest) (r : ℕ) (ks : Forest) → Made rules (node r ks) → Above hs (node r ks & none) → NotIn (rule_of rules r).lhs (labels rules hs)
  fresh none r ks m h = tt
  fresh (a & hs) r ks m h = (new, fresh hs r ks m h.3)
    where
      new : (rule_of rules r).lhs ≡ label rules a → ⊥
      new e =
          let u : a ≡ node r ks = one_tree rules useful T bounded (rule_of rules r).lhs (useful.reached r m.0) a (node r ks) h.0 m (sym e) refl h.1 in
          let n : nodes_in a ≡ suc (nodes_of ks) = ap nodes_in u in
          omega arith

  -- a set of nonterminals has at most 40 of them
  forty : (hs : Forest) → Apart (labels rules hs) → Between 41 40 (labels rules hs) → size hs ≤ 40
  forty hs a p = rw (labels_size rules T) at (pigeon 41 40 (labels rules hs) a p)

  abbrev Chain : Forest → Forest → Type 0
  Chain hs ks = Above hs ks × Apart (labels rules hs) × Between 41 40 (labels rules hs)

  record Bound (ks : Forest) : Type 0 where
    many : nodes_of ks + 40 * size ks ≤ 80 * widths_of ks
    one : size ks ≡ 1 → (hs : Forest) → Chain hs ks → nodes_of ks + size hs + 40 ≤ 80 * widths_of ks

  bound_node : (r : ℕ) (ks : Forest) → Made rules (node r ks) → Bound ks → (hs : Forest) → Chain hs (node r ks & none) → nodes_in (node r ks) + size hs + 40 ≤ 80 * widths_of ks
  bound_node r ks m B hs c = go (ℕ_discrete (size ks) 1)
    where
      p : (41 ≤ (rule_of rules r).lhs) × ((rule_of rules r).lhs ≤ 80)
      p = left_code rules bounded r m.0

      all : Chain (node r ks & hs) ks
      all = ((m, λ ws. refl, omega arith, above_down hs r ks c.0), (fresh hs r ks m c.0, c.1), (p.0, let q : label rules (node r ks) ≤ 80 = p.1 in omega arith, c.2))

      go : Dec (size ks ≡ 1) → nodes_in (node r ks) + size hs + 40 ≤ 80 * widths_of ks
      go (yes e) = let h = B.one e (node r ks & hs) all in omega arith
      go (no e) =
          let h = B.many in
          let g = size_some rules bounded r ks m.0 m.1 in
          let f : suc (size hs) ≤ 40 = forty (node r ks & hs) all.1 all.2 in
          omega arith

  mutual
    bound_tree : (t : Tree) → Made rules t → (hs : Forest) → Chain hs (t & none) → nodes_in t + size hs + 40 ≤ 80 * width_of t
    bound_tree (leaf w) m hs c = let h = forty hs c.1 c.2 in omega arith
    bound_tree (node r ks) m hs c = bound_node r ks m (bound_forest ks m.2) hs c

    bound_forest : (ks : Forest) → MadeAll rules ks → Bound ks
    bound_forest none m = record { many = omega arith; one = λ e. absurd (omega arith) }
    bound_forest (t & ts) m = record {
      many = let h = bound_tree t m.0 none (tt, tt, tt) in let g = (bound_forest ts m.1).many in omega arith;
      one = λ e hs c.
          let z : ts ≡ none = size_zero rules bounded ts (omega arith) in
          let h = bound_tree t m.0 hs (subst (λ f. Above hs (t & f)) z c.0, c.1, c.2) in
          let n : nodes_of ts ≡ 0 = ap nodes_of z in
          omega arith;
    }

  -- at most 40 × (2 m - 1) nodes over m words
  pub nodes_bound : (t : Tree) → Made rules t → nodes_in t + 40 ≤ 80 * width_of t
  nodes_bound t m = let h = bound_tree t m none (tt, tt, tt) in omega arith

  pub nodes_of_bound : (ks : Forest) → MadeAll rules ks → nodes_of ks ≤ 80 * widths_of ks
  nodes_of_bound ks m = let h = (bound_forest ks m).many in omega arith
