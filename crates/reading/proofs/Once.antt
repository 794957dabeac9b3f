-- Each step of a tree is the step of one node.
use Rattle.std.proofs.Common.{◌≡◌, ℕ, zero, suc, ◌+◌, ◌≤◌, Bool, true, false, cond, T, eqb, ◌⊎◌, List, [], ◌∷◌, sym, refl, ap, subst, inl, inr, arith, eqb→eq}
use Rattle.grammar.specs.Meaning.{rule_of}
use Rattle.reading.specs.Trees.{Tree, Forest, node, leaf, none, ◌&◌, leaves_of, Made, MadeAll, StepOfNode, width_of, widths_of, tree_steps, forest_steps, same_step, count_of, nodes_in, nodes_of}
use Rattle.reading.specs.Promise.{AllUseful}
use Rattle.reading.specs.Tables.{Faithful}
use Rattle.book.specs.Rules.{Production, all_bounded}
use Rattle.reading.proofs.Stacks.{size}
use Rattle.reading.proofs.Written.{total-++}
use Rattle.reading.proofs.Contexts.{one_tree}
use Rattle.reading.proofs.Bounds.{width_some, widths_size}

abbrev pick : Bool → Bool → Bool → ℕ
pick p q r = cond p (cond q (cond r 1 0) 0) 0

pick_le : (p q r : Bool) → pick p q r ≤ 1
pick_le false q r = omega arith
pick_le true false r = omega arith
pick_le true true false = omega arith
pick_le true true true = omega arith

pick_all : (p q r : Bool) → 1 ≤ pick p q r → T p × T q × T r
pick_all false q r h = absurd (omega arith)
pick_all true false r h = absurd (omega arith)
pick_all true true false h = absurd (omega arith)
pick_all true true true h = (tt, tt, tt)

same_le : (x y : StepOfNode) → same_step x y ≤ 1
same_le x y = pick_le (eqb x.rule_no y.rule_no) (eqb x.first_word y.first_word) (eqb x.word_count y.word_count)

same_is : (x y : StepOfNode) → 1 ≤ same_step x y → (x.rule_no ≡ y.rule_no) × (x.first_word ≡ y.first_word) × (x.word_count ≡ y.word_count)
same_is x y h =
    let (p, q, r) = pick_all (eqb x.rule_no y.rule_no) (eqb x.first_word y.first_word) (eqb x.word_count y.word_count) h in
    (eqb→eq _ _ p, eqb→eq _ _ q, eqb→eq _ _ r)

one_of : (m n : ℕ) → 1 ≤ m + n → (1 ≤ m) ⊎ (1 ≤ n)
one_of zero n h = inr (omega arith)
one_of (suc m) n h = inl (omega arith)

abbrev own : ℕ → Forest → ℕ → StepOfNode
own r ks at = record { rule_no = r; first_word = at; word_count = widths_of ks }

-- a node's steps are its children's and its own
count_node : (x : StepOfNode) (r : ℕ) (ks : Forest) (at : ℕ) → count_of x (tree_steps (node r ks) at) ≡ count_of x (forest_steps ks at) + same_step x (own r ks at)
count_node x r ks at = let h = total-++ (same_step x) (forest_steps ks at) (own r ks at ∷ []) in omega arith

count_more : (x : StepOfNode) (t : Tree) (ts : Forest) (at : ℕ) → count_of x (forest_steps (t & ts) at) ≡ count_of x (tree_steps t at) + count_of x (forest_steps ts (at + width_of t))
count_more x t ts at = total-++ (same_step x) (tree_steps t at) (forest_steps ts (at + width_of t))

module _ (rules : List Production) (T : Faithful rules) (bounded : all_bounded rules ≡ true) (useful : AllUseful rules) (x : StepOfNode) where
  -- a step lies within the words of its tree
  abbrev Within : ℕ → ℕ → Type 0
  Within at w = (at ≤ x.first_word) × (x.first_word + x.word_count ≤ at + w) × (1 ≤ x.word_count)

  within_node : (r : ℕ) (ks : Forest) (at : ℕ) → Made rules (node r ks) → (1 ≤ count_of x (forest_steps ks at) → Within at (widths_of ks)) → 1 ≤ count_of x (tree_steps (node r ks) at) → Within at (widths_of ks)
  within_node r ks at m ih h = go (one_of _ _ (subst (λ n. 1 ≤ n) (count_node x r ks at) h))
    where
      go : (1 ≤ count_of x (forest_steps ks at)) ⊎ (1 ≤ same_step x (own r ks at)) → Within at (widths_of ks)
      go (inl c) = ih c
      go (inr c) = let (p, q, w) = same_is x (own r ks at) c in let n = width_some rules bounded (node r ks) m in (omega arith, omega arith, omega arith)

  within_more : (t : Tree) (ts : Forest) (at : ℕ) → (1 ≤ count_of x (tree_steps t at) → Within at (width_of t)) → (1 ≤ count_of x (forest_steps ts (at + width_of t)) → Within (at + width_of t) (widths_of ts))
      → 1 ≤ count_of x (forest_steps (t & ts) at) → Within at (widths_of (t & ts))
  within_more t ts at ih₁ ih₂ h = go (one_of _ _ (subst (λ n. 1 ≤ n) (count_more x t ts at) h))
    where
      go : (1 ≤ count_of x (tree_steps t at)) ⊎ (1 ≤ count_of x (forest_steps ts (at + width_of t))) → Within at (widths_of (t & ts))
      go (inl c) = let w = ih₁ c in (omega arith, omega arith, omega arith)
      go (inr c) = let w = ih₂ c in (omega arith, omega arith, omega arith)

  mutual
    within : (t : Tree) (at : ℕ) → Made rules t → 1 ≤ count_of x (tree_steps t at) → Within at (width_of t)
    within (leaf w) at m h = absurd (omega arith)
    within (node r ks) at m h = within_node r ks at m (within_of ks at m.2) h

    within_of : (ks : Forest) (at : ℕ) → MadeAll rules ks → 1 ≤ count_of x (forest_steps ks at) → Within at (widths_of ks)
    within_of none at m h = absurd (omega arith)
    within_of (t & ts) at m h = within_more t ts at (within t at m.0) (within_of ts (at + width_of t) m.1) h

  -- a step as wide as its forest is that of a node over all its words
  record Found (ks : Forest) : Type 0 where
    ls : Forest
    made : Made rules (node x.rule_no ls)
    like : (ws : List ℕ) → leaves_of ls ws ≡ leaves_of ks ws
    few : suc (nodes_of ls) ≤ nodes_of ks

  abbrev Finds : Forest → ℕ → Type 0
  Finds ks at = 1 ≤ count_of x (forest_steps ks at) → x.first_word ≡ at → x.word_count ≡ widths_of ks → Found ks

  find_node : (r : ℕ) (ks : Forest) (at : ℕ) → Made rules (node r ks) → Finds ks at → 1 ≤ count_of x (tree_steps (node r ks) at) → x.first_word ≡ at → x.word_count ≡ widths_of ks → Found (node r ks & none)
  find_node r ks at m ih h e w = go (one_of _ _ (subst (λ n. 1 ≤ n) (count_node x r ks at) h))
    where
      go : (1 ≤ count_of x (forest_steps ks at)) ⊎ (1 ≤ same_step x (own r ks at)) → Found (node r ks & none)
      go (inl c) = let F = ih c e w in record { ls = F.ls; made = F.made; like = F.like; few = let g = F.few in omega arith }
      go (inr c) = let (p, _, _) = same_is x (own r ks at) c in record { ls = ks; made = subst (λ q. Made rules (node q ks)) (sym p) m; like = λ ws. refl; few = omega arith }

  find_more : (t : Tree) (ts : Forest) (at : ℕ) → MadeAll rules (t & ts) → (1 ≤ count_of x (tree_steps t at) → x.first_word ≡ at → x.word_count ≡ width_of t → Found (t & none)) → Finds (t & ts) at
  find_more t ts at m ih h e w = go (one_of _ _ (subst (λ n. 1 ≤ n) (count_more x t ts at) h))
    where
      size_zero : (ks : Forest) → size ks ≡ 0 → ks ≡ none
      size_zero none e = refl
      size_zero (k & ks) e = absurd (omega arith)

      go : (1 ≤ count_of x (tree_steps t at)) ⊎ (1 ≤ count_of x (forest_steps ts (at + width_of t))) → Found (t & ts)
      go (inl c) =
          let i = within t at m.0 c in
          let s = widths_size rules bounded ts m.1 in
          let z : ts ≡ none = size_zero ts (omega arith) in
          subst (λ f. Found (t & f)) (sym z) (ih c e (omega arith))
      go (inr c) = let i = within_of ts (at + width_of t) m.1 c in let s = width_some rules bounded t m.0 in absurd (omega arith)

  mutual
    find : (t : Tree) (at : ℕ) → Made rules t → 1 ≤ count_of x (tree_steps t at) → x.first_word ≡ at → x.word_count ≡ width_of t → Found (t & none)
    find (leaf w) at m h e k = absurd (omega arith)
    find (node r ks) at m h e k = find_node r ks at m (find_of ks at m.2) h e k

    find_of : (ks : Forest) (at : ℕ) → MadeAll rules ks → Finds ks at
    find_of none at m h e k = absurd (omega arith)
    find_of (t & ts) at m h e k = find_more t ts at m (find t at m.0) h e k

  -- so it stands once at most
  once_node : (r : ℕ) (ks : Forest) (at : ℕ) → Made rules (node r ks) → count_of x (forest_steps ks at) ≤ 1 → count_of x (tree_steps (node r ks) at) ≤ 1
  once_node r ks at m ih = go (count_of x (forest_steps ks at)) (same_step x (own r ks at)) refl refl
    where
      never : 1 ≤ count_of x (forest_steps ks at) → 1 ≤ same_step x (own r ks at) → ⊥
      never c d =
          let (p, q, w) = same_is x (own r ks at) d in
          let F : Found ks = find_of ks at m.2 c q w in
          let mf : Made rules (node r F.ls) = subst (λ i. Made rules (node i F.ls)) p F.made in
          let u : node r F.ls ≡ node r ks = one_tree rules useful T bounded (rule_of rules r).lhs (useful.reached r m.0) (node r F.ls) (node r ks) mf m refl refl F.like in
          let n : suc (nodes_of F.ls) ≡ suc (nodes_of ks) = ap nodes_in u in
          let g = F.few in
          omega arith

      go : (i j : ℕ) → count_of x (forest_steps ks at) ≡ i → same_step x (own r ks at) ≡ j → count_of x (tree_steps (node r ks) at) ≤ 1
      go zero j e f = let s = same_le x (own r ks at) in let k = count_node x r ks at in omega arith
      go (suc i) zero e f = let k = count_node x r ks at in omega arith
      go (suc i) (suc j) e f = absurd (never (omega arith) (omega arith))

  once_more : (t : Tree) (ts : Forest) (at : ℕ) → MadeAll rules (t & ts) → count_of x (tree_steps t at) ≤ 1 → count_of x (forest_steps ts (at + width_of t)) ≤ 1 → count_of x (forest_steps (t & ts) at) ≤ 1
  once_more t ts at m i₁ i₂ = go (count_of x (tree_steps t at)) (count_of x (forest_steps ts (at + width_of t))) refl refl
    where
      k : count_of x (forest_steps (t & ts) at) ≡ count_of x (tree_steps t at) + count_of x (forest_steps ts (at + width_of t))
      k = count_more x t ts at

      go : (i j : ℕ) → count_of x (tree_steps t at) ≡ i → count_of x (forest_steps ts (at + width_of t)) ≡ j → count_of x (forest_steps (t & ts) at) ≤ 1
      go zero j e f = omega (arith, k)
      go (suc i) zero e f = omega (arith, k)
      go (suc i) (suc j) e f =
          let w₁ = within t at m.0 (omega arith) in
          let w₂ = within_of ts (at + width_of t) m.1 (omega arith) in
          absurd (omega arith)

  mutual
    pub once : (t : Tree) (at : ℕ) → Made rules t → count_of x (tree_steps t at) ≤ 1
    once (leaf w) at m = omega arith
    once (node r ks) at m = once_node r ks at m (once_of ks at m.2)

    pub once_of : (ks : Forest) (at : ℕ) → MadeAll rules ks → count_of x (forest_steps ks at) ≤ 1
    once_of none at m = omega arith
    once_of (t & ts) at m = once_more t ts at m (once t at m.0) (once_of ts (at + width_of t) m.1)
