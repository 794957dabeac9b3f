-- Upper forests: the part of a forest that is still to be reduced.
use Rattle.std.proofs.Common.{◌≡◌, ℕ, suc, ◌+◌, Bool, true, false, List, refl, ap, ◌∙◌}
use Rattle.reading.specs.Trees.{Tree, Forest, node, leaf, none, ◌&◌, leaves, leaves_of}
use Rattle.reading.specs.Reader.{as_leaves}

-- An upper forest: the part of a forest that is still to be reduced.
-- A front tree is whole (it stands on the stack, is pending, or is a word not yet taken); a node is not yet reduced.
pub data Up : Type 0 where
  end : Up
  fr : Tree → Up → Up
  nd : ℕ → Up → Up → Up

abbrev pub whole : Up → Forest
whole end = none
whole (fr t us) = t & whole us
whole (nd r vs us) = node r (whole vs) & whole us

-- the front trees, before what follows
abbrev pub fronts : Up → Forest → Forest
fronts end τ = τ
fronts (fr t us) τ = t & fronts us τ
fronts (nd r vs us) τ = fronts vs (fronts us τ)

-- how many nodes are still to be reduced
abbrev pub nds : Up → ℕ
nds end = 0
nds (fr t us) = nds us
nds (nd r vs us) = suc (nds vs + nds us)

abbrev pub some? : Up → Bool
some? end = false
some? (fr t us) = true
some? (nd r vs us) = true

-- the upper forest of a tree whose words are all still to be read
mutual
  pub up : Tree → Up → Up
  up (leaf w) us = fr (leaf w) us
  up (node r ks) us = nd r (ups ks) us

  pub ups : Forest → Up
  ups none = end
  ups (t & ts) = up t (ups ts)

mutual
  unfolding up ups

  pub whole_up : (t : Tree) (us : Up) → whole (up t us) ≡ t & whole us
  whole_up (leaf w) us = refl
  whole_up (node r ks) us = ap (λ f. node r f & whole us) (whole_ups ks)

  pub whole_ups : (ts : Forest) → whole (ups ts) ≡ ts
  whole_ups none = refl
  whole_ups (t & ts) = whole_up t (ups ts) ∙ ap (λ f. t & f) (whole_ups ts)

mutual
  unfolding up ups

  pub front_up : (t : Tree) (us : Up) (τ : Forest) (ws : List ℕ) → fronts us τ ≡ as_leaves ws → fronts (up t us) τ ≡ as_leaves (leaves t ws)
  front_up (leaf w) us τ ws e = ap (λ f. leaf w & f) e
  front_up (node r ks) us τ ws e = front_ups ks (fronts us τ) ws e

  pub front_ups : (ts τ : Forest) (ws : List ℕ) → τ ≡ as_leaves ws → fronts (ups ts) τ ≡ as_leaves (leaves_of ts ws)
  front_ups none τ ws e = e
  front_ups (t & ts) τ ws e = front_up t (ups ts) τ (leaves_of ts ws) (front_ups ts τ ws e)
