-- In a book whose symbols are all useful, not only the start symbol but each nonterminal has at most one tree over the same words.
use Rattle.std.proofs.Common.{◌≡◌, ℕ, true, List, [], ◌∷◌, sym, refl, ap}
use Rattle.grammar.specs.Meaning.{rule_of, Member, front, behind, Reached, start, onto, Yields, terminal, by_rule}
use Rattle.reading.specs.Trees.{Tree, Forest, node, leaf, none, ◌&◌, label, labels, leaves, leaves_of, Made, MadeAll}
use Rattle.reading.specs.Promise.{AllUseful}
use Rattle.reading.specs.Tables.{Faithful}
use Rattle.book.specs.Rules.{Production, all_bounded}
use Rattle.reading.proofs.Complete.{unique}

-- two trees, and two forests, over the same words
abbrev pub Like : Tree → Tree → Type 0
Like t t' = (ws : List ℕ) → leaves t ws ≡ leaves t' ws

module _ (rules : List Production) where
  abbrev ATree : ℕ → Type 0
  ATree X = (t : Tree) × Made rules t × (label rules t ≡ X)

  abbrev AForest : List ℕ → Type 0
  AForest α = (f : Forest) × MadeAll rules f × (labels rules f ≡ α)

  plant : (α : List ℕ) → ((Y : ℕ) → Member Y α → ATree Y) → AForest α
  plant [] h = (none, tt, refl)
  plant (X ∷ α) h =
      let (t, m, e) = h X front in
      let (f, n, g) = plant α (λ Y y. h Y (behind y)) in
      (t & f, (m, n), cc)

  grow : {X : ℕ} → Yields rules X → ATree X
  grow (terminal {x = w} h) = (leaf w, h, refl)
  grow (by_rule q h e f) =
      let (ks, m, g) = plant (rule_of rules q).rhs (λ Y y. grow (f Y y)) in
      (node q ks, (h, g, m), e)

  -- a forest with a place for a tree of X
  record Hole (X : ℕ) (α : List ℕ) : Type 0 where
    fill : Tree → Forest
    made : (t : Tree) → Made rules t → MadeAll rules (fill t)
    fits : (t : Tree) → label rules t ≡ X → labels rules (fill t) ≡ α
    keeps : (t t' : Tree) → Like t t' → (ws : List ℕ) → leaves_of (fill t) ws ≡ leaves_of (fill t') ws
    sole : (t t' : Tree) → fill t ≡ fill t' → t ≡ t'

  hole : {X : ℕ} {α : List ℕ} → Member X α → ((Y : ℕ) → Member Y α → Yields rules Y) → Hole X α
  hole (front {ws = α}) y =
      let (f, n, g) = plant α (λ Y h. grow (y Y (behind h))) in
      record {
        fill = λ t. t & f;
        made = λ t m. (m, n);
        fits = λ t e. cc;
        keeps = λ t t' l ws. l (leaves_of f ws);
        sole = λ t t' e. cc;
      }
  hole (behind {w = Z} {ws = α} h) y =
      let (z, m, g) = grow (y Z front) in
      let H : Hole _ α = hole h (λ Y k. y Y (behind k)) in
      record {
        fill = λ t. z & H.fill t;
        made = λ t k. (m, H.made t k);
        fits = λ t e. let u = H.fits t e in cc;
        keeps = λ t t' l ws. ap (leaves z) (H.keeps t t' l ws);
        sole = λ t t' e. H.sole t t' (cc);
      }

  -- a tree of 41 with a place for a tree of X
  record Context (X : ℕ) : Type 0 where
    plug : Tree → Tree
    made : (t : Tree) → Made rules t → label rules t ≡ X → Made rules (plug t)
    root : (t : Tree) → label rules t ≡ X → label rules (plug t) ≡ 41
    keeps : (t t' : Tree) → Like t t' → Like (plug t) (plug t')
    sole : (t t' : Tree) → plug t ≡ plug t' → t ≡ t'

  module _ (useful : AllUseful rules) where
    context : {X : ℕ} → Reached rules X → Context X
    context start = record { plug = λ t. t; made = λ t m e. m; root = λ t e. e; keeps = λ t t' l. l; sole = λ t t' e. e }
    context (onto q h r x) =
        let K : Context (rule_of rules q).lhs = context r in
        let H : Hole _ (rule_of rules q).rhs = hole x (useful.yields q h) in
        record {
          plug = λ t. K.plug (node q (H.fill t));
          made = λ t m e. K.made _ (h, H.fits t e, H.made t m) refl;
          root = λ t e. K.root _ refl;
          keeps = λ t t' l. K.keeps _ _ (H.keeps t t' l);
          sole = λ t t' e. H.sole t t' (let u = K.sole _ _ e in cc);
        }

    -- two trees of one nonterminal over the same words are one
    pub one_tree : Faithful rules → all_bounded rules ≡ true → (X : ℕ) → Reached rules X → (t t' : Tree) → Made rules t → Made rules t' → label rules t ≡ X → label rules t' ≡ X → Like t t' → t ≡ t'
    one_tree T bounded X r t t' m m' e e' l =
        let K : Context X = context r in
        K.sole t t' (unique rules T bounded (K.plug t) (K.plug t') (leaves (K.plug t) [])
        (record { made = K.made t m e; root = K.root t e; spells = refl })
        (record { made = K.made t' m' e'; root = K.root t' e'; spells = sym (K.keeps t t' l []) }))
