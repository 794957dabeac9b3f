-- What the reader builds is a tree of the book over the words: soundness.
use Rattle.std.proofs.Common.{◌≡◌, ℕ, ◌≤◌, true, ◌⊎◌, List, [], ◌∷◌, ◌++◌, sym, refl, ap, ◌∙◌, subst, ap₂, inl, inr, arith}
use Rattle.book.specs.Rules.{Production, all_bounded}
use Rattle.grammar.specs.Meaning.{rule_of, InBook, Member, front, behind, kept, opens, closed, expands, reads, shifts}
use Rattle.reading.specs.Trees.{Tree, Forest, label, labels, leaves_of, MadeAll, Derives}
use Rattle.reading.specs.Tables.{Passing, Faithful}
use Rattle.reading.specs.Reader.{Pile, base, push, top_of, Runs, run_done, run_go, as_leaves, AllTerminals}
use Rattle.reading.proofs.Basics.{right_code}
use Rattle.reading.proofs.Behind.{W, Ap, Linked, Behind, lies_behind}
use Rattle.reading.proofs.Stepping.{linked_kids, MadeStack, Sane, sane_step, under}
use Rattle.reading.proofs.Accepting.{over_zero, Accepted, accepted}

module _ (rules : List Production) (T : Faithful rules) (bounded : all_bounded rules ≡ true) where
  open T use {start_state, next_state, action_at, in_kernel, in_lookahead, starts, moves, chosen}

  abbrev at : Pile → ℕ
  at σ = top_of start_state σ

  -- the end mark is never read
  has_last : (α β : List ℕ) (X : ℕ) → Member X (α ++ (X ∷ β))
  has_last [] β X = front
  has_last (Y ∷ α) β X = behind (has_last α β X)

  rule_base : {r d : ℕ} → W rules T start_state r d → (r ≡ 0) ⊎ InBook rules r
  rule_base (closed (kept {r = r} {d = d} k)) = inl ((starts r d).0 k).0
  rule_base (closed (opens q c e h l)) = inr h
  rule_base (expands q c e h lm ph hq hd nl) = inr hq

  rule_push : (σ : Pile) (t : Tree) (s : ℕ) {r d : ℕ} → Linked rules T (push σ t s) → W rules T s r d → d ≡ 0 → (r ≡ 0) ⊎ InBook rules r
  rule_push σ t s L (closed (kept {r = r} {d = d} k)) z = absurd (over_zero rules T ((moves (at σ) (label rules t) L.1 r d).0 (subst (λ x. Passing (in_kernel x) r d) L.2 k)) z)
  rule_push σ t s L (closed (opens q c e h l)) z = inr h
  rule_push σ t s L (expands q c e h lm ph hq hd nl) z = inr hq

  the_rule : (σ : Pile) (r : ℕ) → Linked rules T σ → W rules T (at σ) r 0 → (r ≡ 0) ⊎ InBook rules r
  the_rule base r L w = rule_base w
  the_rule (push σ t s) r L w = rule_push σ t s L w refl

  has_one : {X Y : ℕ} → Member X (Y ∷ []) → X ≡ Y
  has_one front = refl
  has_one (behind h) = elim h [ ]

  code_some : (r : ℕ) {X : ℕ} → (r ≡ 0) ⊎ InBook rules r → Member X (rule_of rules r).rhs → 1 ≤ X
  code_some r {X} (inl e) h = let u : X ≡ 41 = has_one (subst (λ q. Member X (rule_of rules q).rhs) e h) in omega arith
  code_some r {X} (inr h) x = (right_code rules bounded r h X x).0

  pub reads_some : (σ : Pile) {X : ℕ} → Linked rules T σ → Ap rules T (at σ) X shifts → 1 ≤ X
  reads_some σ {X} L (reads {r = r} {d = d} {ws = α} w e) =
      let B : Behind rules T σ r d = lies_behind rules T σ L r d w in
      let h : Member X (rule_of rules r).rhs = subst (Member X) (ap (λ l. labels rules B.ks ++ l) (sym e) ∙ B.fits) (has_last (labels rules B.ks) α X) in
      code_some r (the_rule B.σ₀ r (linked_kids rules T B.kids L) B.begun) h

  sound_run : {line : List ℕ} {σ : Pile} {ρ : Forest} {t : Tree} → Sane rules T line σ ρ → Runs rules T σ ρ t → Derives rules t line
  sound_run {line} {σ} {ρ} {t} S (run_done e) =
      let A : Accepted rules T bounded σ ρ t = accepted rules T bounded S.linked S.made_ρ e in
      record {
        made = (subst (MadeStack rules T) A.alone S.made_σ).1;
        root = A.root;
        spells = sym (ap₂ (λ x f. under x (leaves_of f [])) A.alone A.nothing) ∙ S.covers;
      }
  sound_run S (run_go e r) = sound_run (sane_step rules T S e) r

made_leaves : (rules : List Production) (ws : List ℕ) → AllTerminals ws → MadeAll rules (as_leaves ws)
made_leaves rules [] h = tt
made_leaves rules (w ∷ ws) h = (h.0, made_leaves rules ws h.1)

leaves_leaves : (ws : List ℕ) → leaves_of (as_leaves ws) [] ≡ ws
leaves_leaves [] = refl
leaves_leaves (w ∷ ws) = ap (λ l. w ∷ l) (leaves_leaves ws)

pub sane_start : (rules : List Production) (T : Faithful rules) (line : List ℕ) → AllTerminals line → Sane rules T line base (as_leaves line)
sane_start rules T line h = record { linked = tt; made_σ = tt; made_ρ = made_leaves rules line h; covers = leaves_leaves line }

-- The tree that the reader builds derives the line.
pub sound : (rules : List Production) (T : Faithful rules) → all_bounded rules ≡ true → (line : List ℕ) (t : Tree) → AllTerminals line → Runs rules T base (as_leaves line) t → Derives rules t line
sound rules T bounded line t h r = sound_run rules T bounded (sane_start rules T line h) r
