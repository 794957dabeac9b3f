-- The symbols that rounds mark as yielding are those that yield a line of terminals through rules.
use Rattle.std.proofs.Common.{◌≡◌, ℕ, zero, suc, ◌+◌, ◌<◌, Bool, true, leb, ◌⊎◌, List, map, length, sym, refl, ap, ◌∙◌, subst, inl, inr, arith}
use Rattle.std.proofs.lemmas.Bool.{and_parts, leb-true}
use Rattle.book.specs.Rules.{Production, all_bounded}
use Rattle.book.specs.Symbols.{is_terminal, last_terminal}
use Rattle.grammar.specs.Sets.{Flags, has, insert, symbol_count, up_from, every}
use Rattle.grammar.specs.Useful.{yield_step, terminals, yielding_in}
use Rattle.grammar.specs.Meaning.{rule_of, Yields, terminal, by_rule}
use Rattle.grammar.specs.Laws.{YieldsMeans}
use Rattle.grammar.specs.Rounds.{unset, In, insert_keeps, insert_from, saturated, saturate_keeps}
use Rattle.grammar.specs.Bounded.{rule_in, number_of}
use Rattle.grammar.proofs.Members.{member_listed, listed_member, left_below, has_below, insert_long, insert_one_or, put_if_keeps, put_if_or, every_in, in_every}

-- Terminals.

tested : (test : ℕ → Bool) (k n i : ℕ) → i < n → has (map test (up_from k n)) i ≡ test (k + i)
tested test k zero i h = absurd (omega arith)
tested test k (suc n) zero h = let e : k ≡ k + 0 = omega arith in ap test e
tested test k (suc n) (suc i) h = let e : suc k + i ≡ k + suc i = omega arith in tested test (suc k) n i (omega arith) ∙ ap test e

has_terminal : (x : ℕ) → x < symbol_count → has terminals x ≡ is_terminal x
has_terminal x h = let e : 0 + x ≡ x = omega arith in tested is_terminal 0 symbol_count x h ∙ ap is_terminal e

terminal_below : (x : ℕ) → is_terminal x ≡ true → x < symbol_count
terminal_below x e = omega (arith, leb-true x last_terminal (and_parts (leb 1 x) (leb x last_terminal) e).1)

-- a rule of which the right side is in the set has its left side there too
abbrev Yielded : Flags → Production → Type 0
Yielded s p = every (has s) p.rhs ≡ true → has s p.lhs ≡ true

step_long : (s : Flags) (p : Production) → length (yield_step s p) ≡ length s
step_long s p = put_if_keeps (λ t. length t ≡ length s) (every (has s) p.rhs) (insert s p.lhs) s refl (λ e. insert_long s p.lhs)

step_or : (s : Flags) (p : Production) → p.lhs < symbol_count → length s ≡ symbol_count → (Yielded s p × (yield_step s p ≡ s)) ⊎ (unset (yield_step s p) < unset s)
step_or s p h l = put_if_or (has s p.lhs ≡ true) (every (has s) p.rhs) (insert s p.lhs) s (insert_one_or s p.lhs h l)

module _ (rules : List Production) where
  -- a rule in the book of which all right symbols yield makes its left side yield
  yields : (p : Production) → In p rules → ((x : ℕ) → In x p.rhs → Yields rules x) → Yields rules p.lhs
  yields p i h =
      let r = number_of rules p i in
      by_rule r.0 r.1 (ap (λ q. q.lhs) r.2) (λ x m. h x (subst (λ q. In x q.rhs) r.2 (member_listed m)))

  sound : (x : ℕ) → has (yielding_in rules) x ≡ true → Yields rules x
  sound =
      let P : Flags → Type 0 = λ s. (x : ℕ) → has s x ≡ true → Yields rules x in
      saturate_keeps yield_step P rules
      (λ s p i h. put_if_keeps P (every (has s) p.rhs) (insert s p.lhs) s h (λ e x k.
      elim (insert_from s p.lhs x k)
      [ inl was ↦ h x was | inr is ↦ subst (Yields rules) (sym is) (yields p i (λ y j. h y (every_in (has s) p.rhs e y j))) ]))
      terminals (λ x e. terminal (sym (has_terminal x (has_below terminals x e)) ∙ e))

  complete : all_bounded rules ≡ true → (x : ℕ) → Yields rules x → has (yielding_in rules) x ≡ true
  complete bounded x (terminal t) =
      saturate_keeps yield_step (λ s. has s x ≡ true) rules
      (λ s p i h. put_if_keeps (λ t. has t x ≡ true) (every (has s) p.rhs) (insert s p.lhs) s h (λ e. insert_keeps s p.lhs x h))
      terminals (has_terminal x (terminal_below x t) ∙ t)
  complete bounded x (by_rule k b e f) =
      let done = (saturated yield_step (λ p. p.lhs < symbol_count) Yielded step_long step_or rules (left_below rules bounded) terminals refl).1 (rule_of rules k) (rule_in rules k b) in
      ap (has (yielding_in rules)) (sym e) ∙ done (in_every (has (yielding_in rules)) (rule_of rules k).rhs (λ y i. complete bounded y (f y (listed_member y (rule_of rules k).rhs i))))

pub yields_means : YieldsMeans
yields_means rules bounded x = (sound rules x, complete rules bounded x)
