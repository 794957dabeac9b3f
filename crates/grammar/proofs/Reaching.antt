-- The symbols that rounds reach are those that the start symbol reaches through rules.
use Rattle.std.proofs.Common.{◌≡◌, ℕ, ◌<◌, true, ◌⊎◌, List, length, sym, refl, subst, inl, inr, lit<}
use Rattle.book.specs.Rules.{Production, all_bounded}
use Rattle.grammar.specs.Sets.{Flags, has, only, symbol_count}
use Rattle.grammar.specs.Numbered.{start_symbol}
use Rattle.grammar.specs.Useful.{insert_all, reach_step, reached_in}
use Rattle.grammar.specs.Meaning.{rule_of, Reached, start, onto}
use Rattle.grammar.specs.Laws.{ReachedMeans}
use Rattle.grammar.specs.Rounds.{unset, In, only_has, only_from, length_only, saturated, saturate_keeps}
use Rattle.grammar.specs.Bounded.{rule_in, number_of}
use Rattle.grammar.proofs.Members.{member_listed, listed_member, right_below, insert_all_keeps, insert_all_from, insert_all_long, insert_all_or, put_if_keeps, put_if_or}

-- a rule for a symbol of the set has its right side there too
abbrev Followed : Flags → Production → Type 0
Followed s p = has s p.lhs ≡ true → (x : ℕ) → In x p.rhs → has s x ≡ true

step_long : (s : Flags) (p : Production) → length (reach_step s p) ≡ length s
step_long s p = put_if_keeps (λ t. length t ≡ length s) (has s p.lhs) (insert_all s p.rhs) s refl (λ e. insert_all_long s p.rhs)

step_or : (s : Flags) (p : Production) → ((x : ℕ) → In x p.rhs → x < symbol_count) → length s ≡ symbol_count
    → (Followed s p × (reach_step s p ≡ s)) ⊎ (unset (reach_step s p) < unset s)
step_or s p ok l = put_if_or ((x : ℕ) → In x p.rhs → has s x ≡ true) (has s p.lhs) (insert_all s p.rhs) s (insert_all_or s p.rhs ok l)

module _ (rules : List Production) where
  -- what a rule in the book puts in is reached
  reaches : (p : Production) → In p rules → Reached rules p.lhs → (x : ℕ) → In x p.rhs → Reached rules x
  reaches p i h x j =
      let r = number_of rules p i in
      let e = sym r.2 in
      onto r.0 r.1 (subst (λ q. Reached rules q.lhs) e h) (listed_member x (rule_of rules r.0).rhs (subst (λ q. In x q.rhs) e j))

  sound : (x : ℕ) → has (reached_in rules) x ≡ true → Reached rules x
  sound =
      let P : Flags → Type 0 = λ s. (x : ℕ) → has s x ≡ true → Reached rules x in
      saturate_keeps reach_step P rules
      (λ s p i h. put_if_keeps P (has s p.lhs) (insert_all s p.rhs) s h (λ e x k. elim (insert_all_from s p.rhs x k) [ inl was ↦ h x was | inr j ↦ reaches p i (h p.lhs e) x j ]))
      (only start_symbol) (λ x e. subst (Reached rules) (sym (only_from start_symbol x e)) start)

  complete : all_bounded rules ≡ true → (x : ℕ) → Reached rules x → has (reached_in rules) x ≡ true
  complete bounded x start =
      saturate_keeps reach_step (λ s. has s start_symbol ≡ true) rules
      (λ s p i h. put_if_keeps (λ t. has t start_symbol ≡ true) (has s p.lhs) (insert_all s p.rhs) s h (λ e. insert_all_keeps s p.rhs start_symbol h))
      (only start_symbol) (only_has start_symbol (lit< tt))
  complete bounded x (onto k b h m) =
      (saturated reach_step (λ p. (y : ℕ) → In y p.rhs → y < symbol_count) Followed step_long step_or rules (right_below rules bounded) (only start_symbol) (length_only start_symbol)).1
      (rule_of rules k) (rule_in rules k b) (complete bounded (rule_of rules k).lhs h) x (member_listed m)

pub reached_means : ReachedMeans
reached_means rules bounded x = (sound rules x, complete rules bounded x)
