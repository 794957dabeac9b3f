-- The search for a useless code answers the lowest one, and none only where there is none.
use Rattle.std.proofs.Common.{◌≡◌, ℕ, zero, suc, ◌+◌, ◌<◌, ◌≤◌, Bool, true, false, not, ◌&&◌, ◌⊎◌, List, [], ◌∷◌, length, Some, None, Option, sym, refl, ap, ◌∙◌, subst, inl, inr, arith, lit<}
use Rattle.std.proofs.lemmas.Bool.{both_ways, not-true, not_from_false, and_parts, and_from, cases_Bool, cases_eq}
use Rattle.book.specs.Rules.{Production, all_bounded}
use Rattle.grammar.specs.Sets.{Flags, has, insert, only, symbol_count, up_from, through}
use Rattle.grammar.specs.Numbered.{start_symbol}
use Rattle.grammar.specs.Useful.{insert_all, reached_in, yielding_in, occurring_in, lowest, is_useless, useless_in}
use Rattle.grammar.specs.Meaning.{rule_of, Occurs, as_start, on_left, on_right}
use Rattle.grammar.specs.Laws.{Useless, LowestUseless, UselessMeans}
use Rattle.grammar.specs.Rounds.{In, insert_keeps, insert_from, insert_has, only_has, only_from, length_only}
use Rattle.grammar.specs.Bounded.{rule_in, number_of}
use Rattle.grammar.proofs.Members.{member_listed, listed_member, left_below, right_below, through_keeps, has_below, insert_long, insert_all_keeps, insert_all_from, insert_all_has, insert_all_long}
use Rattle.grammar.proofs.Reaching.{reached_means}
use Rattle.grammar.proofs.Yielding.{yields_means}

-- Codes that occur.

-- the set with both sides of a rule put in
abbrev enter : Flags → Production → Flags
enter s p = insert_all (insert s p.lhs) p.rhs

-- what stands in a rule
abbrev Stands : ℕ → Production → Type 0
Stands x p = (x ≡ p.lhs) ⊎ In x p.rhs

enter_long : (s : Flags) (p : Production) → length (enter s p) ≡ length s
enter_long s p = insert_all_long (insert s p.lhs) p.rhs ∙ insert_long s p.lhs

enter_keeps : (s : Flags) (p : Production) (x : ℕ) → has s x ≡ true → has (enter s p) x ≡ true
enter_keeps s p x e = insert_all_keeps (insert s p.lhs) p.rhs x (insert_keeps s p.lhs x e)

enter_from : (s : Flags) (p : Production) (x : ℕ) → has (enter s p) x ≡ true → (has s x ≡ true) ⊎ Stands x p
enter_from s p x e =
    elim (insert_all_from (insert s p.lhs) p.rhs x e)
    [ inl h ↦ elim (insert_from s p.lhs x h) [ inl was ↦ inl was | inr is ↦ inr (inl is) ] | inr i ↦ inr (inr i) ]

enter_has : (s : Flags) (p : Production) (x : ℕ) → x < length s → Stands x p → has (enter s p) x ≡ true
enter_has s p x h (inl e) = insert_all_keeps (insert s p.lhs) p.rhs x (subst (λ y. has (insert s y) x ≡ true) e (insert_has s x h))
enter_has s p x h (inr i) = insert_all_has (insert s p.lhs) p.rhs x i (omega (arith, insert_long s p.lhs))

through_has : (rules : List Production) (s : Flags) (p : Production) (x : ℕ) → In p rules → x < length s → Stands x p → has (through enter rules s) x ≡ true
through_has [] s p x i h on = absurd i
through_has (q ∷ qs) s p x (inl e) h on = through_keeps enter (λ t. has t x ≡ true) qs (λ t r j. enter_keeps t r x) (enter s q) (enter_has s q x h (subst (Stands x) e on))
through_has (q ∷ qs) s p x (inr i) h on = through_has qs (enter s q) p x i (omega (arith, enter_long s q)) on

module _ (rules : List Production) where
  -- what stands in a rule of the book occurs
  stands_occurs : (p : Production) → In p rules → (x : ℕ) → Stands x p → Occurs rules x
  stands_occurs p i x on =
      let r = number_of rules p i in
      elim on [
        | inl e ↦ on_left r.0 r.1 (ap (λ q. q.lhs) r.2 ∙ sym e)
        | inr j ↦ on_right r.0 r.1 (listed_member x (rule_of rules r.0).rhs (subst (λ q. In x q.rhs) (sym r.2) j))
      ]

  occurs_from : (x : ℕ) → has (occurring_in rules) x ≡ true → Occurs rules x
  occurs_from =
      through_keeps enter (λ s. (x : ℕ) → has s x ≡ true → Occurs rules x) rules
      (λ s p i h x e. elim (enter_from s p x e) [ inl was ↦ h x was | inr on ↦ stands_occurs p i x on ])
      (only start_symbol) (λ x e. subst (Occurs rules) (sym (only_from start_symbol x e)) as_start)

  in_rule : (p : Production) → In p rules → (x : ℕ) → x < symbol_count → Stands x p → has (occurring_in rules) x ≡ true
  in_rule p i x h on = through_has rules (only start_symbol) p x i (omega (arith, length_only start_symbol)) on

  -- whether a code is useless, as the search tests it
  abbrev test : ℕ → Bool
  test = is_useless (occurring_in rules) (reached_in rules) (yielding_in rules)

module _ (rules : List Production) (bounded : all_bounded rules ≡ true) where
  occurs_has : (x : ℕ) → Occurs rules x → has (occurring_in rules) x ≡ true
  occurs_has x as_start = through_keeps enter (λ s. has s start_symbol ≡ true) rules (λ s p i. enter_keeps s p start_symbol) (only start_symbol) (only_has start_symbol (lit< tt))
  occurs_has x (on_left k b e) =
      let i = rule_in rules k b in
      in_rule rules (rule_of rules k) i x (subst (λ y. y < symbol_count) e (left_below rules bounded (rule_of rules k) i)) (inl (sym e))
  occurs_has x (on_right k b m) =
      let i = rule_in rules k b in
      in_rule rules (rule_of rules k) i x (right_below rules bounded (rule_of rules k) i x (member_listed m)) (inr (member_listed m))

  occurs_below : (x : ℕ) → Occurs rules x → x < symbol_count
  occurs_below x o =
      let long = through_keeps enter (λ s. length s ≡ symbol_count) rules (λ s p i l. enter_long s p ∙ l) (only start_symbol) (length_only start_symbol) in
      omega (arith, has_below (occurring_in rules) x (occurs_has x o))

  test_useless : (x : ℕ) → test rules x ≡ true → Useless rules x
  test_useless x e =
      let r = has (reached_in rules) x in
      let y = has (yielding_in rules) x in
      let parts = and_parts (has (occurring_in rules) x) (not (r && y)) e in
      record {
        occurs = occurs_from rules x parts.0;
        idle = λ reached yields. both_ways (r && y) (not-true (r && y) parts.1) (and_from r y ((reached_means rules bounded x).1 reached) ((yields_means rules bounded x).1 yields));
      }

  useless_test : (x : ℕ) → Useless rules x → test rules x ≡ true
  useless_test x u =
      let r = has (reached_in rules) x in
      let y = has (yielding_in rules) x in
      and_from (has (occurring_in rules) x) (not (r && y)) (occurs_has x u.occurs)
      (elim (cases_Bool (r && y)) [
        | inl e ↦ let p = and_parts r y e in absurd (u.idle ((reached_means rules bounded x).0 p.0) ((yields_means rules bounded x).0 p.1))
        | inr e ↦ not_from_false (r && y) e
      ])

-- The search.

-- the answer is the lowest number from k up that passes; where there is none, none of the n numbers from k up passes
abbrev Lowest : (ℕ → Bool) → ℕ → ℕ → Option ℕ → Type 0
Lowest test k n (Some x) = (test x ≡ true) × ((y : ℕ) → k ≤ y → test y ≡ true → x ≤ y)
Lowest test k n None = (y : ℕ) → k ≤ y → y < k + n → test y ≡ true → ⊥

-- what is said from the next number up holds from this one up, which fails
lowest_later : (test : ℕ → Bool) (k n : ℕ) → test k ≡ false → (o : Option ℕ) → Lowest test (suc k) n o → Lowest test k (suc n) o
lowest_later test k n e (Some x) low = (low.0, λ y h t. elim (cases_eq k y) [ inl p ↦ absurd (both_ways (test y) (ap test (sym p) ∙ e) t) | inr d ↦ low.1 y (omega arith) t ])
lowest_later test k n e None low = λ y h l t. elim (cases_eq k y) [ inl p ↦ both_ways (test y) (ap test (sym p) ∙ e) t | inr d ↦ low y (omega arith) (omega arith) t ]

lowest_is : (test : ℕ → Bool) (k n : ℕ) → Lowest test k n (lowest test (up_from k n))
lowest_is test k zero = λ y h l t. omega arith
lowest_is test k (suc n) = go (test k) refl (lowest_is test (suc k) n)
  where
    go : (b : Bool) → test k ≡ b → Lowest test (suc k) n (lowest test (up_from (suc k) n)) → Lowest test k (suc n) (elim b as (λ _. Option ℕ) [ true ↦ Some k | false ↦ lowest test (up_from (suc k) n) ])
    go true e low = (e, λ y h t. h)
    go false e low = lowest_later test k n e (lowest test (up_from (suc k) n)) low

pub useless_means : UselessMeans
useless_means rules bounded = go (useless_in rules) (lowest_is (test rules) 0 symbol_count)
  where
    go : (o : Option ℕ) → Lowest (test rules) 0 symbol_count o → LowestUseless rules o
    go (Some x) low = (test_useless rules bounded x low.0, λ y u. low.1 y (omega arith) (useless_test rules bounded y u))
    go None low = λ y u. low y (omega arith) (occurs_below rules bounded y u.occurs) (useless_test rules bounded y u)
