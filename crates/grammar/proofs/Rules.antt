-- A slice of rules: it keeps the bounds, since every rule does, and its rules go by number.
use Rattle.std.proofs.Common.{◌≡◌, ℕ, zero, suc, ◌-◌, ◌<◌, ◌≤◌, true, List, [], ◌∷◌, length, get_or, Option, Some, None, MatchOption, Bor, sym, refl, ap, subst, ◌∙◌, arith}
use Rattle.std.specs.Slice.{IsItemAt}
use lib.ListN.{length-map}
use Rattle.std.proofs.lemmas.List.{get_or_past, get_or-map}
use Rattle.std.proofs.lemmas.Bool.{and_from}
use Rattle.grammar.specs.Numbered.{outer, numbered, line_at}
use Rattle.book.specs.Held.{production_of, productions_of}
use Rattle.book.specs.Rules.{all_bounded}
use Rattle.book.specs.declared.rules.Rule.{Rule}

pub rules_bounded : (rs : List Rule) → all_bounded (productions_of rs) ≡ true
rules_bounded [] = refl
rules_bounded (r ∷ rs) = and_from _ _ r.bounded (rules_bounded rs)

-- The rule of a number from 1 up, looked up in a slice: past the slice stands the outer rule.

module _ (rs : List Rule) (k : ℕ) where
  line_outer : length rs ≤ k → line_at (numbered (productions_of rs)) (suc k) ≡ outer
  line_outer h = get_or_past (productions_of rs) k outer (omega (arith, length-map rs production_of))

  line_rule : (r : Rule) → k < length rs → r ≡ get_or rs k r → line_at (numbered (productions_of rs)) (suc k) ≡ production_of r
  line_rule r h e = get_or-map production_of rs k r outer h ∙ ap production_of (sym e)

  line_got : (r : Option (Bor Rule)) → IsItemAt rs k r
      → MatchOption r (line_at (numbered (productions_of rs)) (suc k) ≡ outer) (λ x. line_at (numbered (productions_of rs)) (suc k) ≡ production_of x.now)
  line_got None g = line_outer g.3
  line_got (Some x) g = line_rule x.now g.3.0 g.1

pub rule_got : (rs : List Rule) (n k : ℕ) (r : Option (Bor Rule)) → (1 ≤ n) × (k ≡ n - 1) → IsItemAt rs k r
    → MatchOption r (line_at (numbered (productions_of rs)) n ≡ outer) (λ x. line_at (numbered (productions_of rs)) n ≡ production_of x.now)
rule_got rs zero k r h g = absurd (omega (arith, h.0))
rule_got rs (suc n) k r h g = let e : k ≡ n = omega (arith, h.1) in line_got rs n r (subst (λ j. IsItemAt rs j r) e g)
