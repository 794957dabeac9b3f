-- What the bounds of a book say of its rules, and corners by the shape of a right side.
use Rattle.std.proofs.Common.{◌≡◌, ℕ, ◌-◌, ◌≤◌, true, leb, List, [], ◌∷◌, length, get_or, drop, sym, refl, ap, ◌∙◌, subst, arith}
use Rattle.std.proofs.lemmas.Bool.{and_parts, and_from, leb-true, le-leb}
use Rattle.book.specs.Symbols.{is_terminal, is_nonterminal}
use Rattle.book.specs.Rules.{Production, all_bounded}
use Rattle.grammar.specs.Numbered.{first}
use Rattle.grammar.specs.Meaning.{rule_of, InBook, Member, LeftCorner, RightCorner, through}
use Rattle.grammar.specs.Bounded.{left_in, size_in, member_in}

module _ (rules : List Production) (a : all_bounded rules ≡ true) (k : ℕ) (h : InBook rules k) where
  pub left_code : (41 ≤ (rule_of rules k).lhs) × ((rule_of rules k).lhs ≤ 80)
  left_code = left_in rules a k h

  pub left_nonterminal : is_nonterminal (rule_of rules k).lhs ≡ true
  left_nonterminal = and_from _ _ (le-leb 41 (rule_of rules k).lhs left_code.0) (le-leb (rule_of rules k).lhs 80 left_code.1)

  pub right_some : (rule_of rules k).rhs ≡ [] → ⊥
  right_some e = let s = (size_in rules a k h).0 in let z : length (rule_of rules k).rhs ≡ 0 = ap length e in omega arith

  -- a right side is its first symbol, and the others
  pub right_first : (rule_of rules k).rhs ≡ first (rule_of rules k) ∷ drop 1 (rule_of rules k).rhs
  right_first = split (rule_of rules k).rhs right_some
    where
      split : (ws : List ℕ) → (ws ≡ [] → ⊥) → ws ≡ get_or ws 0 0 ∷ drop 1 ws
      split [] n = absurd (n refl)
      split (w ∷ ws) n = refl

  pub right_code : (x : ℕ) → Member x (rule_of rules k).rhs → (1 ≤ x) × (x ≤ 80)
  right_code = member_in rules a k h

-- a terminal is a code from 1 to 40
pub terminal_in : (w : ℕ) → is_terminal w ≡ true → (1 ≤ w) × (w ≤ 40)
terminal_in w e = let p = and_parts (leb 1 w) (leb w 40) e in (leb-true 1 w p.0, leb-true w 40 p.1)

-- the first symbol of a right side that begins with it
pub first_is : (rules : List Production) (q : ℕ) {w : ℕ} {ws : List ℕ} → (rule_of rules q).rhs ≡ w ∷ ws → first (rule_of rules q) ≡ w
first_is rules q e = ap (λ l. get_or l 0 0) e

pub left_through : {rules : List Production} {z x w : ℕ} {ws : List ℕ} (q : ℕ) → InBook rules q → (rule_of rules q).lhs ≡ x → (rule_of rules q).rhs ≡ w ∷ ws → LeftCorner rules z w → LeftCorner rules z x
left_through {rules} {z} q h l e c = through q h l (subst (LeftCorner rules z) (sym (first_is rules q e)) c)

-- z is the last of the symbols
pub data Ends (z : ℕ) : List ℕ → Type 0 where
  ends_here : Ends z (z ∷ [])
  ends_there : {x : ℕ} {ws : List ℕ} → Ends z ws → Ends z (x ∷ ws)

ends_last : {z : ℕ} {ws : List ℕ} → Ends z ws → get_or ws (length ws - 1) 0 ≡ z
ends_last ends_here = refl
ends_last (ends_there {x = x} {ws = ws} e) = ap (λ i. get_or (x ∷ ws) i 0) (omega arith) ∙ behind_first x e
  where
    behind_first : {z : ℕ} (x : ℕ) {ws : List ℕ} → Ends z ws → get_or (x ∷ ws) (length ws) 0 ≡ z
    behind_first x ends_here = refl
    behind_first x (ends_there {x = y} e) = behind_first y e

pub right_through : {rules : List Production} {z x w : ℕ} (q : ℕ) → InBook rules q → (rule_of rules q).lhs ≡ x → Ends w (rule_of rules q).rhs → RightCorner rules z w → RightCorner rules z x
right_through {rules} {z} q h l e c = through q h l (subst (RightCorner rules z) (sym (ends_last e)) c)

-- 0 is not 1: what contradicts itself by its constructors shows that it is
abbrev pub zero_one : ◌≡◌ {A = ℕ} 0 1 → ⊥
zero_one e = omega arith
