-- What the bounds test says of each rule of a book, by the rule's number and as an element of the book's list.
use Rattle.std.specs.Prelude.{◌≡◌, ℕ, zero, suc, ◌-◌, ◌<◌, ◌≤◌, true, ◌&&◌, List, [], ◌∷◌, length, nat_le, slice_index, slice_index_or, refl}
use Rattle.std.proofs.Common.{inl, inr, sym, subst, arith}
use Rattle.std.proofs.lemmas.Bool.{and_parts, leb-true}
use Rattle.book.specs.Symbols.{first_nonterminal, last_symbol, longest_right, within, is_nonterminal, is_symbol}
use Rattle.book.specs.Rules.{Production, Bounded, all_symbols, is_bounded, all_bounded}
use Rattle.grammar.specs.Numbered.{outer, first, final}
use Rattle.grammar.specs.Meaning.{rule_of, InBook, Member, front, behind, Adjacent, here, later}
use Rattle.grammar.specs.Rounds.{In}

-- Elements and their places.

pub in_at : {A : Type 0} (xs : List A) (i : ℕ) (d : A) → i < length xs → In (slice_index_or xs i d) xs
in_at [] i d h = absurd (omega arith)
in_at (x ∷ xs) zero d h = inl refl
in_at (x ∷ xs) (suc i) d h = inr (in_at xs i d (omega arith))

pub place_of : {A : Type 0} (xs : List A) (x d : A) → In x xs → (i : ℕ) × (i < length xs) × (slice_index_or xs i d ≡ x)
place_of [] x d m = absurd m
place_of (y ∷ ys) x d (inl e) = (0, omega arith, sym e)
place_of (y ∷ ys) x d (inr m) = let r = place_of ys x d m in (suc r.0, omega (arith, r.1), r.2)

pub member_at : (ws : List ℕ) (i : ℕ) → i < length ws → Member (slice_index ws i) ws
member_at [] i h = absurd (omega arith)
member_at (w ∷ ws) zero h = front
member_at (w ∷ ws) (suc i) h = behind (member_at ws i (omega arith))

-- what holds of the symbol at each place holds of each symbol
pub at_places : (P : ℕ → Type 0) (ws : List ℕ) → ((i : ℕ) → i < length ws → P (slice_index ws i)) → (x : ℕ) → Member x ws → P x
at_places P [] all x m = elim m [ ]
at_places P (w ∷ ws) all x front = all 0 (omega arith)
at_places P (w ∷ ws) all x (behind m) = at_places P ws (λ i h. all (suc i) (omega arith)) x m

pub adjacent_members : {x y : ℕ} (ws : List ℕ) → Adjacent x y ws → Member x ws × Member y ws
adjacent_members [] n = elim n [ ]
adjacent_members (w ∷ ws) here = (front, behind front)
adjacent_members (w ∷ ws) (later n) = let m = adjacent_members ws n in (behind m.0, behind m.1)

-- Rules by number and as elements.

pub rule_in : (rules : List Production) (k : ℕ) → InBook rules k → In (rule_of rules k) rules
rule_in rules zero b = absurd (omega (arith, b.low))
rule_in rules (suc k) b = in_at rules k outer (omega (arith, b.high))

pub number_of : (rules : List Production) (p : Production) → In p rules → (k : ℕ) × InBook rules k × (rule_of rules k ≡ p)
number_of rules p m =
    let r = place_of rules p outer m in
    (suc r.0, record { low = omega arith; high = omega (arith, r.1) }, r.2)

-- what holds of each rule by its number holds of each element
pub of_each : (P : Production → Type 0) (rules : List Production) → ((k : ℕ) → InBook rules k → P (rule_of rules k)) → (p : Production) → In p rules → P p
of_each P rules all p m = let r = number_of rules p m in subst P r.2 (all r.0 r.1)

-- The test.

within_parts : (low high x : ℕ) → within low high x ≡ true → (low ≤ x) × (x ≤ high)
within_parts low high x w = let p = and_parts (nat_le low x) (nat_le x high) w in (leb-true low x p.0, leb-true x high p.1)

symbols_at : (xs : List ℕ) → all_symbols xs ≡ true → (i : ℕ) → i < length xs → (1 ≤ slice_index xs i) × (slice_index xs i ≤ last_symbol)
symbols_at [] a i h = absurd (omega arith)
symbols_at (x ∷ xs) a zero h = within_parts 1 last_symbol x (and_parts (is_symbol x) (all_symbols xs) a).0
symbols_at (x ∷ xs) a (suc i) h = symbols_at xs (and_parts (is_symbol x) (all_symbols xs) a).1 i (omega arith)

rule_bounded : (p : Production) → is_bounded p ≡ true → Bounded p
rule_bounded p b =
    let l = and_parts (is_nonterminal p.lhs) (within 1 longest_right (length p.rhs) && all_symbols p.rhs) b in
    let r = and_parts (within 1 longest_right (length p.rhs)) (all_symbols p.rhs) l.1 in
    record { left_in = within_parts first_nonterminal last_symbol p.lhs l.0; size_in = within_parts 1 longest_right (length p.rhs) r.0; codes_in = symbols_at p.rhs r.1 }

-- every rule of a book within bounds is within its bounds
pub bounded_in : (rules : List Production) → all_bounded rules ≡ true → (p : Production) → In p rules → Bounded p
bounded_in [] a p m = absurd m
bounded_in (q ∷ qs) a p (inl e) = subst Bounded (sym e) (rule_bounded q (and_parts (is_bounded q) (all_bounded qs) a).0)
bounded_in (q ∷ qs) a p (inr m) = bounded_in qs (and_parts (is_bounded q) (all_bounded qs) a).1 p m

module _ (rules : List Production) (a : all_bounded rules ≡ true) (k : ℕ) (b : InBook rules k) where
  pub bounded_rule : Bounded (rule_of rules k)
  bounded_rule = bounded_in rules a (rule_of rules k) (rule_in rules k b)

  pub left_in : (first_nonterminal ≤ (rule_of rules k).lhs) × ((rule_of rules k).lhs ≤ last_symbol)
  left_in = bounded_rule.left_in

  pub size_in : (1 ≤ length (rule_of rules k).rhs) × (length (rule_of rules k).rhs ≤ longest_right)
  size_in = bounded_rule.size_in

  pub symbol_in : (i : ℕ) → i < length (rule_of rules k).rhs → (1 ≤ slice_index (rule_of rules k).rhs i) × (slice_index (rule_of rules k).rhs i ≤ last_symbol)
  symbol_in = bounded_rule.codes_in

  pub member_in : (x : ℕ) → Member x (rule_of rules k).rhs → (1 ≤ x) × (x ≤ last_symbol)
  member_in = at_places (λ x. (1 ≤ x) × (x ≤ last_symbol)) (rule_of rules k).rhs symbol_in

  pub first_in : (1 ≤ first (rule_of rules k)) × (first (rule_of rules k) ≤ last_symbol)
  first_in = symbol_in 0 (omega (arith, size_in.0))

  pub final_in : (1 ≤ final (rule_of rules k)) × (final (rule_of rules k) ≤ last_symbol)
  final_in = symbol_in (length (rule_of rules k).rhs - 1) (omega (arith, size_in.0))
