-- Expansion, one complete rule and one row at a time.
use Rattle.std.proofs.Common.{◌≡◌, ℕ, zero, suc, ◌+◌, ◌<◌, ◌≤◌, Bool, true, false, not, ◌||◌, leb, List, [], ◌∷◌, ◌++◌, map, length, get_or, take, drop, set, sym, refl, ap, ◌∙◌, ap₂, subst, arith, inl, inr}
use lib.ListN.{length-map}
use Rattle.std.proofs.lemmas.List.{append_assoc, drop_more, take_more_set, drop-set-lt, get_or_past}
use Rattle.std.proofs.lemmas.Bool.{le-leb, cases_lt}
use Rattle.std.specs.List.{list_any, range_with_len}
use Rattle.book.specs.declared.rules.Rule.{Rule}
use Rattle.book.specs.Rules.{Production}
use Rattle.book.specs.Held.{production_of, productions_of}
use Rattle.grammar.specs.Sets.{Flags, has, symbol_count, codes, any, keep, up_from}
use Rattle.grammar.specs.Items.{Items}
use Rattle.grammar.specs.Numbered.{line_at, first, outer}
use Rattle.grammar.specs.Relations.{Relations}
use Rattle.grammar.specs.Lookahead.{Look, leads, expands, add_rules, expand_for}
use Rattle.grammar.specs.Meaning.{InBook}
use Rattle.grammar.specs.Bounded.{size_in, first_in}
use Rattle.grammar.specs.Flagging.{insert_if, at_code}
use Rattle.grammar.proofs.Rules.{rules_bounded}
use Rattle.tables.specs.Kept.{lines_of}

-- a list that is changed in place, element by element, by its places
pub places_more : {Y : Type 0} (F : ℕ → List Y → List Y) (g : ℕ → Y → Y) → ((q : ℕ) (y : Y) (ys : List Y) → F q (y ∷ ys) ≡ g q y ∷ F (suc q) ys)
    → (ys : List Y) (k : ℕ) (e v : Y) → k < length ys → v ≡ g k (get_or ys k e)
    → take (k + 1) (set ys k v) ++ F (k + 1) (drop (k + 1) (set ys k v)) ≡ take k ys ++ F k (drop k ys)
places_more F g step ys k e v i is =
    let n : suc k ≡ k + 1 = omega arith in
    let f : F k (drop k ys) ≡ g k (get_or ys k e) ∷ F (k + 1) (drop (k + 1) ys) =
    ap (F k) (drop_more ys k e i) ∙ step k (get_or ys k e) (drop (k + 1) ys) ∙ ap (λ m. g k (get_or ys k e) ∷ F m (drop (k + 1) ys)) n in
    ap₂ (λ t u. t ++ F (k + 1) u) (take_more_set ys k v i) (drop-set-lt (k + 1) ys k v (omega arith))
    ∙ append_assoc (take k ys) (v ∷ []) (F (k + 1) (drop (k + 1) ys))
    ∙ ap (λ w. take k ys ++ w ∷ F (k + 1) (drop (k + 1) ys)) is ∙ ap (λ q. take k ys ++ q) (sym f)

-- whether one of the library's numbers in a row passes a test
pub any_listed : (p : ℕ → Bool) (k n : ℕ) → list_any p (range_with_len k n) ≡ any p (up_from k n)
any_listed p k zero = refl
any_listed p k (suc n) = go (p k) (let e : k + 1 ≡ suc k = omega arith in ap (λ j. list_any p (range_with_len j n)) e ∙ any_listed p (suc k) n)
  where
    go : (b : Bool) → list_any p (range_with_len (k + 1) n) ≡ any p (up_from (suc k) n)
        → (b || list_any p (range_with_len (k + 1) n)) ≡ elim b [ true ↦ true | false ↦ any p (up_from (suc k) n) ]
    go true e = refl
    go false e = e

-- what a complete rule calls for
pub calls_not : (a b : Bool) → b ≡ true → false ≡ elim a [ true ↦ not b | false ↦ false ]
calls_not true b e = sym (ap not e)
calls_not false b e = refl

pub calls_so : (a b : Bool) → b ≡ false → a ≡ elim a [ true ↦ not b | false ↦ false ]
calls_so true b e = sym (ap not e)
calls_so false b e = refl

-- Rules put in by a test.

pub single : (b : Bool) → elim b [ true ↦ true | false ↦ false ] ≡ b
single true = refl
single false = refl

add_none : (k : ℕ) (rows : Items) → add_rules (λ q. false) k rows ≡ rows
add_none k [] = refl
add_none k (row ∷ rows) = ap (λ q. row ∷ q) (add_none (suc k) rows)

add_ext : (p t : ℕ → Bool) (k : ℕ) (rows : Items) → ((q : ℕ) → k ≤ q → q < k + length rows → p q ≡ t q) → add_rules p k rows ≡ add_rules t k rows
add_ext p t k [] same = refl
add_ext p t k (row ∷ rows) same =
    ap₂ (λ b q. insert_if b row 0 ∷ q) (same k (omega arith) (omega arith)) (add_ext p t (suc k) rows (λ q l h. same q (omega arith) (omega arith)))

-- a rule that is wanted by one or the other is put in by one after the other
twice : (a b : Bool) (row : Flags) → insert_if (elim a [ true ↦ true | false ↦ b ]) row 0 ≡ insert_if b (insert_if (elim a [ true ↦ true | false ↦ false ]) row 0) 0
twice false b row = refl
twice true false row = refl
twice true true [] = refl
twice true true (x ∷ row) = refl

add_or : (p t : ℕ → Bool) (k : ℕ) (rows : Items)
    → add_rules (λ q. elim (p q) [ true ↦ true | false ↦ t q ]) k rows ≡ add_rules t k (add_rules (λ q. elim (p q) [ true ↦ true | false ↦ false ]) k rows)
add_or p t k [] = refl
add_or p t k (row ∷ rows) = ap₂ ◌∷◌ (twice (p k) (t k) row) (add_or p t (suc k) rows)

-- Complete rules in turn.

module _ (rel : Relations) (look : Look) where
  pub expand_none : (rows : Items) → expand_for rel look [] rows ≡ rows
  expand_none [] = refl
  expand_none (row ∷ rows) = ap (λ q. row ∷ q) (add_none 1 rows)

  pub expand_more : (r : ℕ) (rs : List ℕ) (rows : Items) → expand_for rel look (r ∷ rs) rows ≡ expand_for rel look rs (expand_for rel look (r ∷ []) rows)
  expand_more r rs [] = refl
  expand_more r rs (row ∷ rows) = ap (λ q. row ∷ q) (add_or (λ q. expands rel look q r) (λ q. any (expands rel look q) rs) 1 rows)

  pub expand_start : (rs : List ℕ) (rows : Items) → take 1 rows ++ add_rules (λ q. any (expands rel look q) rs) 1 (drop 1 rows) ≡ expand_for rel look rs rows
  expand_start rs [] = refl
  expand_start rs (row ∷ rows) = refl

-- a rule of a book has a first symbol, which is a code
module _ (rs : List Rule) (q : ℕ) (l : 1 ≤ q) (h : q ≤ length rs) where
  in_book : InBook (productions_of rs) q
  in_book = record { low = l; high = omega (arith, length-map rs production_of) }

  pub first_code : first (line_at (lines_of rs) q) < symbol_count
  first_code = omega (arith, (first_in (productions_of rs) (rules_bounded rs) q in_book).1)

-- each numbered rule has a first symbol, that of the outer rule too
pub has_first : (rs : List Rule) (q : ℕ) → 0 < length (line_at (lines_of rs) q).rhs
has_first rs zero = omega arith
has_first rs (suc k) = elim (cases_lt k (length rs)) [ inl h ↦ inside h | inr h ↦ past h ]
  where
    inside : k < length rs → 0 < length (line_at (lines_of rs) (suc k)).rhs
    inside h = omega (arith, (size_in (productions_of rs) (rules_bounded rs) (suc k) (in_book rs (suc k) (omega arith) (omega arith))).0)

    past : length rs ≤ k → 0 < length (line_at (lines_of rs) (suc k)).rhs
    past h =
        let P : Production → Type 0 = λ p. 0 < length p.rhs in
        let e : line_at (lines_of rs) (suc k) ≡ outer = get_or_past (productions_of rs) k outer (omega (arith, h, length-map rs production_of)) in
        subst P (sym e) (omega arith)

-- a lookahead as a set says what the policy says
pub expand_by_set : (rel : Relations) (rs : List Rule) (look : Look) (r : ℕ) (rows : Items) → rel.lines ≡ lines_of rs → length rows ≤ length rs + 1
    → expand_for rel (λ _. has (map (look r) codes)) (r ∷ []) rows ≡ expand_for rel look (r ∷ []) rows
expand_by_set rel rs look r [] is h = refl
expand_by_set rel rs look r (row ∷ rows) is h = ap (λ q. row ∷ q) (add_ext _ _ 1 rows (λ q l k. ap (λ b. elim b [ true ↦ true | false ↦ false ]) (said q l (omega arith))))
  where
    said : (q : ℕ) → 1 ≤ q → q ≤ length rs → expands rel (λ _. has (map (look r) codes)) q r ≡ expands rel look q r
    said q l k =
        let code : first (line_at rel.lines q) < symbol_count = rw is (first_code rs q l k) in
        ap (λ b. elim (leads rel (line_at rel.lines r).lhs (line_at rel.lines q).lhs) [ true ↦ not b | false ↦ false ]) (at_code (look r) false (first (line_at rel.lines q)) code)

-- the outer rule is none of those that expand
above : (p : ℕ → Bool) (k n : ℕ) → keep (leb 1) (keep p (up_from (suc k) n)) ≡ keep p (up_from (suc k) n)
above p k zero = refl
above p k (suc n) = go (p (suc k)) (keep p (up_from (suc (suc k)) n)) (above p (suc k) n)
  where
    go : (b : Bool) (rest : List ℕ) → keep (leb 1) rest ≡ rest → keep (leb 1) (elim b [ true ↦ suc k ∷ rest | false ↦ rest ]) ≡ elim b [ true ↦ suc k ∷ rest | false ↦ rest ]
    go true rest e = ap (λ b. elim b [ true ↦ suc k ∷ keep (leb 1) rest | false ↦ keep (leb 1) rest ]) (le-leb 1 (suc k) (omega arith)) ∙ ap (λ q. suc k ∷ q) e
    go false rest e = e

pub own_complete : (p : ℕ → Bool) (n : ℕ) → keep (leb 1) (keep p (up_from 0 (suc n))) ≡ keep p (up_from 1 n)
own_complete p n = go (p 0)
  where
    go : (b : Bool) → keep (leb 1) (elim b [ true ↦ 0 ∷ keep p (up_from 1 n) | false ↦ keep p (up_from 1 n) ]) ≡ keep p (up_from 1 n)
    go true = above p 0 n
    go false = above p 0 n
