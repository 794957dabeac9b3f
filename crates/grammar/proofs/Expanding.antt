-- Expanding the closed set of a kernel gives the items of its state, where the corners and leftmost followers that are worked out mean what they say.
use Rattle.std.proofs.Common.{◌≡◌, ℕ, zero, suc, ◌+◌, ◌<◌, Bool, true, false, not, leb, ◌⊎◌, ◌↔◌, List, [], ◌∷◌, length, get_or, sym, refl, ap, subst, inl, inr, arith}
use Rattle.std.proofs.lemmas.Bool.{false≢true, and_from, and_parts, le-leb, leb-true, not-true, not_from_false}
use Rattle.book.specs.Rules.{Production, all_bounded}
use Rattle.book.specs.Symbols.{first_nonterminal, last_symbol, is_nonterminal}
use Rattle.grammar.specs.Sets.{Flags, has, symbol_count, up_from, any, keep}
use Rattle.grammar.specs.Numbered.{numbered, first}
use Rattle.grammar.specs.Relations.{Relations, relations_of}
use Rattle.grammar.specs.Items.{Items, complete_in, close}
use Rattle.grammar.specs.Lookahead.{Look, leads, expands as expandsBy, expand_for, expand}
use Rattle.grammar.specs.Meaning.{rule_of, InBook, LeftCorner, LeftmostFollower, Holds, Closed, Expanded, closed, expands}
use Rattle.grammar.specs.Laws.{Shaped, LeftCornersMean, LeftmostFollowersMean, ExpansionMeans}
use Rattle.grammar.proofs.Rights.{left_is_symbol}
use Rattle.grammar.proofs.Reading.{held_row}
use Rattle.grammar.proofs.Opening.{open_by, add_rules_is, open_keeps, open_from, open_has, open_shaped}
use Rattle.grammar.proofs.Closing.{closing_means}
use Rattle.grammar.specs.Listed.{kept_from, kept_has, any_from, any_has, counted_from, counted_has}
use Rattle.grammar.proofs.Completing.{Complete, complete_in_means}

-- a test behind a test
then_parts : (b c : Bool) → elim b [ true ↦ c | false ↦ false ] ≡ true → (b ≡ true) × (c ≡ true)
then_parts true c e = (refl, e)
then_parts false c e = absurd (false≢true e)

then_from : (b c : Bool) → b ≡ true → c ≡ true → elim b [ true ↦ c | false ↦ false ] ≡ true
then_from true c p e = e
then_from false c p e = p

-- which rules are put in: never the outer one
abbrev puts_in : Relations → Look → List ℕ → ℕ → Bool
puts_in rel look complete zero = false
puts_in rel look complete (suc q) = any (expandsBy rel look (suc q)) complete

expand_for_is : (rel : Relations) (look : Look) (complete : List ℕ) (items : Items) → expand_for rel look complete items ≡ open_by (puts_in rel look complete) items
expand_for_is rel look complete [] = refl
expand_for_is rel look complete (row ∷ rows) = ap (λ more. row ∷ more) (add_rules_is (λ q. any (expandsBy rel look q) complete) (λ q. puts_in rel look complete (suc q)) 1 same rows)
  where
    same : (q : ℕ) → any (expandsBy rel look (suc q)) complete ≡ any (expandsBy rel look (1 + q)) complete
    same q = let z : suc q ≡ 1 + q = omega arith in ap (λ j. any (expandsBy rel look j) complete) z

-- a nonterminal that follows a and has c as a left corner
record Leads (rules : List Production) (a c : ℕ) : Type 0 where
  between : ℕ
  follows : LeftmostFollower rules a between
  inner : is_nonterminal between ≡ true
  corner : LeftCorner rules c between

module _ (rules : List Production) (b : all_bounded rules ≡ true) (lefts leftmosts followers : List Flags)
    (lefts-mean : (x z : ℕ) → x < symbol_count → (has (get_or lefts x []) z ≡ true) ↔ LeftCorner rules z x)
    (leftmosts-mean : (a y : ℕ) → a < symbol_count → (has (get_or leftmosts a []) y ≡ true) ↔ LeftmostFollower rules a y)
    (look : Look) where
  abbrev rel : Relations
  rel = record { lines = numbered rules; lefts = lefts; leftmosts = leftmosts; followers = followers }

  -- Leading.

  abbrev between? : ℕ → ℕ → ℕ → Bool
  between? a c f = elim (has (get_or leftmosts a []) f) [ true ↦ has (get_or lefts f []) c | false ↦ false ]

  leads_from : (a c : ℕ) → a < symbol_count → leads rel a c ≡ true → Leads rules a c
  leads_from a c h e =
      let m = any_from (between? a c) (up_from first_nonterminal 40) e in
      let l = counted_from first_nonterminal 40 m.0 m.1 in
      let p = then_parts (has (get_or leftmosts a []) m.0) (has (get_or lefts m.0 []) c) m.2 in
      record {
        between = m.0;
        follows = (leftmosts-mean a m.0 h).0 p.0;
        inner = and_from _ _ (le-leb first_nonterminal m.0 l.0) (le-leb m.0 last_symbol (omega (arith, l.1)));
        corner = (lefts-mean m.0 c (omega (arith, l.1))).0 p.1;
      }

  leads_has : (a c : ℕ) → a < symbol_count → Leads rules a c → leads rel a c ≡ true
  leads_has a c h w =
      let l = and_parts (leb first_nonterminal w.between) (leb w.between last_symbol) w.inner in
      let small : w.between < symbol_count = omega (arith, leb-true w.between last_symbol l.1) in
      any_has (between? a c) (up_from first_nonterminal 40) w.between (counted_has first_nonterminal 40 w.between (leb-true first_nonterminal w.between l.0) (omega arith))
      (then_from _ _ ((leftmosts-mean a w.between h).1 w.follows) ((lefts-mean w.between c small).1 w.corner))

  -- Which rules are put in for a set of items.
  module _ (items : Items) (sh : Shaped rules items) where
    abbrev completes : List ℕ
    completes = keep (leb 1) (complete_in (numbered rules) items)

    -- for rule q some complete rule of the book leads to its left side and does not look at its first symbol
    record Put (q : ℕ) : Type 0 where
      by : ℕ
      inside : InBook rules by
      complete : Complete rules items by
      lead : Leads rules (rule_of rules by).lhs (rule_of rules q).lhs
      blind : look by (first (rule_of rules q)) ≡ false

    put_from : (q : ℕ) → any (expandsBy rel look q) completes ≡ true → Put q
    put_from q e =
        let m = any_from (expandsBy rel look q) completes e in
        let j = kept_from (leb 1) (complete_in (numbered rules) items) m.0 m.1 in
        let c = (complete_in_means rules items sh m.0).0 j.0 in
        let i : InBook rules m.0 = record { low = leb-true 1 m.0 j.1; high = omega (arith, held_row items m.0 c.0 c.1, sh.rows) } in
        let p = then_parts (leads rel (rule_of rules m.0).lhs (rule_of rules q).lhs) (not (look m.0 (first (rule_of rules q)))) m.2 in
        record {
          by = m.0;
          inside = i;
          complete = c;
          lead = leads_from (rule_of rules m.0).lhs (rule_of rules q).lhs (left_is_symbol rules b m.0 i) p.0;
          blind = not-true (look m.0 (first (rule_of rules q))) p.1;
        }

    put_has : (q : ℕ) → Put q → any (expandsBy rel look q) completes ≡ true
    put_has q w =
        any_has (expandsBy rel look q) completes w.by
        (kept_has (leb 1) (complete_in (numbered rules) items) w.by ((complete_in_means rules items sh w.by).1 w.complete) (le-leb 1 w.by w.inside.low))
        (then_from _ _ (leads_has (rule_of rules w.by).lhs (rule_of rules q).lhs (left_is_symbol rules b w.by w.inside) w.lead)
        (not_from_false (look w.by (first (rule_of rules q))) w.blind))

    expand_is : expand rel look items ≡ open_by (puts_in rel look completes) items
    expand_is = expand_for_is rel look completes items

    expand_shaped : Shaped rules (expand rel look items)
    expand_shaped = subst (Shaped rules) (sym expand_is) (open_shaped rules (puts_in rel look completes) items sh)

    expand_from : (q d : ℕ) → Holds (expand rel look items) q d → Holds items q d ⊎ (InBook rules q × Put q × (d ≡ 0))
    expand_from q d e = go q (subst (λ t. Holds t q d) expand_is e)
      where
        go : (j : ℕ) → Holds (open_by (puts_in rel look completes) items) j d → Holds items j d ⊎ (InBook rules j × Put j × (d ≡ 0))
        go zero h =
            elim (open_from (puts_in rel look completes) items 0 d h)
            [ inl p ↦ inl p | inr p ↦ absurd (false≢true p.0) ]
        go (suc j) h =
            elim (open_from (puts_in rel look completes) items (suc j) d h)
            [ inl p ↦ inl p | inr p ↦ inr (record { low = omega arith; high = omega (arith, p.1, sh.rows) }, put_from (suc j) p.0, p.2) ]

    expand_keeps : (q d : ℕ) → Holds items q d → Holds (expand rel look items) q d
    expand_keeps q d h = subst (λ t. Holds t q d) (sym expand_is) (open_keeps (puts_in rel look completes) items q d h)

    expand_has : (q : ℕ) → InBook rules q → Put q → Holds (expand rel look items) q 0
    expand_has zero i w = absurd (omega (arith, i.low))
    expand_has (suc q) i w =
        let h : suc q < length (numbered rules) = omega (arith, i.high) in
        subst (λ t. Holds t (suc q) 0) (sym expand_is)
        (open_has (puts_in rel look completes) items (suc q) (omega (arith, sh.rows)) (omega (arith, sh.dots (suc q) h)) (put_has (suc q) w))

  -- The items of a state.
  module _ (k : Items) (sh : Shaped rules k) where
    abbrev whole : Items
    whole = close (numbered rules) k

    whole_shaped : Shaped rules whole
    whole_shaped = (closing_means rules b k sh).0

    whole_means : (r d : ℕ) → Holds whole r d ↔ Closed rules (Holds k) r d
    whole_means = (closing_means rules b k sh).1

    state_from : (r d : ℕ) → Holds (expand rel look whole) r d → Expanded rules (Holds k) look r d
    state_from r d e =
        elim (expand_from whole whole_shaped r d e) [
          | inl h ↦ closed ((whole_means r d).0 h)
          | inr p ↦
              let w = p.1 in
              subst (Expanded rules (Holds k) look r) (sym p.2)
              (expands r ((whole_means w.by w.complete.0).0 w.complete.1) w.complete.2 w.inside w.lead.follows w.lead.inner p.0 w.lead.corner w.blind)
        ]

    state_has : (r d : ℕ) → Expanded rules (Holds k) look r d → Holds (expand rel look whole) r d
    state_has r d (closed c) = expand_keeps whole whole_shaped r d ((whole_means r d).1 c)
    state_has _ _ (expands {r} {d} {y} q c behind i follows inner j corner blind) =
        expand_has whole whole_shaped q j record {
          by = r;
          inside = i;
          complete = (d, (whole_means r d).1 c, behind);
          lead = record { between = y; follows = follows; inner = inner; corner = corner };
          blind = blind;
        }

pub expansion_means : LeftCornersMean → LeftmostFollowersMean → ExpansionMeans
expansion_means left leftmost rules b look k sh =
    let rel = relations_of rules in (
      expand_shaped rules b rel.lefts rel.leftmosts rel.followers (left rules b) (leftmost rules b) look (close (numbered rules) k) (closing_means rules b k sh).0,
      λ r d. (
        state_from rules b rel.lefts rel.leftmosts rel.followers (left rules b) (leftmost rules b) look k sh r d,
        state_has rules b rel.lefts rel.leftmosts rel.followers (left rules b) (leftmost rules b) look k sh r d,
      ),
    )
