-- Lookahead policies, and expansion by the lookaheads that they give.
use Rattle.std.specs.Prelude.{ℕ, zero, suc, Bool, true, false, not, ◌&&◌, List, [], ◌∷◌, map, ◌==◌, nat_le, slice_index_or}
use Rattle.book.specs.Symbols.{first_nonterminal}
use Rattle.grammar.specs.Sets.{Flags, has, insert, union, up_from, codes, any, keep}
use Rattle.grammar.specs.Numbered.{line_at, first}
use Rattle.grammar.specs.Relations.{Relations}
use Rattle.grammar.specs.Items.{Items, reads, complete_in}

-- a policy answers yes or no for a book's relations, a closed set, a complete rule from 1 up and a symbol
abbrev pub Policy : Type 0
Policy = Relations → Items → ℕ → ℕ → Bool

-- what a policy says at one closed set
abbrev pub Look : Type 0
Look = ℕ → ℕ → Bool

-- SLR: yes exactly for followers of the rule's left side
abbrev pub slr : Policy
slr rel items r x = has (slice_index_or rel.followers (line_at rel.lines r).lhs []) x

-- yes exactly for leftmost followers of the rule's left side
abbrev pub leftmost_follow : Policy
leftmost_follow rel items r x = has (slice_index_or rel.leftmosts (line_at rel.lines r).lhs []) x

-- The lookahead of the outer rule is the end mark alone, and no policy decides it.
abbrev pub in_lookahead : Look → ℕ → ℕ → Bool
in_lookahead look zero x = x == 0
in_lookahead look (suc r) x = look (suc r) x

-- the lookahead of a complete rule
abbrev pub lookahead_of : Look → ℕ → Flags
lookahead_of look r = map (in_lookahead look r) codes

-- whether two sets have a symbol in common
abbrev pub meets : Flags → Flags → Bool
meets s t = any (λ x. has s x && has t x) codes

-- whether some set meets one before it
abbrev pub overlap : Flags → List Flags → Bool
overlap seen [] = false
overlap seen (t ∷ ts) = elim (meets seen t) [ true ↦ true | false ↦ overlap (union seen t) ts ]

-- whether two actions apply somewhere, among these reads and the lookaheads of these complete rules
abbrev pub conflicting : Look → Flags → List ℕ → Bool
conflicting look read complete = overlap read (map (lookahead_of look) complete)

-- SLR where that is adequate: where SLR lookaheads give the closed set no conflict among its own reads and lookaheads,
-- that of the outer rule among them; elsewhere as the policy below
abbrev pub slr_conflicting : Relations → Items → Bool
slr_conflicting rel items = conflicting (slr rel items) (reads rel.lines items) (complete_in rel.lines items)

abbrev pub slr_if_adequate : Policy → Policy
slr_if_adequate below rel items = elim (slr_conflicting rel items) [ true ↦ below rel items | false ↦ slr rel items ]

abbrev pub lslr : Policy
lslr = slr_if_adequate leftmost_follow

-- Expansion. Some nonterminal is a leftmost follower of a and has b as a left corner.
abbrev pub leads : Relations → ℕ → ℕ → Bool
leads rel a b = any (λ f. elim (has (slice_index_or rel.leftmosts a []) f) [ true ↦ has (slice_index_or rel.lefts f []) b | false ↦ false ]) (up_from first_nonterminal 40)

-- rule q is put in for the complete rule r
abbrev pub expands : Relations → Look → ℕ → ℕ → Bool
expands rel look q r =
    elim (leads rel (line_at rel.lines r).lhs (line_at rel.lines q).lhs) [ true ↦ not (look r (first (line_at rel.lines q))) | false ↦ false ]

-- the rules that pass the test are put in at dot 0; q is the number of the first row
abbrev pub add_rules : (ℕ → Bool) → ℕ → Items → Items
add_rules p q [] = []
add_rules p q (row ∷ rows) = elim (p q) [ true ↦ insert row 0 | false ↦ row ] ∷ add_rules p (suc q) rows

-- neither is the outer rule put in, nor does it put one in
abbrev pub expand_for : Relations → Look → List ℕ → Items → Items
expand_for rel look complete [] = []
expand_for rel look complete (row ∷ rows) = row ∷ add_rules (λ q. any (expands rel look q) complete) 1 rows

abbrev pub expand : Relations → Look → Items → Items
expand rel look items = expand_for rel look (keep (nat_le 1) (complete_in rel.lines items)) items
