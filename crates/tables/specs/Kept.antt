-- What the code's rules and kernels stand for.
use Rattle.std.specs.Prelude.{◌≡◌, ℕ, ◌+◌, ◌<◌, Bool, true, false, not, List, [], map, length, take, Ok, Err, Result, slice_index_or}
use Rattle.book.specs.declared.rules.Rule.{Rule}
use Rattle.book.specs.Held.{productions_of}
use Rattle.book.specs.Rules.{Production}
use Rattle.grammar.specs.Numbered.{numbered, line_at, first}
use Rattle.grammar.specs.Items.{Items}
use Rattle.grammar.specs.Sets.{Flags, has}
use Rattle.grammar.specs.Relations.{Relations}
use Rattle.grammar.specs.Lookahead.{leads}
use Rattle.grammar.specs.Relating.{related_in}
use Rattle.grammar.specs.States.{most_states}
use Rattle.grammar.specs.declared.relations.RelationSets.{RelationSets}
use Rattle.tables.specs.declared.kernels.Kernels.{Kernels}
use Rattle.tables.specs.declared.kernels.Full.{Full}
use Rattle.tables.specs.declared.builds.Build.{Build}

-- how many numbered rules there may be
abbrev pub most_numbered : ℕ
most_numbered = 101

-- the rules with the outer rule in front
abbrev pub lines_of : List Rule → List Production
lines_of rs = numbered (productions_of rs)

-- the rules of a build, and what its relation sets stand for
abbrev pub rules_in : {L : Type 0} → Build L → List Rule
rules_in b = b.related.now.rules.now

abbrev pub relations_in : {L : Type 0} → Build L → Relations
relations_in b = related_in b.related.now

-- the rows of an item set that belong to rules
abbrev pub rows_for : List Rule → Items → Items
rows_for rs rows = take (length rs + 1) rows

-- the kernels that the code found, each of n rows
abbrev pub kernels_in : ℕ → Kernels → List Items
kernels_in n ks = map (λ s. take n s.rows) (take ks.count ks.sets)

-- what finding more kernels leaves: all of them, or word that they are too many
abbrev pub Found : ℕ → List Items → Kernels → Result (Unit {0}) Full → Type 0
Found n all ks (Ok _) = kernels_in n ks ≡ all
Found n all ks (Err _) = most_states < length all

-- whether the nonterminal f is a leftmost follower of a and has b as a left corner
abbrev pub leads_by : RelationSets → ℕ → ℕ → ℕ → Bool
leads_by t a b f = elim (has (slice_index_or t.leftmosts a []) f) [ true ↦ has (slice_index_or t.lefts f []) b | false ↦ false ]

-- whether a complete rule with this left side and this lookahead calls for rule q
abbrev pub calls_for : Relations → ℕ → Flags → ℕ → Bool
calls_for rel a ahead q = elim (leads rel a (line_at rel.lines q).lhs) [ true ↦ not (has ahead (first (line_at rel.lines q))) | false ↦ false ]
