-- The laws of the construction, each from the file that proves it, and what they say of a slice of rules.
use Rattle.std.proofs.Common.{◌≡◌, ℕ, List, Option, sym, subst}
use Rattle.book.specs.Held.{productions_of}
use Rattle.book.specs.declared.rules.Rule.{Rule}
use Rattle.grammar.specs.Ends.{end_of}
use Rattle.grammar.specs.Laws.{ExpansionMeans, StatesMean, BuildMeans, Tells, RelationsTell, LowestUseless}
use Rattle.grammar.specs.Meaning.{Corner}
use Rattle.grammar.specs.Relations.{Relations, corners, relations_of}
use Rattle.grammar.specs.Sets.{Flags}
use Rattle.grammar.specs.Useful.{useless_in}
use Rattle.grammar.specs.declared.relations.End.{End}
use Rattle.grammar.specs.declared.relations.End.TheVariants.{First, Last}
use Rattle.grammar.proofs.Building as building
use Rattle.grammar.proofs.Closing.{closing_means}
use Rattle.grammar.proofs.Completing.{complete_means}
use Rattle.grammar.specs.Corners.{left_corners_mean, right_corners_mean}
use Rattle.grammar.proofs.Expanding as expanding
use Rattle.grammar.proofs.Exploring as exploring
use Rattle.grammar.specs.Followers.{leftmost_followers_mean, followers_mean}
use Rattle.grammar.proofs.Moving.{next_means, start_shaped}
use Rattle.grammar.proofs.Reading.{reads_mean}
use Rattle.grammar.proofs.Rules.{rules_bounded}
use Rattle.grammar.proofs.Usefulness.{useless_means}

pub expansion_means : ExpansionMeans
expansion_means = expanding.expansion_means left_corners_mean leftmost_followers_mean

pub states_mean : StatesMean
states_mean = exploring.states_mean expansion_means next_means start_shaped

pub build_means : BuildMeans
build_means = building.build_means closing_means reads_mean expansion_means complete_means states_mean

-- what was worked out for a slice of rules tells what the definition tells

pub corners_tell : (end : End) (rs : List Rule) (t : List Flags) → t ≡ corners (end_of end) (productions_of rs) → Tells t (λ x z. Corner (end_of end) (productions_of rs) z x)
corners_tell First rs t e = subst (λ u. Tells u (λ x z. Corner (end_of First) (productions_of rs) z x)) (sym e) (left_corners_mean (productions_of rs) (rules_bounded rs))
corners_tell Last rs t e = subst (λ u. Tells u (λ x z. Corner (end_of Last) (productions_of rs) z x)) (sym e) (right_corners_mean (productions_of rs) (rules_bounded rs))

pub relations_tell : (rs : List Rule) (rel : Relations) → rel ≡ relations_of (productions_of rs) → RelationsTell (productions_of rs) rel
relations_tell rs rel e =
    let rules = productions_of rs in
    let bounded = rules_bounded rs in
    subst (RelationsTell rules) (sym e)
    (record { lefts = left_corners_mean rules bounded; leftmosts = leftmost_followers_mean rules bounded; followers = followers_mean rules bounded })

pub useless_tell : (rs : List Rule) (u : Option ℕ) → u ≡ useless_in (productions_of rs) → LowestUseless (productions_of rs) u
useless_tell rs u e = subst (LowestUseless (productions_of rs)) (sym e) (useless_means (productions_of rs) (rules_bounded rs))
