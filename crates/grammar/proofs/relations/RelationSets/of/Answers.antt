use Rattle.std.proofs.Common.{List, ap, ◌∙◌, ap₂}
use Rattle.book.specs.Held.{productions_of}
use Rattle.grammar.specs.Numbered.{numbered}
use Rattle.grammar.specs.Relations.{Relations, with_followers, with_leftmosts}
use Rattle.grammar.specs.Sets.{Flags}
use Rattle.grammar.proofs.Meanings.{relations_tell}
use Rattle.grammar.proofs.relations.RelationSets.of.Goals as goal

pub returns : goal.returns
returns c =
    let rules = productions_of c.args.rules.now in
    let lefts = c.corners-lefts.result in
    let leftmosts = c.leftmosts-leftmosts.result in
    let made : List Flags → Relations = λ f. record { lines = numbered rules; lefts = lefts; leftmosts = leftmosts; followers = f } in
    let equal =
    ap made c.followers-followers.ensures
    ∙ ap (with_followers rules lefts) c.leftmosts-leftmosts.ensures
    ∙ ap₂ (with_leftmosts rules) c.corners-lefts.ensures.equal c.corners-rights.ensures.equal in
    record { equal = equal; tell = relations_tell c.args.rules.now _ equal }
