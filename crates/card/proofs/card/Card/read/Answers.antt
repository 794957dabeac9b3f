use Rattle.std.proofs.Common.{◌≡◌, List, length, Some, sym, subst, rules}
use Rattle.book.specs.Rules.{Production}
use Rattle.tables.specs.Built.{table_of}
use Rattle.reading.specs.Building.{Belonging}
use Rattle.reading.specs.Told.{answer_of}
use Rattle.card.specs.Cards.{model_of}
use Rattle.card.specs.Wanting.{unread, read_on}
use Rattle.card.proofs.Promises.{promised_on}
use Rattle.card.proofs.Stands.{stands}
use Rattle.card.proofs.card.Card.read.Goals as goal

pub returns-in_default : goal.returns-in_default
returns-in_default g c =
    let card = c.args.self.now in
    let s = g.S.Source.means c.args.source.now in
    let room = length c.args.list.now in
    let says : read_on (model_of card) room s ≡ Some unread = search rules in
    record {
      answer = says;
      kept = search rules;
      within = search rules;
      back = search rules;
      rest = search rules;
      untouched = search rules;
      model = search rules;
      service = search rules;
      promise = search rules;
      whole = promised_on card room s unread (g.S.Source.terminals c.args.source.now) says;
      stood = stands card;
    }

pub run-requires : goal.run-requires
run-requires g c = record { built = subst (λ (rules : List Production). Belonging rules (table_of c.in-Some.tables)) (sym c.rules.ensures.value) (c.args.self.now.belongs c.in-Some.tables c.in-Some.is) }

pub returns : goal.returns
returns g c =
    let card = c.args.self.now in
    let s = g.S.Source.means c.args.source.now in
    let room = length c.args.list.now in
    let a = answer_of c.run.result c.run.new.steps in
    let says : read_on (model_of card) room s ≡ Some a = search rules in
    record {
      answer = says;
      kept = search rules;
      within = search rules;
      back = search rules;
      rest = search rules;
      untouched = search rules;
      model = search rules;
      service = search rules;
      promise = search rules;
      whole = promised_on card room s a (g.S.Source.terminals c.args.source.now) says;
      stood = stands card;
    }
