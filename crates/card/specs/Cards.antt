-- What a card stands for. It names the card, so the card's own file cannot import it.
use Rattle.std.specs.Option.{option_map}
use Rattle.book.specs.Held.{rules_of}
use Rattle.tables.specs.Built.{table_of}
use Rattle.card.specs.declared.card.Card.{Card}
use Rattle.card.specs.Models.{Model}

-- its rules, and the rows of its tables, if it has any
abbrev pub model_of : Card → Model
model_of c = record { held_rules = rules_of c.book; held_rows = option_map table_of c.tables }
