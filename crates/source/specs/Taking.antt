-- What the code's sources and their answers stand for.
use Rattle.source.specs.declared.sources.Taken.{Taken}
use Rattle.source.specs.declared.sources.Taken.TheVariants.{Word, Clean, Fault}
use Rattle.source.specs.Streams.{Drawn, word, closed, clean, fault}

abbrev pub drawn_by : Taken → Drawn
drawn_by (Word c p) = word (record { symbol = c; position = p })
drawn_by (Clean p) = closed (clean p)
drawn_by (Fault n p) = closed (fault n p)
