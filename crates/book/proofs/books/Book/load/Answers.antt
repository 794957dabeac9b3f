use Rattle.std.proofs.Common.{sym}
use Rattle.book.specs.Held.{rules_of}
use Rattle.book.proofs.RoundTrip.{loaded_file, loaded_well_formed}
use Rattle.book.proofs.books.Book.load.Goals as goal

pub returns-clause-file : goal.returns-clause-file
returns-clause-file c = loaded_file c.args.bytes.now (rules_of c.load_all.new.self) (sym c.in_ok-load_all.ensures)

pub returns-clause-sound : goal.returns-clause-sound
returns-clause-sound c = loaded_well_formed c.args.bytes.now (rules_of c.load_all.new.self) (sym c.in_ok-load_all.ensures)

pub returns-clause-kept : goal.returns-clause-kept
returns-clause-kept c = λ _. loaded_well_formed c.args.bytes.now (rules_of c.load_all.new.self) (sym c.in_ok-load_all.ensures)
