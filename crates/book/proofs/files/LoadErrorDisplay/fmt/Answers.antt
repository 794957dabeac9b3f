use Rattle.std.proofs.Common.{sym, ap}
use Rattle.std.proofs.Output.{has_written_of_eq}
use Rattle.book.specs.Texts.{load_text}
use Rattle.book.proofs.files.LoadErrorDisplay.fmt.Goals as goal

pub returns-in-Enter-clause-writes : goal.returns-in-Enter-clause-writes
returns-in-Enter-clause-writes g c = λ p ok. has_written_of_eq _ _ _ _ _ (sym (ap load_text c.in-Enter.is)) (c.write-in-Enter.ensures.writes p ok)
