use Rattle.std.proofs.Common.{rules}
use Rattle.book.proofs.Exact.{test_is_exact}
use Rattle.book.proofs.books.Book.new.Goals as goal

pub returns : goal.returns
returns c = record { rules = search rules; sound = search rules; exact = test_is_exact }
