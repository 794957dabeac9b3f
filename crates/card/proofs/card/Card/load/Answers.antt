use Rattle.std.proofs.Common.{sym, subst}
use Rattle.book.specs.declared.books.Book.{Book}
use Rattle.card.specs.Belongs.{Belongs}
use Rattle.card.proofs.card.Card.load.Goals as goal

-- a refused change leaves the book
pub invariant_of-self : goal.invariant_of-self
invariant_of-self c =
    let card = c.args.self.now in
    record { sound = c.load.ensures.kept card.sound; belongs = subst (λ (b : Book). Belongs b card.tables) (sym c.in_err-load.ensures.same) card.belongs }
