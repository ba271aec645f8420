use Rattle.register.proofs.Books.{same_book}
use Rattle.register.proofs.book.BookHoldings.entity.Goals as goal

pub returns-clause-same : goal.returns-clause-same
returns-clause-same g c = same_book c.args.self.now _ _ c.entity.ensures.same
