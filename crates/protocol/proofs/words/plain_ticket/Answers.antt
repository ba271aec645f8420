use Rattle.protocol.proofs.Saying.{plain_of}
use Rattle.protocol.proofs.words.plain_ticket.Goals as goal

pub returns-in_err-said : goal.returns-in_err-said
returns-in_err-said c = rw c.from_residual.ensures (λ t plain. c.in_err-said.ensures t plain.0)

pub returns : goal.returns
returns c = rw c.then_some.ensures (plain_of c.args.word.now c.in_ok-said.said c.in_ok-said.ensures)
