use Rattle.std.proofs.Common.{None}
use Rattle.protocol.proofs.Saying.{slash, has_number, has_right}
use Rattle.protocol.proofs.words.ticket.Goals as goal

pub returns-in_err-target : goal.returns-in_err-target
returns-in_err-target c = rw c.from_residual.ensures (λ t said. slash said None c.in_err-target.ensures.cases)

pub returns-in_err-target-2 : goal.returns-in_err-target-2
returns-in_err-target-2 c =
    let cut = c.in_ok-target.ensures.cases in
    rw c.from_residual-in_err-target-2.ensures (λ t said. has_number said (c.in_ok-target.target, c.in_ok-target.rest) cut c.in_err-target-2.ensures)

pub returns-in_err-right : goal.returns-in_err-right
returns-in_err-right c =
    let cut = c.in_ok-target.ensures.cases in
    rw c.from_residual-in_err-right.ensures
    (λ t said. has_right said (c.in_ok-target.target, c.in_ok-target.rest) cut _ _ c.flagged-copy.ensures.whole c.flagged-copy.ensures.cut c.in_err-right.ensures)
