use Rattle.std.proofs.Common.{sym, ◌∙◌, arith}
use Rattle.std.proofs.lemmas.Bool.{le-ltb}
use Rattle.model.proofs.Masks.{no_ticket}
use Rattle.model.proofs.tickets.TicketSet.has.Goals as goal

pub returns-else-ticket-lt16 : goal.returns-else-ticket-lt16
returns-else-ticket-lt16 c =
    let h = c.if-ticket-lt16.false in
    le-ltb c.args.ticket.right 16 h
    ∙ sym (no_ticket c.args.self.plain c.args.self.copyable c.args.ticket.right c.args.ticket.copy (omega arith) (omega arith) h)
