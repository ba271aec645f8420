use Rattle.std.proofs.Common.{Bool, cond, ltb, sym, ap, ◌∙◌}
use Rattle.model.specs.Tickets.{ticket_of, none}
use Rattle.model.proofs.Masks.{plain_ticket, copyable_ticket}
use Rattle.model.proofs.tickets.TicketSet.of.Goals as goal

pub returns-then-ticket : goal.returns-then-ticket
returns-then-ticket c =
    let x = c.args.ticket.right in
    c.new.ensures ∙ copyable_ticket x c.if-ticket-ge16.false
    ∙ ap (λ (b : Bool). cond (ltb x 16) (ticket_of x b) none) (sym c.if-ticket.true)

pub returns-else-ticket : goal.returns-else-ticket
returns-else-ticket c =
    let x = c.args.ticket.right in
    c.new-else-ticket.ensures ∙ plain_ticket x c.if-ticket-ge16.false
    ∙ ap (λ (b : Bool). cond (ltb x 16) (ticket_of x b) none) (sym c.if-ticket.false)
