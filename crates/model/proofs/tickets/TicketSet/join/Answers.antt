use Rattle.std.proofs.Common.{◌∙◌}
use Rattle.model.proofs.Masks.{joined}
use Rattle.model.proofs.tickets.TicketSet.join.Goals as goal

pub returns : goal.returns
returns c =
    let s = c.args.self in
    let o = c.args.other in
    c.new.ensures ∙ joined s.plain o.plain s.copyable o.copyable s.nested o.nested
