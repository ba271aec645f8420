use Rattle.model.proofs.Bits.{or_absorbs}
use Rattle.model.proofs.tickets.TicketSet.new.Goals as goal

pub invariant_of-result : goal.invariant_of-result
invariant_of-result c = record { nested = or_absorbs c.args.plain c.args.copyable }
