use Rattle.model.specs.Refusals.{told}
use Rattle.ordered.specs.Lists.{listed, places}
use Rattle.ticket_list.proofs.Changes.{added_kept}
use Rattle.ticket_list.proofs.list.TicketListHoldingsMut.add.Goals as goal

pub invariant_of-self : goal.invariant_of-self
invariant_of-self c =
    let t = c.args.self.now in
    record { kept = added_kept t.rows c.add.new.self (places t.pairs) (listed t.pairs) c.args.kind (told c.add.result) t.kept c.add.ensures.kept c.add.ensures.state }
