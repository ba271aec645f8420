use Rattle.holdings.proofs.Takes.{has_room, filed_more}
use Rattle.holdings.proofs.rows.Rows.add.Goals as goal

pub invariant_of-self : goal.invariant_of-self
invariant_of-self c =
    let s = c.args.self.now in
    let room = has_room s.entities.now s.count s.next s.order c.in_ok-has_row.ensures in
    record { order = filed_more s.entities.now s.count s.next s.order c.args.kind room.0 room.1 }
