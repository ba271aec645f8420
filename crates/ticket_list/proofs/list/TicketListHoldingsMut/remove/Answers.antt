use Rattle.std.proofs.Common.{◌≡◌, sym, rules}
use Rattle.ordered.specs.Entries.{keep}
use Rattle.ordered.specs.Lists.{listed, places}
use Rattle.ticket_list.specs.Pairs.{apart_from}
use Rattle.ticket_list.proofs.Changes.{removed_kept, removed_state, removed_none}
use Rattle.ticket_list.proofs.list.TicketListHoldingsMut.remove.Goals as goal
use Rattle.ticket_list.proofs.list.TicketListHoldingsMut.remove.Goals.{After-retain}

-- the closure is the test whether the entity has no part in a pair
others : (c : After-retain) → listed c.retain.new.self ≡ keep (apart_from c.args.number) (listed c.args.self.now.pairs)
others c = c.retain.ensures.listed (apart_from c.args.number) (λ p b h. search rules)

pub invariant_of-self : goal.invariant_of-self
invariant_of-self c =
    let t = c.args.self.now in
    let e = c.remove_at.ensures in
    record {
      kept = removed_kept t.rows c.remove_at.new.self (places t.pairs) (places c.retain.new.self) (listed t.pairs) (listed c.retain.new.self) c.args.number c.in-Some.place t.kept
          (sym c.in-Some.ensures) e.kept e.next e.left c.retain.ensures.kept (others (goal.at.invariant_of-self c).After-retain);
    }

pub returns-in-Some-clause-state : goal.returns-in-Some-clause-state
returns-in-Some-clause-state c =
    let t = c.args.self.now in
    let e = c.remove_at.ensures in
    removed_state t.rows c.remove_at.new.self (places t.pairs) (places c.retain.new.self) (listed t.pairs) (listed c.retain.new.self) c.args.number c.in-Some.place t.kept
    (sym c.in-Some.ensures) e.kept e.next e.left c.retain.ensures.kept (others (goal.at.returns-in-Some-clause-state c).After-retain)

pub returns-in_default-clause-state : goal.returns-in_default-clause-state
returns-in_default-clause-state c = let t = c.args.self.now in removed_none t.rows (places t.pairs) (listed t.pairs) t.kept c.args.number (sym c.in_default.ensures)
