use Rattle.std.proofs.Common.{◌≡◌, true, not, is_some, is_ok, sym, ap, ◌∙◌, rules}
use Rattle.model.specs.Tickets.{tickets_of}
use Rattle.model.specs.Refusals.{Answer}
use Rattle.model.specs.State.{kind_in, stored}
use Rattle.model.specs.Calls.{after}
use Rattle.holdings.specs.Rows.{in_rows, roll}
use Rattle.ordered.specs.Lists.{listed, places}
use Rattle.ticket_list.specs.Listing.{meant}
use Rattle.ticket_list.proofs.Changes.{told_full, stores_none, stores_by, out_kept, out_state, by_kept, by_state}
use Rattle.ticket_list.proofs.list.TicketListHoldingsMut.store.Goals as goal
use Rattle.ticket_list.proofs.list.TicketListHoldingsMut.store.Goals.{Else-is_none-2}

module _ (c : Else-is_none-2) where
  holder_stands : is_some (kind_in (in_rows c.args.self.now.rows) c.args.holder) ≡ true
  holder_stands = ap is_some (sym c.kind_of.ensures) ∙ c.is_none.ensures ∙ ap not c.if-is_none.false

  target_stands : is_some (kind_in (in_rows c.args.self.now.rows) c.args.target) ≡ true
  target_stands = ap is_some (sym c.kind_of-else-is_none.ensures) ∙ c.is_none-else-is_none.ensures ∙ ap not c.if-is_none-2.false

pub invariant_of-self : goal.invariant_of-self
invariant_of-self c =
    let t = c.args.self.now in
    let d = (goal.at.invariant_of-self c).Else-is_none-2 in
    record {
      kept = out_kept t.rows (places t.pairs) (listed t.pairs) t.kept t.pairs.rising c.args.holder c.args.target (holder_stands d) (target_stands d) c.args.set
          (places c.remove.new.self) (listed c.remove.new.self) c.remove.ensures.kept c.remove.ensures.listed;
    }

pub returns-then-is_empty-clause-answer : goal.returns-then-is_empty-clause-answer
returns-then-is_empty-clause-answer c =
    let t = c.args.self.now in
    let d = (goal.at.returns-then-is_empty-clause-answer c).Else-is_none-2 in
    stores_none t.rows (places t.pairs) (listed t.pairs) t.kept t.pairs.rising c.args.holder c.args.target (holder_stands d) (target_stands d) c.args.set (sym c.if-is_empty.ensures)

pub returns-then-is_empty-clause-state : goal.returns-then-is_empty-clause-state
returns-then-is_empty-clause-state c =
    let t = c.args.self.now in
    let d = (goal.at.returns-then-is_empty-clause-state c).Else-is_none-2 in
    out_state t.rows (places t.pairs) (listed t.pairs) t.kept t.pairs.rising c.args.holder c.args.target (holder_stands d) (target_stands d) c.args.set
    (places c.remove.new.self) (listed c.remove.new.self) c.remove.ensures.kept (sym c.if-is_empty.ensures) c.remove.ensures.listed

pub invariant_of-self-2 : goal.invariant_of-self-2
invariant_of-self-2 c =
    let t = c.args.self.now in
    let d = (goal.at.invariant_of-self-2 c).Else-is_none-2 in
    record {
      kept = by_kept t.rows (places t.pairs) (listed t.pairs) t.kept t.pairs.rising c.args.holder c.args.target (holder_stands d) (target_stands d) c.args.set
          (places c.put.new.self) (listed c.put.new.self) c.put.ensures.kept (sym c.if-is_empty.ensures) (is_ok c.put.result) c.put.ensures.listed;
    }

pub returns-clause-answer : goal.returns-clause-answer
returns-clause-answer c =
    let t = c.args.self.now in
    let d = (goal.at.returns-clause-answer c).Else-is_none-2 in
    told_full c.put.result c.map_err.result _ (λ e f k. search rules) c.map_err.ensures.cases
    ∙ stores_by t.rows (places t.pairs) (listed t.pairs) t.kept t.pairs.rising c.args.holder c.args.target (holder_stands d) (target_stands d) c.args.set
    (sym c.if-is_empty.ensures) (is_ok c.put.result) c.put.ensures.answer

pub returns-clause-state : goal.returns-clause-state
returns-clause-state c =
    let t = c.args.self.now in
    let d = (goal.at.returns-clause-state c).Else-is_none-2 in
    let st = meant (roll t.rows) (listed t.pairs) in
    by_state t.rows (places t.pairs) (listed t.pairs) t.kept t.pairs.rising c.args.holder c.args.target (holder_stands d) (target_stands d) c.args.set
    (places c.put.new.self) (listed c.put.new.self) c.put.ensures.kept (is_ok c.put.result) c.put.ensures.listed
    ∙ ap (λ (a : Answer (Unit {0})). after a (stored st c.args.holder c.args.target (tickets_of c.args.set)) st)
    (sym (told_full c.put.result c.map_err.result _ (λ e f k. search rules) c.map_err.ensures.cases))
