use Rattle.std.proofs.Common.{sym}
use Rattle.holdings.specs.Rows.{size, roll}
use Rattle.cells.proofs.Removes.{removed_none, removed_laid, removed_state, at_sizes}
use Rattle.cells.proofs.table.CellTableHoldingsMut.remove.Goals as goal

pub invariant_of-self : goal.invariant_of-self
invariant_of-self c =
    let t = c.args.self.now in
    let e = c.remove_at.ensures in
    let q = at_sizes t.cells.now c.squeeze.new.cells c.in-Some.place _ _ _ _ c.capacity-n.ensures c.standing-count.ensures c.squeeze.ensures in
    record { laid = removed_laid t.rows c.remove_at.new.self t.cells.now c.squeeze.new.cells c.args.number c.in-Some.place t.laid (sym c.in-Some.ensures) e.kept e.next e.left c.squeeze.auto.cells q }

pub returns-in-Some-clause-state : goal.returns-in-Some-clause-state
returns-in-Some-clause-state c =
    let t = c.args.self.now in
    let e = c.remove_at.ensures in
    let q = at_sizes t.cells.now c.squeeze.new.cells c.in-Some.place _ _ _ _ c.capacity-n.ensures c.standing-count.ensures c.squeeze.ensures in
    removed_state t.rows c.remove_at.new.self t.cells.now c.squeeze.new.cells c.args.number c.in-Some.place t.laid (sym c.in-Some.ensures) e.kept e.next e.left c.squeeze.auto.cells q

pub returns-in_default-clause-state : goal.returns-in_default-clause-state
returns-in_default-clause-state c =
    let t = c.args.self.now in removed_none (roll t.rows) (size t.rows) t.cells.now c.args.number (sym c.in_default.ensures)
