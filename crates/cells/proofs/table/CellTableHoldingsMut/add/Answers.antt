use Rattle.model.specs.Refusals.{told}
use Rattle.cells.proofs.Adds.{added_state}
use Rattle.cells.proofs.table.CellTableHoldingsMut.add.Goals as goal

pub returns-clause-state : goal.returns-clause-state
returns-clause-state c =
    let t = c.args.self.now in
    added_state t.rows t.cells.now c.args.kind t.laid c.add.new.self (told c.add.result) c.add.ensures.kept c.add.ensures.state
