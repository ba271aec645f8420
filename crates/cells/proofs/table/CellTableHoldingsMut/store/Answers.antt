use Rattle.model.specs.Tickets.{tickets_of}
use Rattle.cells.proofs.Stores.{no_cell, stored_answer, stored_state, stored_laid}
use Rattle.cells.proofs.table.CellTableHoldingsMut.store.Goals as goal

pub returns-in_default-clause-answer : goal.returns-in_default-clause-answer
returns-in_default-clause-answer c =
    let t = c.args.self.now in no_cell t.rows t.cells.now t.laid c.args.holder c.args.target (tickets_of c.args.set) c.in_default.ensures.cell

pub invariant_of-self : goal.invariant_of-self
invariant_of-self c =
    let t = c.args.self.now in
    let s = tickets_of c.args.set in
    record { laid = stored_laid t.rows t.cells.now t.laid c.args.holder c.args.target s c.in-Some.cell c.packed.result c.in-Some.ensures.cell c.packed.ensures.word c.packed.ensures.nested }

pub returns-clause-answer : goal.returns-clause-answer
returns-clause-answer c =
    let t = c.args.self.now in
    let s = tickets_of c.args.set in
    stored_answer t.rows t.cells.now t.laid c.args.holder c.args.target s c.in-Some.cell c.packed.result c.in-Some.ensures.cell c.packed.ensures.word

pub returns-clause-state : goal.returns-clause-state
returns-clause-state c =
    let t = c.args.self.now in
    let s = tickets_of c.args.set in
    stored_state t.rows t.cells.now t.laid c.args.holder c.args.target s c.in-Some.cell c.packed.result c.in-Some.ensures.cell c.packed.ensures.word c.in-Some.ensures.within
