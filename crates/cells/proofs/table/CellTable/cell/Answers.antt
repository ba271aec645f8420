use Rattle.std.proofs.Common.{◌≡◌, ◌+◌, ◌*◌, ◌<◌, length, Some, arith}
use Rattle.holdings.specs.Rows.{size, in_rows}
use Rattle.cells.specs.Layout.{cell_of}
use Rattle.cells.proofs.Cells.{small, found_cell}
use Rattle.cells.proofs.table.CellTable.cell.Goals as goal
use Rattle.cells.proofs.table.CellTable.cell.Goals.{After-capacity}

module _ (c : After-capacity) where
  found : (Some (c.in_ok-row.row * c.capacity.result + c.in_ok-column.column) ≡ cell_of (in_rows c.args.self.now.rows) (size c.args.self.now.rows) c.args.holder c.args.target)
      × (c.in_ok-row.row * c.capacity.result + c.in_ok-column.column < length c.args.self.now.cells.now)
  found =
      found_cell c.args.self.now.rows c.args.self.now.cells.now c.args.self.now.laid c.args.holder c.args.target
      c.in_ok-row.row c.in_ok-column.column c.capacity.result c.capacity.ensures c.in_ok-row.ensures c.in_ok-column.ensures

  few : length c.args.self.now.cells.now < 1000000
  few = small c.args.self.now.rows c.args.self.now.cells.now c.args.self.now.laid

pub overflow_mul-result : goal.overflow_mul-result
overflow_mul-result c = omega (arith, (found c).1, few c)

pub overflow_add-result : goal.overflow_add-result
overflow_add-result c = omega (arith, (found c).1, few c)

pub returns-clause-within : goal.returns-clause-within
returns-clause-within c = (found c).1
