-- Which commands that start over the program knows.
use Rattle.std.specs.Prelude.{Bool, true, false}
use Rattle.protocol.specs.declared.command.Start.{Start}
use Rattle.protocol.specs.declared.command.Start.TheVariants.{Card, File, Cells, List}

-- the card scheme and cell tables
abbrev pub cards_and_cells : Start → Bool
cards_and_cells Card = true
cards_and_cells (File p) = false
cards_and_cells (Cells n) = true
cards_and_cells (List n p) = false
