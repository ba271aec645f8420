-- Which commands that start over the program knows.
use Rattle.std.specs.Prelude.{Bool, true, false, nat_le}
use Rattle.protocol.specs.declared.command.Start.{Start}
use Rattle.protocol.specs.declared.command.Start.TheVariants.{Card, File, Cells, List}

-- the card scheme, cell tables, and ticket lists of two rows and more
abbrev pub two_rows_and_more : Start → Bool
two_rows_and_more Card = true
two_rows_and_more (File p) = false
two_rows_and_more (Cells n) = true
two_rows_and_more (List n p) = nat_le 2 n
