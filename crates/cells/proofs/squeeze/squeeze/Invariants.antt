use Rattle.std.proofs.Common.{◌*◌}
use Rattle.cells.specs.Squeeze.{Squeezed}
use Rattle.cells.proofs.squeeze.squeeze.Given as goal

abbrev pub invariant-loop-i : goal.invariant-loop-i
invariant-loop-i l = Squeezed l.initial.cells l.cells l.n l.out l.count (l.i * l.n)
