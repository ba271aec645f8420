use Rattle.std.proofs.Common.{ℕ, ◌+◌, ◌*◌, List}
use Rattle.cells.specs.Squeeze.{Squeezed}
use Rattle.cells.proofs.squeeze.squeeze_row.Given as goal

abbrev pub invariant-loop-j : goal.invariant-loop-j
invariant-loop-j l =
    (old : List ℕ) → Squeezed old l.initial.cells l.n l.out l.count (l.i * l.n) → Squeezed old l.cells l.n l.out l.count (l.i * l.n + l.j)
