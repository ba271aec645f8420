use Rattle.std.proofs.Common.{◌≡◌, ◌+◌, ◌*◌, subst, arith}
use Rattle.std.proofs.lemmas.Nat.{mul-add-lt}
use Rattle.cells.specs.Squeeze.{Squeezed}
use Rattle.cells.proofs.Removes.{squeeze_more}
use Rattle.cells.proofs.squeeze.squeeze_row.Goals as goal

pub loop-j-preserved : goal.loop-j-preserved
loop-j-preserved c = λ old q.
    let a = c.args in
    let l = mul-add-lt a.i a.n c.loop-j.j a.n (omega arith) (omega arith) in
    let e : a.i * a.n + c.loop-j.j + 1 ≡ a.i * a.n + (c.loop-j.j + 1) = omega arith in
    subst (Squeezed old _ a.n a.out a.count) e
    (squeeze_more old c.loop-j.cells a.n a.out a.count a.i c.loop-j.j c.squeezed_at-word.result (omega arith) (omega arith) c.squeezed_at-word.ensures (c.loop-j.invariant old q))
