use Rattle.std.proofs.Common.{arith}
use Rattle.ordered.proofs.Filtered.{moved_none, moved_stays, moved_goes, moved_all}
use Rattle.ordered.proofs.front.retain_in_front.Goals as goal
use Rattle.ordered.proofs.front.retain_in_front.Goals.{then-keeps, else-keeps}

pub loop-place-init : goal.loop-place-init
loop-place-init g c = moved_none _ _

pub loop-place-preserved : goal.loop-place-preserved
loop-place-preserved g c =
    elim c.if-keeps.branch [
      | then-keeps w ↦ rw (w.entries-is, w.stayed-is) (moved_stays _ _ _ _ _ _ c.loop-place.invariant (omega arith) c.index-entries-place.is (rw w.if-keeps.true at c.keeps.ensures))
      | else-keeps w ↦ rw (w.entries-is, w.stayed-is) (moved_goes _ _ _ _ _ _ c.loop-place.invariant (omega arith) c.index-entries-place.is (rw w.if-keeps.false at c.keeps.ensures))
    ]

pub returns-clause-within : goal.returns-clause-within
returns-clause-within g c = omega (arith, c.loop-place.invariant.behind)

pub returns-clause-filtered : goal.returns-clause-filtered
returns-clause-filtered g c = moved_all _ _ _ _ _ c.loop-place.invariant (omega arith)
