use Rattle.ordered.specs.Entries.{AtKey}
use Rattle.ordered.proofs.Filtered.{Moved}
use Rattle.ordered.proofs.front.retain_in_front.Given as goal

abbrev pub invariant-loop-place : goal.invariant-loop-place
invariant-loop-place g l = Moved (AtKey (goal.F-post g l.keeps)) l.initial.entries l.entries l.stayed l.place
