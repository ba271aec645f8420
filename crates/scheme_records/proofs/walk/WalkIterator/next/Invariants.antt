use Rattle.std.proofs.Common.{◌-◌, ◌≤◌, ◌≡◌}
use Rattle.scheme_records.specs.Walked.{left}
use Rattle.scheme_records.proofs.walk.WalkIterator.next.Given as goal

abbrev pub invariant-loop-place : goal.invariant-loop-place
invariant-loop-place l = (l.self.records ≡ l.fn.self.records) × ((l.self.places.end ≡ l.fn.self.places.end) × ((left l.self ≡ left l.fn.self) × (l.fn.self.places.start ≤ l.self.places.start)))

abbrev pub decreases-loop-place : goal.decreases-loop-place
decreases-loop-place l = l.self.places.end - l.self.places.start
