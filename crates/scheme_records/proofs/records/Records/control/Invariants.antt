use Rattle.std.proofs.Common.{◌≡◌}
use Rattle.std.specs.List.{list_any as any}
use Rattle.scheme_records.specs.Listed.{listed}
use Rattle.scheme_records.specs.Said.{control_right, mask_of}
use Rattle.scheme_records.proofs.records.Records.control.Given as goal

abbrev pub invariant-loop-right : goal.invariant-loop-right
invariant-loop-right l = l.mask ≡ mask_of (λ x. any (control_right x) (listed l.self)) l.right
