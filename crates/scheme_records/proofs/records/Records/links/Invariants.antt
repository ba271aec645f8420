use Rattle.std.proofs.Common.{◌≡◌}
use Rattle.std.specs.List.{list_any as any}
use Rattle.scheme_records.specs.Listed.{listed}
use Rattle.scheme_records.specs.Said.{of_link, above}
use Rattle.scheme_records.proofs.records.Records.links.Given as goal

abbrev pub invariant-loop-link : goal.invariant-loop-link
invariant-loop-link l = l.links ≡ above (λ i. any (of_link i) (listed l.self)) l.link
