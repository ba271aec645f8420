use Rattle.std.proofs.Common.{◌≡◌}
use Rattle.console.proofs.listing.show_tickets.Given as goal

abbrev pub invariant-loop-place : goal.invariant-loop-place
invariant-loop-place g l = l.holdings ≡ l.initial.holdings
