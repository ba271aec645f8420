use Rattle.std.proofs.Common.{◌≡◌}
use Rattle.console.proofs.listing.show.Given as goal

abbrev pub invariant-loop-place : goal.invariant-loop-place
invariant-loop-place g l = l.holdings ≡ l.initial.holdings

abbrev pub invariant-loop-place-2 : goal.invariant-loop-place-2
invariant-loop-place-2 g l = l.holdings ≡ l.initial.holdings
