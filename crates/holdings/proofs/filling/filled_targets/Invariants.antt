use Rattle.std.proofs.Common.{◌≡◌, take}
use Rattle.model.specs.State.{count_targets}
use Rattle.holdings.proofs.filling.filled_targets.Given as goal

-- nothing has moved, and the targets before this place are counted
abbrev pub invariant-loop-place : goal.invariant-loop-place
invariant-loop-place g l =
    (l.holdings ≡ l.initial.holdings)
    × (l.filled ≡ count_targets (g.H.Holdings.meaning l.initial.holdings).tickets l.holder (take l.place (g.H.Holdings.meaning l.initial.holdings).entities))
