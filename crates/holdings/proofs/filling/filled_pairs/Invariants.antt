use Rattle.std.proofs.Common.{◌≡◌, take}
use Rattle.model.specs.State.{count_pairs}
use Rattle.holdings.proofs.filling.filled_pairs.Given as goal

-- nothing has moved, and the pairs of the holders before this place are counted
abbrev pub invariant-loop-place : goal.invariant-loop-place
invariant-loop-place g l =
    let st = g.H.Holdings.meaning l.initial.holdings in
    (l.holdings ≡ l.initial.holdings) × (l.filled ≡ count_pairs st.tickets (take l.place st.entities) st.entities)
