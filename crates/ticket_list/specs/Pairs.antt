-- Pairs of a holder and a target: their order, and the part that an entity has in them.
use Rattle.std.specs.Prelude.{ℕ, Bool, not, ◌&&◌, ◌||◌, ◌==◌, nat_lt}
use Rattle.std.specs.declared.cmp.Ordering.{Ordering}
use Rattle.std.specs.Ordering.{nat_cmp, ordering_then}
use Rattle.ticket_list.specs.declared.pairs.Pair.{Pair}

-- pairs are in order of the holder and then of the target
abbrev pub comes_before : Pair → Pair → Bool
comes_before p q = nat_lt p.holder q.holder || (p.holder == q.holder && nat_lt p.target q.target)

-- how two pairs compare
abbrev pub pair_cmp : Pair → Pair → Ordering
pair_cmp p q = ordering_then (nat_cmp p.holder q.holder) (nat_cmp p.target q.target)

-- the entity e is neither holder nor target
abbrev pub apart_from : ℕ → Pair → Bool
apart_from e p = not (p.holder == e) && not (p.target == e)
