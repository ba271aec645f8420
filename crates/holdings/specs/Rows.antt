-- Rows for entities: the first of them, in number order, are taken by those that stand.
use Rattle.std.specs.Prelude.{ℕ, zero, suc, cond, List, [], ◌∷◌, length, take, Some, None, Option, ◌==◌, nat_lt}
use Rattle.std.specs.Option.{option_map}
use Rattle.model.specs.declared.tickets.Entity.{Entity}
use Rattle.model.specs.State.{State, Room}
use Rattle.model.specs.Tickets.{none}
use Rattle.holdings.specs.declared.rows.Rows.{Rows}

-- how many rows there are, and who stands in them
abbrev pub size : Rows → ℕ
size r = length r.entities.now

abbrev pub in_rows : Rows → List Entity
in_rows r = take r.count r.entities.now

-- what rows mean by themselves: the next number, who stands, and no ticket
abbrev pub roll : Rows → State
roll r = record { next = r.next; entities = in_rows r; tickets = λ h y. none }

-- room for so many entities, and for no ticket
abbrev pub row_room : ℕ → Room
row_room n = record { rows = n; pairs = 0 }

-- the place of the entity with number n, counted from 0
abbrev pub place_of : List Entity → ℕ → Option ℕ
place_of [] n = None
place_of (e ∷ es) n = cond (e.number == n) (Some 0) (option_map suc (place_of es n))

-- the entities but for the one at a place
abbrev pub remove_at : List Entity → ℕ → List Entity
remove_at [] i = []
remove_at (e ∷ es) zero = es
remove_at (e ∷ es) (suc i) = e ∷ remove_at es i

-- the place that moves up to i where the place r is taken out
abbrev pub past : ℕ → ℕ → ℕ
past r i = cond (nat_lt i r) i (suc i)
