-- What a spread and an outlook answer, and what the work table then holds.
use Rattle.std.specs.Prelude.{ℕ, ◌+◌, ◌-◌, ◌<◌, ◌≤◌, List, [], ◌∷◌, length, count_ones}
use Rattle.model.specs.declared.tickets.Entity.{Entity}
use Rattle.model.specs.declared.refusal.Refusal.TheVariants.{Circle as HasCircle, TableTooSmall, NumbersSpent}
use Rattle.model.specs.Refusals.{Answer, granted, refused, refusal_number}
use Rattle.model.specs.Tickets.{Tickets}
use Rattle.model.specs.Scheme.{Scheme}
use Rattle.model.specs.State.{State, Table, new, holding}
use Rattle.model.specs.Spread.{Closure}
use Rattle.model.specs.Outlook.{Drawing, Circle, Exceeds, Outlook, rows_left, numbers_left, limit}

-- the rights of a set, plain and copyable each counting one
abbrev pub rights_in : Tickets → ℕ
rights_in s = count_ones s.plain + count_ones s.copyable

-- the rights that holder h has for the entities of a list
abbrev pub rights_by : Table → ℕ → List Entity → ℕ
rights_by t h [] = 0
rights_by t h (y ∷ ys) = rights_in (t h y.number) + rights_by t h ys

-- the rights that the entities of one list have for those of another
abbrev pub rights_between : Table → List Entity → List Entity → ℕ
rights_between t [] ys = 0
rights_between t (h ∷ hs) ys = rights_by t h.number ys + rights_between t hs ys

-- all rights of a state
abbrev pub all_rights : State → ℕ
all_rights st = rights_between st.tickets st.entities st.entities

-- the two counts: entities made and rights added
pub record Counts : Type 0 where
  pub made : ℕ
  pub added : ℕ

-- a spread into a work table of w rows: what it answers, and what the table then holds
pub data Spreads (S : Scheme) (st : State) (w : ℕ) : Answer Counts → State → Type 0 where
  crowded : w < length st.entities → Spreads S st w (refused (refusal_number TableTooSmall)) new
  done : (t : Table) → length st.entities ≤ w → Closure S st t
      → Spreads S st w (granted (record { made = 0; added = all_rights (holding st t) - all_rights st })) (holding st t)

-- an outlook into a work table of w rows, its refusals in the order in which they are told: a circle of creation; more entities
-- than rows; more creations than there are rows or numbers left, told by whichever is fewer
pub data Outlooks (S : Scheme) (st : State) (w : ℕ) : Answer Counts → State → Type 0 where
  circle : Circle S → Outlooks S st w (refused (refusal_number HasCircle)) new
  crowded : (Circle S → ⊥) → w < length st.entities → Outlooks S st w (refused (refusal_number TableTooSmall)) new
  few_rows : (Circle S → ⊥) → length st.entities ≤ w → Exceeds S st (limit st w) → rows_left st w ≤ numbers_left st
      → Outlooks S st w (refused (refusal_number TableTooSmall)) new
  few_numbers : (Circle S → ⊥) → length st.entities ≤ w → Exceeds S st (limit st w) → numbers_left st < rows_left st w
      → Outlooks S st w (refused (refusal_number NumbersSpent)) new
  shown : (d : Drawing) (t : Table) → Outlook S st w d t
      → Outlooks S st w (granted (record { made = length d.made; added = all_rights (holding d.state t) - all_rights st })) (holding d.state t)
