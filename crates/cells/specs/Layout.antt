-- How cells lie in lent memory, and what they mean.
use Rattle.std.specs.Prelude.{◌≡◌, ℕ, ◌+◌, ◌*◌, ◌/◌, ◌%◌, ◌<◌, ◌≤◌, Bool, true, ◌&&◌, ◌⊎◌, List, [], ◌∷◌, length, Some, None, Option, ◌==◌, bit_or, nat_le, slice_index}
use Rattle.model.specs.declared.tickets.Entity.{Entity}
use Rattle.model.specs.declared.refusal.Refusal.TheVariants.{UnfitMemory}
use Rattle.model.specs.Refusals.{Answer}
use Rattle.model.specs.Tickets.{Tickets, none}
use Rattle.model.specs.State.{State, Table, Room, holding}
use Rattle.model.specs.Calls.{check, decide}
use Rattle.holdings.specs.declared.rows.Rows.{Rows}
use Rattle.holdings.specs.Rows.{size, place_of}

-- memory that fits: from 1 to 512 rows, and a cell for every pair of them
abbrev pub fit : ℕ → ℕ → Bool
fit rows cells = nat_le 1 rows && nat_le rows 512 && cells == rows * rows

abbrev pub fit_answer : ℕ → ℕ → Answer (Unit {0})
fit_answer rows cells = decide (check UnfitMemory (fit rows cells) ∷ []) tt

-- room for n entities and for every pair of them
abbrev pub square : ℕ → Room
square n = record { rows = n; pairs = n * n }

-- a word's tickets: the plain rights in its low 16 bits, the copyable ones in its high 16 bits
abbrev pub unpack : ℕ → Tickets
unpack w = record { plain = w % 65536; copyable = w / 65536 }

-- a word's copyable rights are plain ones too
abbrev pub Nested : ℕ → Type 0
Nested w = bit_or (w % 65536) (w / 65536) ≡ w % 65536

-- the cell of a row and a column, where a row has n cells
abbrev pub cell_at : ℕ → Option ℕ → Option ℕ → Option ℕ
cell_at n (Some i) (Some j) = Some (i * n + j)
cell_at n (Some i) None = None
cell_at n None j = None

-- the cell of a holder and a target, where both stand
abbrev pub cell_of : List Entity → ℕ → ℕ → ℕ → Option ℕ
cell_of es n h y = cell_at n (place_of es h) (place_of es y)

-- the tickets in a cell
abbrev pub in_cell : List ℕ → Option ℕ → Tickets
in_cell cells (Some k) = unpack (slice_index cells k)
in_cell cells None = none

-- what each entity has for each
abbrev pub held : List Entity → ℕ → List ℕ → Table
held es n cells = λ h y. in_cell cells (cell_of es n h y)

-- a state with the tickets that the cells hold
abbrev pub meant : State → ℕ → List ℕ → State
meant st n cells = holding st (held st.entities n cells)

-- what a table keeps true: the memory fits, every word is nested, and a cell without holder or target is 0
pub record Laid (rows : Rows) (cells : List ℕ) : Type 0 where
  pub fits : fit (size rows) (length cells) ≡ true
  pub nested : (k : ℕ) → Nested (slice_index cells k)
  pub clear : (i j : ℕ) → i < size rows → j < size rows → (rows.count ≤ i) ⊎ (rows.count ≤ j) → slice_index cells (i * size rows + j) ≡ 0
