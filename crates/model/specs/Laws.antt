-- What holdings and registers keep true, through every entry and every call, from new, empty holdings on.
use Rattle.std.specs.Prelude.{◌≡◌, ℕ, suc, ◌<◌, ◌≤◌, Bool, true, false, List, [], ◌∷◌, length, Some}
use Rattle.model.specs.declared.tickets.Entity.{Entity}
use Rattle.model.specs.Scheme.{Scheme, WellFormed}
use Rattle.model.specs.State.{State, Room, kind_of, standing, subject, holds, filled, last_number}
use Rattle.model.specs.Calls.{Call, step}
use Rattle.model.specs.SetUp.{Entry, entry_step}
use Rattle.model.specs.Runs.{Moment, register_at}

-- numbers rise along the list from low on, and stay below n
abbrev pub Rising : ℕ → List Entity → ℕ → Type 0
Rising low [] n = low ≤ n
Rising low (e ∷ es) n = (low ≤ e.number) × Rising (suc e.number) es n

-- what all holdings keep true: numbers rise, lie below the next and within the last; holder and target of a ticket stand; and a
-- copyable ticket is held plain too
pub record Orderly (st : State) : Type 0 where
  pub rising : Rising 1 st.entities st.next
  pub numbers : st.next ≤ suc last_number
  pub only_standing : (h y x : ℕ) (c : Bool) → holds st h y x c ≡ true → (standing st h ≡ true) × (standing st y ≡ true)
  pub nested : (h y x : ℕ) → holds st h y x true ≡ true → holds st h y x false ≡ true

-- what a register keeps true under its scheme: its kinds are declared, only subjects hold tickets, and only of known rights
pub record Sound (S : Scheme) (st : State) : Type 0 where
  pub orderly : Orderly st
  pub declared : (e k : ℕ) → kind_of st e ≡ Some k → k < S.kinds
  pub by_subjects : (h y x : ℕ) (c : Bool) → holds st h y x c ≡ true → subject S st h ≡ true
  pub known : (h y x : ℕ) (c : Bool) → holds st h y x c ≡ true → x < S.rights

-- the law: of every well-formed scheme, in every room, every call and every entry of a set-up leaves a sound register sound
abbrev pub StaysSound : Type 0
StaysSound = (S : Scheme) → WellFormed S → (R : Room) (st : State) → Sound S st
    → ((k : Call) → Sound S (step S R st k)) × ((e : Entry) → Sound S (entry_step S R st e))

-- no more entities stand than there are rows, and no more pairs are filled than there are; the numbers' bound is among what all
-- holdings keep
pub record WithinRoom (R : Room) (st : State) : Type 0 where
  pub rows : length st.entities ≤ R.rows
  pub pairs : filled st ≤ R.pairs

-- the law: every call and every entry of a set-up keeps to the room
abbrev pub StaysWithin : Type 0
StaysWithin = (S : Scheme) (R : Room) (st : State) → Orderly st → WithinRoom R st
    → ((k : Call) → WithinRoom R (step S R st k)) × ((e : Entry) → WithinRoom R (entry_step S R st e))

-- the law: so from new, empty holdings on, after any entries and any calls, granted or refused, a register is sound and within its room
abbrev pub AlwaysSound : Type 0
AlwaysSound = (S : Scheme) → WellFormed S → (R : Room) (m : Moment) → Sound S (register_at S R m) × WithinRoom R (register_at S R m)
