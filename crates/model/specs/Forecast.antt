-- What an outlook tells of every list of calls: between the entities of the register it shows exactly what calls can bring about where
-- there is room, and whatever is called afterwards, it covers by stand-ins.
use Rattle.std.specs.Prelude.{◌≡◌, ℕ, ◌*◌, ◌≤◌, Bool, true, List, Some}
use Rattle.model.specs.Tickets.{has}
use Rattle.model.specs.Scheme.{Scheme, WellFormed}
use Rattle.model.specs.State.{State, Room, Table, kind_of, standing, holds, holding}
use Rattle.model.specs.Calls.{Call}
use Rattle.model.specs.Runs.{run, births}
use Rattle.model.specs.Laws.{Sound}
use Rattle.model.specs.Grants.{Exactly}
use Rattle.model.specs.Lives.{Lived}
use Rattle.model.specs.Spread.{Contains, Closure}
use Rattle.model.specs.Outlook.{Drawing, draw, Complete, Outlook, stand_in}

-- whatever is called on the register after the drawing, in whatever room: who stood then stands in for itself; a stand-in is an entity of
-- the drawing, of the same kind; and every ticket held is in the table for the stand-ins of holder and target
pub record Covers (S : Scheme) (st : State) (d : Drawing) (t : Table) : Type 0 where
  pub itself : (R : Room) (ks : List Call) (e : ℕ) → standing st e ≡ true → stand_in d.made (births S R st ks) e ≡ e
  pub kinds : (R : Room) (ks : List Call) (e k : ℕ) → kind_of (run S R st ks) e ≡ Some k
      → kind_of d.state (stand_in d.made (births S R st ks) e) ≡ Some k
  pub tickets : (R : Room) (ks : List Call) (h y x : ℕ) (c : Bool) → holds (run S R st ks) h y x c ≡ true
      → has (t (stand_in d.made (births S R st ks) h) (stand_in d.made (births S R st ks) y)) x c ≡ true

-- the law: a complete drawing and the closure of its state cover every list of calls
abbrev pub DrawingsCover : Type 0
DrawingsCover = (S : Scheme) → WellFormed S → (st : State) → Sound S st → (n : ℕ) (t : Table)
    → Complete S (draw S st n) → Closure S (draw S st n).state t → Covers S st (draw S st n) t

-- room that is ample for an outlook with w rows: as many rows, and a pair for every two of them. A register with the same scheme, entities,
-- tickets and next number and such a room is an ample twin.
pub record Ample (w : ℕ) (R : Room) : Type 0 where
  pub rows : w ≤ R.rows
  pub pairs : R.rows * R.rows ≤ R.pairs

-- on every ample twin one list of calls brings about all tickets of the table, also for and by what the outlook made
abbrev pub Reached : Scheme → State → ℕ → Table → Type 0
Reached S st w t = (R : Room) → Ample w R → (ks : List Call) × Contains (run S R st ks).tickets t

-- the law: what an outlook shows can be reached
abbrev pub OutlooksReach : Type 0
OutlooksReach = (S : Scheme) → WellFormed S → (st : State) → Sound S st → (w : ℕ) (d : Drawing) (t : Table) → Outlook S st w d t → Reached S st w t

-- some list of calls brings the ticket about
abbrev pub ComesAbout : Scheme → Room → State → ℕ → ℕ → ℕ → Bool → Type 0
ComesAbout S R st h y x c = (ks : List Call) × (holds (run S R st ks) h y x c ≡ true)

-- exact: between entities of the register, what is shown is what comes about on every ample twin
abbrev pub Exact : Scheme → State → ℕ → Table → Type 0
Exact S st w t = (R : Room) → Ample w R → (h y x : ℕ) (c : Bool) → standing st h ≡ true → standing st y ≡ true
    → Exactly (has (t h y) x c ≡ true) (ComesAbout S R st h y x c)

-- what a granted outlook tells, all together; and what it shows is itself a sound state
pub record Forecast (S : Scheme) (st : State) (w : ℕ) (d : Drawing) (t : Table) : Type 0 where
  pub exact : Exact S st w t
  pub reached : Reached S st w t
  pub covers : Covers S st d t
  pub lived : Lived S
  pub sound : Sound S (holding d.state t)

-- the law: every granted outlook of a sound register forecasts
abbrev pub OutlooksForecast : Type 0
OutlooksForecast = (S : Scheme) → WellFormed S → (st : State) → Sound S st → (w : ℕ) (d : Drawing) (t : Table) → Outlook S st w d t → Forecast S st w d t
