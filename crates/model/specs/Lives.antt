-- The life of a number: it is given once, and a ticket is held for or by an entity only between its entry or creation and its
-- retiring. Of one moment, and of two.
use Rattle.std.specs.Prelude.{◌≡◌, ℕ, ◌+◌, ◌<◌, ◌≤◌, Bool, true, false, cond, List, [], ◌∷◌, ◌++◌, Some, ◌==◌}
use Rattle.model.specs.Scheme.{Scheme, WellFormed}
use Rattle.model.specs.State.{State, Room, new, kind_of, standing, holds}
use Rattle.model.specs.Calls.{Call}
use Rattle.model.specs.SetUp.{Entry}
use Rattle.model.specs.Runs.{set_up, Moment, register_at, Event, given, ended, events, entry_events}
use Rattle.model.specs.Grants.{Exactly}

-- the numbers given and retired until a moment, the first one first
abbrev pub history : Scheme → Room → Moment → List Event
history S R m = entry_events S R new m.entries ++ events S R (set_up S R new m.entries) m.calls

-- how often a number was given
abbrev pub times_given : List Event → ℕ → ℕ
times_given [] n = 0
times_given (given m ∷ es) n = cond (m == n) 1 0 + times_given es n
times_given (ended m ∷ es) n = times_given es n

-- how often a number was retired
abbrev pub times_ended : List Event → ℕ → ℕ
times_ended [] n = 0
times_ended (given m ∷ es) n = times_ended es n
times_ended (ended m ∷ es) n = cond (m == n) 1 0 + times_ended es n

-- the number was given, and not retired since
pub record Living (es : List Event) (n : ℕ) : Type 0 where
  pub came : times_given es n ≡ 1
  pub stays : times_ended es n ≡ 0

-- no ticket is held by n or for n
abbrev pub Ticketless : State → ℕ → Type 0
Ticketless st n = (e x : ℕ) (c : Bool) → (holds st n e x c ≡ false) × (holds st e n x c ≡ false)

-- of one moment: holder and target of every ticket live; those who stand are those who live; no number is given twice, nor retired
-- more often than given
pub record HeldInLife (S : Scheme) (R : Room) (m : Moment) : Type 0 where
  pub held : (h y x : ℕ) (c : Bool) → holds (register_at S R m) h y x c ≡ true → Living (history S R m) h × Living (history S R m) y
  pub stands : (n : ℕ) → Exactly (standing (register_at S R m) n ≡ true) (Living (history S R m) n)
  pub once : (n : ℕ) → times_given (history S R m) n ≤ 1
  pub ended_once : (n : ℕ) → times_ended (history S R m) n ≤ times_given (history S R m) n

-- a moment, and the same or a later one: during the set-up or after it
pub data Later : Moment → Moment → Type 0 where
  while_set_up : (es fs : List Entry) (ks : List Call) → Later (record { entries = es; calls = [] }) (record { entries = es ++ fs; calls = ks })
  once_open : (es : List Entry) (ks ls : List Call) → Later (record { entries = es; calls = ks }) (record { entries = es; calls = ks ++ ls })

-- of two moments, the second after the first: what was retired by the first has no ticket at the second; what is given its number
-- only after the first has none at the first; what was given by the first is not given again; and who stands at both is the same
-- entity, of the same kind
pub record NeverAgain (S : Scheme) (R : Room) (m l : Moment) : Type 0 where
  pub gone : (n : ℕ) → 0 < times_ended (history S R m) n → Ticketless (register_at S R l) n
  pub unborn : (n : ℕ) → times_given (history S R m) n < times_given (history S R l) n → Ticketless (register_at S R m) n
  pub once : (n : ℕ) → 0 < times_given (history S R m) n → times_given (history S R l) n ≡ times_given (history S R m) n
  pub same : (n k : ℕ) → kind_of (register_at S R m) n ≡ Some k → standing (register_at S R l) n ≡ true → kind_of (register_at S R l) n ≡ Some k

-- both, of every room and every moment of registers with one scheme
pub record Lived (S : Scheme) : Type 0 where
  pub in_life : (R : Room) (m : Moment) → HeldInLife S R m
  pub never_again : (R : Room) (m l : Moment) → Later m l → NeverAgain S R m l

-- the law: numbers are given once
abbrev pub NumbersOnce : Type 0
NumbersOnce = (S : Scheme) → WellFormed S → Lived S
