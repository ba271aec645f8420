-- Lists of entries and calls, one after another, and what they tell of each number.
use Rattle.std.specs.Prelude.{ℕ, List, [], ◌∷◌, ◌++◌, Option}
use Rattle.std.specs.Option.{unwrap_or}
use Rattle.model.specs.Refusals.{Answer, granted, refused}
use Rattle.model.specs.Scheme.{Scheme}
use Rattle.model.specs.State.{State, Room, new}
use Rattle.model.specs.Calls.{Call, copy, demand, create, drop, retire, answer, step, rule_for}
use Rattle.model.specs.SetUp.{Entry, enter, place, entry_answer, entry_step}

-- the state after a list of calls, each granted or refused
abbrev pub run : Scheme → Room → State → List Call → State
run S R st [] = st
run S R st (k ∷ ks) = run S R (step S R st k) ks

-- the state after a list of a set-up's entries, each granted or refused
abbrev pub set_up : Scheme → Room → State → List Entry → State
set_up S R st [] = st
set_up S R st (e ∷ es) = set_up S R (entry_step S R st e) es

-- what a set-up was given, and then what its register was called with
pub record Moment : Type 0 where
  pub entries : List Entry
  pub calls : List Call

-- the register at a moment, from new, empty holdings on
abbrev pub register_at : Scheme → Room → Moment → State
register_at S R m = run S R (set_up S R new m.entries) m.calls

-- an entity created: its number, and the rule and the parents that made it
pub record Birth : Type 0 where
  pub child : ℕ
  pub rule : ℕ
  pub parent : ℕ
  pub second : Option ℕ

abbrev pub birth_of : Scheme → State → Call → Answer ℕ → List Birth
birth_of S st (create a b k) (granted n) = record { child = n; rule = unwrap_or (rule_for S st a b k) 0; parent = a; second = b } ∷ []
birth_of S st (create a b k) (refused n) = []
birth_of S st (copy a b y x c) r = []
birth_of S st (demand b y x c) r = []
birth_of S st (drop a y x) r = []
birth_of S st (retire y) r = []

-- the entities created by a list of calls, the latest first
abbrev pub births : Scheme → Room → State → List Call → List Birth
births S R st [] = []
births S R st (k ∷ ks) = births S R (step S R st k) ks ++ birth_of S st k (answer S R st k)

-- an event in the life of a number: it was given by an enter or a create, or it was retired
pub data Event : Type 0 where
  given : ℕ → Event
  ended : ℕ → Event

abbrev pub event_of : Call → Answer ℕ → List Event
event_of (create a b k) (granted n) = given n ∷ []
event_of (create a b k) (refused n) = []
event_of (retire y) (granted n) = ended y ∷ []
event_of (retire y) (refused n) = []
event_of (copy a b y x c) r = []
event_of (demand b y x c) r = []
event_of (drop a y x) r = []

abbrev pub entry_event : Entry → Answer ℕ → List Event
entry_event (enter k) (granted n) = given n ∷ []
entry_event (enter k) (refused n) = []
entry_event (place a y x c) r = []

-- the events of a list of calls and of a list of entries, the first one first
abbrev pub events : Scheme → Room → State → List Call → List Event
events S R st [] = []
events S R st (k ∷ ks) = event_of k (answer S R st k) ++ events S R (step S R st k) ks

abbrev pub entry_events : Scheme → Room → State → List Entry → List Event
entry_events S R st [] = []
entry_events S R st (e ∷ es) = entry_event e (entry_answer S R st e) ++ entry_events S R (entry_step S R st e) es
