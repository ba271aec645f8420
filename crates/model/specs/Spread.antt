-- The spread: the least holdings that contain the register's and that no copy or demand among its entities enlarges. They are what can
-- be derived.
use Rattle.std.specs.Prelude.{◌≡◌, ℕ, Bool, true}
use Rattle.model.specs.Tickets.{Tickets, has, ticket_of}
use Rattle.model.specs.Scheme.{Scheme, Monotone}
use Rattle.model.specs.State.{State, Table, holds, gain, holding}
use Rattle.model.specs.Laws.{Sound}
use Rattle.model.specs.Grants.{MayCopy, MayDemand, Exactly}

-- no authorised copy or demand enlarges the holdings
pub record Closed (S : Scheme) (st : State) : Type 0 where
  pub copies : (a b y x : ℕ) (c d : Bool) → MayCopy S st a b y x c → has (ticket_of x c) x d ≡ true → holds st b y x d ≡ true
  pub demanded : (b y x : ℕ) (c d : Bool) → MayDemand S st b y x c → has (ticket_of x c) x d ≡ true → holds st b y x d ≡ true

-- every ticket of table u is in t
abbrev pub Contains : Table → Table → Type 0
Contains t u = (h y x : ℕ) (c : Bool) → has (u h y) x c ≡ true → has (t h y) x c ≡ true

-- a table is reached from the state by authorised copies and demands alone, a set of tickets at a time
pub data Grows (S : Scheme) (st : State) : Table → Type 0 where
  start : Grows S st st.tickets
  copies : (t : Table) (a b y : ℕ) (s : Tickets) → Grows S st t
      → ((x : ℕ) (d : Bool) → has s x d ≡ true → (c : Bool) × (has (ticket_of x c) x d ≡ true) × MayCopy S (holding st t) a b y x c)
      → Grows S st (gain t b y s)
  demanded : (t : Table) (b y : ℕ) (s : Tickets) → Grows S st t
      → ((x : ℕ) (d : Bool) → has s x d ≡ true → (c : Bool) × (has (ticket_of x c) x d ≡ true) × MayDemand S (holding st t) b y x c)
      → Grows S st (gain t b y s)

-- t is the closure of the state: reached by authorised copies and demands, and no further one enlarges it
pub record Closure (S : Scheme) (st : State) (t : Table) : Type 0 where
  pub grown : Grows S st t
  pub closed : Closed S (holding st t)

-- the same as a least table: it contains the state's, is closed, and lies within every closed table that contains the state's
pub record Least (S : Scheme) (st : State) (t : Table) : Type 0 where
  pub contains : Contains t st.tickets
  pub closed : Closed S (holding st t)
  pub least : (u : Table) → Contains u st.tickets → Closed S (holding st u) → Contains u t

-- a ticket can be derived: it is held, or a copy or a demand brings it that is authorised where only such tickets are held
pub data Derivable (S : Scheme) (st : State) : ℕ → ℕ → ℕ → Bool → Type 0 where
  is_held : (h y x : ℕ) (c : Bool) → holds st h y x c ≡ true → Derivable S st h y x c
  by_copy : (t : Table) (a b y x : ℕ) (c d : Bool) → ((h z u : ℕ) (f : Bool) → has (t h z) u f ≡ true → Derivable S st h z u f)
      → MayCopy S (holding st t) a b y x c → has (ticket_of x c) x d ≡ true → Derivable S st b y x d
  by_demand : (b y x : ℕ) (c d : Bool) → MayDemand S st b y x c → has (ticket_of x c) x d ≡ true → Derivable S st b y x d

-- the law: under monotone links a closure is the least closed table that contains the state's
abbrev pub ClosuresLeast : Type 0
ClosuresLeast = (S : Scheme) → Monotone S → (st : State) (t : Table) → Closure S st t → Least S st t

-- the law: and it holds exactly what can be derived
abbrev pub ClosuresDerive : Type 0
ClosuresDerive = (S : Scheme) → Monotone S → (st : State) (t : Table) → Closure S st t
    → (h y x : ℕ) (c : Bool) → Exactly (has (t h y) x c ≡ true) (Derivable S st h y x c)

-- the law: and a sound state is sound with it
abbrev pub ClosuresSound : Type 0
ClosuresSound = (S : Scheme) → Monotone S → (st : State) (t : Table) → Closure S st t → Sound S st → Sound S (holding st t)
