-- The outlook: every possible creation, each once, and then the spread.
use Rattle.std.specs.Prelude.{◌≡◌, ℕ, zero, suc, ◌-◌, ◌*◌, ◌≤◌, min, Bool, true, false, cond, ◌&&◌, List, [], ◌∷◌, ◌++◌, length, Some, None, Option, ◌==◌}
use Rattle.std.specs.Option.{option_map, unwrap_or}
use Rattle.std.specs.List.{slice_get}
use Rattle.model.specs.declared.tickets.Entity.{Entity}
use Rattle.model.specs.Scheme.{Scheme, Rule, Part}
use Rattle.model.specs.State.{State, Room, Table, last_number}
use Rattle.model.specs.Calls.{born_by}
use Rattle.model.specs.Runs.{Birth}
use Rattle.model.specs.Spread.{Closure}

-- a way to create: a rule and its parents
pub record Choice : Type 0 where
  pub rule : ℕ
  pub parent : ℕ
  pub second : Option ℕ

abbrev pub same_option : Option ℕ → Option ℕ → Bool
same_option (Some a) (Some b) = a == b
same_option (Some a) None = false
same_option None (Some b) = false
same_option None None = true

abbrev pub same_choice : Choice → Choice → Bool
same_choice c d = c.rule == d.rule && c.parent == d.parent && same_option c.second d.second

-- the numbers of the entities of one kind, lowest first
abbrev pub of_kind : ℕ → List Entity → List ℕ
of_kind k [] = []
of_kind k (e ∷ es) = cond (e.kind == k) (e.number ∷ of_kind k es) (of_kind k es)

-- rule i by parent a with each of these second parents
abbrev pub with_seconds : ℕ → ℕ → List ℕ → List Choice
with_seconds i a [] = []
with_seconds i a (b ∷ bs) = record { rule = i; parent = a; second = Some b } ∷ with_seconds i a bs

-- rule i by each of these parents, with each second parent where the rule asks for one
abbrev pub with_parents : ℕ → List ℕ → Option (List ℕ) → List Choice
with_parents i [] bs = []
with_parents i (a ∷ others) None = record { rule = i; parent = a; second = None } ∷ with_parents i others None
with_parents i (a ∷ others) (Some bs) = with_seconds i a bs ++ with_parents i others (Some bs)

-- every choice, by rule and then by lowest numbers, the rules numbered from i on; one subject may be both parents
abbrev pub choices : List Rule → ℕ → List Entity → List Choice
choices [] i es = []
choices (r ∷ rs) i es =
    with_parents i (of_kind r.first.kind es) (option_map (λ p. of_kind p.kind es) r.second) ++ choices rs (suc i) es

-- a choice that was taken, and the number of the child that it made
pub record Made : Type 0 where
  pub choice : Choice
  pub child : ℕ

-- the child that a choice made, where it was taken
abbrev pub child_of : List Made → Choice → Option ℕ
child_of [] c = None
child_of (m ∷ ms) c = cond (same_choice m.choice c) (Some m.child) (child_of ms c)

-- the first choice that was not taken
abbrev pub unused : List Made → List Choice → Option Choice
unused ms [] = None
unused ms (c ∷ cs) = elim (child_of ms c) [ None ↦ Some c | Some n ↦ unused ms cs ]

-- how far the creations have come: the state, and what was made, the first one first
pub record Drawing : Type 0 where
  pub state : State
  pub made : List Made

abbrev pub next_choice : Scheme → Drawing → Option Choice
next_choice S d = unused d.made (choices S.rules 0 d.state.entities)

-- a choice is taken: its child is created
abbrev pub take : Scheme → Drawing → Option Choice → Drawing
take S d (Some c) = record {
  state = born_by d.state (slice_get S.rules c.rule) c.parent c.second;
  made = d.made ++ record { choice = c; child = d.state.next } ∷ [];
}
take S d None = d

-- one turn takes the first unused choice, where there is one
abbrev pub turn : Scheme → Drawing → Drawing
turn S d = take S d (next_choice S d)

-- the drawing after n turns
abbrev pub draw : Scheme → State → ℕ → Drawing
draw S st zero = record { state = st; made = [] }
draw S st (suc n) = turn S (draw S st n)

-- no choice is left
abbrev pub Complete : Scheme → Drawing → Type 0
Complete S d = next_choice S d ≡ None

-- with no limit more than n entities would be made
abbrev pub Exceeds : Scheme → State → ℕ → Type 0
Exceeds S st n = length (draw S st (suc n)).made ≡ suc n

-- a rule asks for a second parent of kind k
abbrev pub SecondIs : Option Part → ℕ → Type 0
SecondIs (Some p) k = p.kind ≡ k
SecondIs None k = ⊥

-- the second kind descends from the first: a child's from each of its parents'
pub data Descends (S : Scheme) : ℕ → ℕ → Type 0 where
  by_first : (i : ℕ) (r : Rule) → slice_get S.rules i ≡ Some r → Descends S r.first.kind r.child
  by_second : (i : ℕ) (r : Rule) (j : ℕ) → slice_get S.rules i ≡ Some r → SecondIs r.second j → Descends S j r.child
  further : (j k l : ℕ) → Descends S j k → Descends S k l → Descends S j l

-- a circle of creation: a kind that descends from itself
abbrev pub Circle : Scheme → Type 0
Circle S = (k : ℕ) × Descends S k k

-- rows of a work table of w rows, and numbers, that are left for new entities; and the fewer of the two
abbrev pub rows_left : State → ℕ → ℕ
rows_left st w = w - length st.entities

abbrev pub numbers_left : State → ℕ
numbers_left st = suc last_number - st.next

abbrev pub limit : State → ℕ → ℕ
limit st w = min (rows_left st w) (numbers_left st)

-- a granted outlook of a register with w rows: the scheme has no circle, the drawing is complete within the limit, and the table
-- that it shows is the closure of what was drawn
pub record Outlook (S : Scheme) (st : State) (w : ℕ) (d : Drawing) (t : Table) : Type 0 where
  pub no_circle : Circle S → ⊥
  pub fits : length st.entities ≤ w
  pub drawn : d ≡ draw S st (limit st w)
  pub complete : Complete S d
  pub spread : Closure S d.state t

-- The stand-in of an entity: itself where it stood when the outlook was drawn; for one created since, what the outlook made by the
-- same rule from its parents' stand-ins, in order, be they retired since or not. The births are those since the outlook, the latest first.
abbrev pub stand_in : List Made → List Birth → ℕ → ℕ
stand_in ms [] e = e
stand_in ms (b ∷ bs) e =
    cond (b.child == e)
    (unwrap_or (child_of ms (record { rule = b.rule; parent = stand_in ms bs b.parent; second = elim b.second [ None ↦ None | Some p ↦ Some (stand_in ms bs p) ] })) 0)
    (stand_in ms bs e)

-- the room of an ample twin with so many rows: a register like the one that an outlook was drawn of, with room for every pair
abbrev pub ample : ℕ → Room
ample rows = record { rows = rows; pairs = rows * rows }
