-- When the Schematic Protection Model, with joint creation, authorises a copy, a demand and a creation, and what each then adds.
-- In the model's own words. And that the calls are granted exactly then.
use Rattle.std.specs.Prelude.{◌≡◌, ℕ, suc, ◌<◌, ◌≤◌, Bool, true, false, ◌&&◌, ◌⊎◌, List, [], ◌∷◌, ◌++◌, length, Some, None, Option}
use Rattle.std.specs.List.{slice_get}
use Rattle.model.specs.declared.tickets.Entity.{Entity}
use Rattle.model.specs.Refusals.{Answer, granted}
use Rattle.model.specs.Tickets.{Tickets, has, ticket_of}
use Rattle.model.specs.Scheme.{Scheme, Rule, Part, WellFormed}
use Rattle.model.specs.State.{State, Room, kind_in, kind_of, standing, subject, holds, filled, stores, last_number}
use Rattle.model.specs.Calls.{copy, demand, create, linked, passes, demands, gained, born, answer, step}

-- a copy of Y/x (or Y/xc) from a to b: a has Y/xc, and some link from a to b passes the ticket
pub record MayCopy (S : Scheme) (st : State) (a b y x : ℕ) (c : Bool) : Type 0 where
  pub giver : standing st a ≡ true
  pub taker : standing st b ≡ true
  pub target : standing st y ≡ true
  pub gives : subject S st a ≡ true
  pub takes : subject S st b ≡ true
  pub known : x < S.rights
  pub copyable : holds st a y x true ≡ true
  pub link : ℕ
  pub declared : link < S.links
  pub on : linked S st a b link ≡ true
  pub lets : passes S st a b y x c link ≡ true

-- a demand by b of a ticket for y: the demand function has it
pub record MayDemand (S : Scheme) (st : State) (b y x : ℕ) (c : Bool) : Type 0 where
  pub demander : standing st b ≡ true
  pub target : standing st y ≡ true
  pub takes : subject S st b ≡ true
  pub known : x < S.rights
  pub lets : demands S st b y x c ≡ true

-- the second parent stands and is of the kind that the rule asks for, and there is one exactly where the rule asks for one
abbrev pub SecondFits : List Entity → Option Part → Option ℕ → Type 0
SecondFits es (Some p) (Some b) = kind_in es b ≡ Some p.kind
SecondFits es (Some p) None = ⊥
SecondFits es None (Some b) = ⊥
SecondFits es None None = Unit {0}

-- a creation of a child of kind k: some rule makes this kind from parents of these kinds, in this order
pub record MayCreate (S : Scheme) (st : State) (a : ℕ) (b : Option ℕ) (k : ℕ) : Type 0 where
  pub number : ℕ
  pub rule : Rule
  pub is : slice_get S.rules number ≡ Some rule
  pub parent : kind_of st a ≡ Some rule.first.kind
  pub other : SecondFits st.entities rule.second b
  pub makes : rule.child ≡ k

-- rows, numbers and pairs suffice for what the rule makes
pub record HasRoom (R : Room) (st : State) (r : Rule) (a : ℕ) (b : Option ℕ) : Type 0 where
  pub rows : length st.entities < R.rows
  pub numbers : st.next ≤ last_number
  pub pairs : filled (born st r a b) ≤ R.pairs

-- each of two statements gives the other
pub record Exactly (p q : Type 0) : Type 0 where
  pub only : p → q
  pub whenever : q → p

-- an answer grants something
abbrev pub Granted : {A : Type 0} → Answer A → Type 0
Granted {A} r = (v : A) × (r ≡ granted v)

-- a copy is answered exactly: granted when it is authorised and there is a pair for what b then has
abbrev pub CopyExact : {A : Type 0} → Scheme → Room → State → ℕ → ℕ → ℕ → ℕ → Bool → Answer A → Type 0
CopyExact S R st a b y x c r = Exactly (Granted r) (MayCopy S st a b y x c × (stores R st b y (gained st b y x c) ≡ true))

-- a demand is answered exactly: granted when it is authorised and there is a pair for what b then has
abbrev pub DemandExact : {A : Type 0} → Scheme → Room → State → ℕ → ℕ → ℕ → Bool → Answer A → Type 0
DemandExact S R st b y x c r = Exactly (Granted r) (MayDemand S st b y x c × (stores R st b y (gained st b y x c) ≡ true))

-- a creation is answered exactly: granted when it is authorised by a rule that there is room for
abbrev pub CreateExact : {A : Type 0} → Scheme → Room → State → ℕ → Option ℕ → ℕ → Answer A → Type 0
CreateExact S R st a b k r = Exactly (Granted r) ((m : MayCreate S st a b k) × HasRoom R st m.rule a b)

-- link i is the lowest that holds from a to b and passes the ticket as wanted
pub record LowestLink (S : Scheme) (st : State) (a b y x : ℕ) (c : Bool) (i : ℕ) : Type 0 where
  pub declared : i < S.links
  pub on : linked S st a b i ≡ true
  pub lets : passes S st a b y x c i ≡ true
  pub lower : (j : ℕ) → j < i → (linked S st a b j && passes S st a b y x c j) ≡ false

-- h gains the tickets s for y, and nothing else changes
pub record Adds (st : State) (h y : ℕ) (s : Tickets) (st' : State) : Type 0 where
  pub next : st'.next ≡ st.next
  pub entities : st'.entities ≡ st.entities
  -- held afterwards: what was held before, and s
  pub tickets : (a e x : ℕ) (c : Bool)
      → Exactly (holds st' a e x c ≡ true) ((holds st a e x c ≡ true) ⊎ ((a ≡ h) × (e ≡ y) × (has s x c ≡ true)))

-- the tickets that rule r gives when a, and b where there is a second parent, create n: by holder, target, right and copy flag
pub data Gives (r : Rule) (a : ℕ) (b : Option ℕ) (n : ℕ) : ℕ → ℕ → ℕ → Bool → Type 0 where
  -- to the first parent: C for the child and S for itself
  first_c : (x : ℕ) (c : Bool) → has r.first.for_child x c ≡ true → Gives r a b n a n x c
  first_s : (x : ℕ) (c : Bool) → has r.first.for_self x c ≡ true → Gives r a b n a a x c
  -- to the second parent the same
  second_c : (p : Part) (e x : ℕ) (c : Bool) → r.second ≡ Some p → b ≡ Some e → has p.for_child x c ≡ true → Gives r a b n e n x c
  second_s : (p : Part) (e x : ℕ) (c : Bool) → r.second ≡ Some p → b ≡ Some e → has p.for_self x c ≡ true → Gives r a b n e e x c
  -- to the child: G for each parent and H for itself
  first_g : (x : ℕ) (c : Bool) → has r.first.to_child x c ≡ true → Gives r a b n n a x c
  second_g : (p : Part) (e x : ℕ) (c : Bool) → r.second ≡ Some p → b ≡ Some e → has p.to_child x c ≡ true → Gives r a b n n e x c
  own_h : (x : ℕ) (c : Bool) → has r.own x c ≡ true → Gives r a b n n n x c

-- a child by rule r: it has the next number, the rule's tickets are given, and nothing else changes
pub record Creates (st : State) (r : Rule) (a : ℕ) (b : Option ℕ) (st' : State) : Type 0 where
  pub next : st'.next ≡ suc st.next
  pub entities : st'.entities ≡ st.entities ++ record { number = st.next; kind = r.child } ∷ []
  -- held afterwards: what was held before, and what the rule gives
  pub tickets : (h y x : ℕ) (c : Bool)
      → Exactly (holds st' h y x c ≡ true) ((holds st h y x c ≡ true) ⊎ Gives r a b st.next h y x c)

-- a copy that was answered with r and left st': granted exactly when it is authorised and there is a pair for it; then by the lowest
-- link that holds and passes, and it adds exactly the ticket
pub record Copied (S : Scheme) (R : Room) (st : State) (a b y x : ℕ) (c : Bool) (r : Answer ℕ) (st' : State) : Type 0 where
  pub exact : CopyExact S R st a b y x c r
  pub lowest : (i : ℕ) → r ≡ granted i → LowestLink S st a b y x c i
  pub adds : Granted r → Adds st b y (ticket_of x c) st'

-- a demand likewise: granted exactly when it is authorised and there is a pair for it, and then it adds exactly the ticket
pub record Demanded (S : Scheme) (R : Room) (st : State) (b y x : ℕ) (c : Bool) (r : Answer (Unit {0})) (st' : State) : Type 0 where
  pub exact : DemandExact S R st b y x c r
  pub adds : Granted r → Adds st b y (ticket_of x c) st'

-- and a creation: granted exactly when a rule authorises it that there is room for; then it answers the next number, and makes the
-- child and gives the tickets by that rule
pub record Created (S : Scheme) (R : Room) (st : State) (a : ℕ) (b : Option ℕ) (k : ℕ) (r : Answer ℕ) (st' : State) : Type 0 where
  pub exact : CreateExact S R st a b k r
  pub makes : (n : ℕ) (m : MayCreate S st a b k) → r ≡ granted n → (n ≡ st.next) × Creates st m.rule a b st'

-- the laws: of every scheme, in every room and state, a copy and a demand are granted exactly when they are authorised and there is room
abbrev pub CopiesExactly : Type 0
CopiesExactly = (S : Scheme) (R : Room) (st : State) (a b y x : ℕ) (c : Bool) → CopyExact S R st a b y x c (answer S R st (copy a b y x c))

abbrev pub DemandsExactly : Type 0
DemandsExactly = (S : Scheme) (R : Room) (st : State) (b y x : ℕ) (c : Bool) → DemandExact S R st b y x c (answer S R st (demand b y x c))

-- and of every well-formed scheme a creation
abbrev pub CreatesExactly : Type 0
CreatesExactly = (S : Scheme) → WellFormed S → (R : Room) (st : State) (a : ℕ) (b : Option ℕ) (k : ℕ) → CreateExact S R st a b k (answer S R st (create a b k))

-- a granted copy answers the lowest link that holds and passes
abbrev pub CopiesByLowest : Type 0
CopiesByLowest = (S : Scheme) (R : Room) (st : State) (a b y x : ℕ) (c : Bool) (i : ℕ)
    → answer S R st (copy a b y x c) ≡ granted i → LowestLink S st a b y x c i

-- a granted copy and a granted demand add the ticket
abbrev pub CopiesAdd : Type 0
CopiesAdd = (S : Scheme) (R : Room) (st : State) (a b y x : ℕ) (c : Bool)
    → Granted (answer S R st (copy a b y x c)) → Adds st b y (ticket_of x c) (step S R st (copy a b y x c))

abbrev pub DemandsAdd : Type 0
DemandsAdd = (S : Scheme) (R : Room) (st : State) (b y x : ℕ) (c : Bool)
    → Granted (answer S R st (demand b y x c)) → Adds st b y (ticket_of x c) (step S R st (demand b y x c))

-- a granted creation answers the child's number, and makes the child by the rule that authorises it
abbrev pub CreationsAdd : Type 0
CreationsAdd = (S : Scheme) → WellFormed S → (R : Room) (st : State) (a : ℕ) (b : Option ℕ) (k n : ℕ) (m : MayCreate S st a b k)
    → answer S R st (create a b k) ≡ granted n → (n ≡ st.next) × Creates st m.rule a b (step S R st (create a b k))

-- what each granted call adds
abbrev pub GrantsAdd : Type 0
GrantsAdd = CopiesAdd × DemandsAdd × CreationsAdd
