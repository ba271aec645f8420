-- What holdings mean: the next number, the standing entities and who holds which tickets. And what each change leaves.
use Rattle.std.specs.Prelude.{ℕ, suc, ◌+◌, Bool, cond, not, ◌&&◌, ◌||◌, List, [], ◌∷◌, ◌++◌, is_some, Some, None, Option, ◌==◌, nat_le}
use Rattle.std.specs.Option.{unwrap_or}
use Rattle.model.specs.declared.tickets.Entity.{Entity}
use Rattle.model.specs.Tickets.{Tickets, none, join, has, empty}
use Rattle.model.specs.Scheme.{Scheme}

-- the tickets by holder's number and target's number
abbrev pub Table : Type 0
Table = ℕ → ℕ → Tickets

pub record State : Type 0 where
  pub next : ℕ
  -- those that stand, in number order
  pub entities : List Entity
  pub tickets : Table

-- how many entities may stand, and how many pairs of holder and target may be filled
pub record Room : Type 0 where
  pub rows : ℕ
  pub pairs : ℕ

-- an entity's number is at most this
abbrev pub last_number : ℕ
last_number = 999999

-- the kind of the entity with number e, where it stands
abbrev pub kind_in : List Entity → ℕ → Option ℕ
kind_in [] e = None
kind_in (f ∷ fs) e = cond (f.number == e) (Some f.kind) (kind_in fs e)

abbrev pub kind_of : State → ℕ → Option ℕ
kind_of st e = kind_in st.entities e

-- an entity with this number stands
abbrev pub standing : State → ℕ → Bool
standing st e = is_some (kind_of st e)

-- the kind of a standing entity; 0 where it does not stand, which every use rules out first
abbrev pub kind : State → ℕ → ℕ
kind st e = unwrap_or (kind_of st e) 0

-- a standing entity is a subject
abbrev pub subject : Scheme → State → ℕ → Bool
subject S st e = S.subject (kind st e)

-- holder h has the ticket for y with right x: with the copy flag, or plain
abbrev pub holds : State → ℕ → ℕ → ℕ → Bool → Bool
holds st h y x c = has (st.tickets h y) x c

-- the table with set s in the place of holder h and target y
abbrev pub put : Table → ℕ → ℕ → Tickets → Table
put t h y s = λ a b. cond (a == h && b == y) s (t a b)

-- the table with the tickets s more for holder h and target y
abbrev pub gain : Table → ℕ → ℕ → Tickets → Table
gain t h y s = put t h y (join (t h y) s)

-- the table with nothing for or by e
abbrev pub without : Table → ℕ → Table
without t e = λ a b. cond (a == e || b == e) none (t a b)

-- the entities but for e
abbrev pub remove : List Entity → ℕ → List Entity
remove [] e = []
remove (f ∷ fs) e = cond (f.number == e) (remove fs e) (f ∷ remove fs e)

-- no entity and no ticket: the next number is 1
abbrev pub new : State
new = record { next = 1; entities = []; tickets = λ h y. none }

-- one entity of kind k more: it has the next number
abbrev pub added : State → ℕ → State
added st k = record { next = suc st.next; entities = st.entities ++ record { number = st.next; kind = k } ∷ []; tickets = st.tickets }

-- another ticket table
abbrev pub holding : State → Table → State
holding st t = record { next = st.next; entities = st.entities; tickets = t }

-- set s in the place of holder h and target y
abbrev pub stored : State → ℕ → ℕ → Tickets → State
stored st h y s = holding st (put st.tickets h y s)

-- the entity e gone, with all that it holds and all tickets for it; the next number stays
abbrev pub removed : State → ℕ → State
removed st e = record { next = st.next; entities = remove st.entities e; tickets = without st.tickets e }

-- how many targets of a list holder h has tickets for
abbrev pub count_targets : Table → ℕ → List Entity → ℕ
count_targets t h [] = 0
count_targets t h (y ∷ ys) = cond (empty (t h y.number)) 0 1 + count_targets t h ys

-- how many pairs of a holder of one list and a target of the other are filled
abbrev pub count_pairs : Table → List Entity → List Entity → ℕ
count_pairs t [] ys = 0
count_pairs t (h ∷ hs) ys = count_targets t h.number ys + count_pairs t hs ys

-- how many pairs are filled
abbrev pub filled : State → ℕ
filled st = count_pairs st.tickets st.entities st.entities

-- there is a pair left to store s in: it is turned down exactly where the pair is empty, s is not, and all pairs are filled
abbrev pub stores : Room → State → ℕ → ℕ → Tickets → Bool
stores R st h y s = not (empty (st.tickets h y) && not (empty s) && nat_le R.pairs (filled st))

-- how many pairs a set takes in a place of its own, and beside what is there: one where that is empty and the set is not
abbrev pub takes : Tickets → ℕ
takes s = cond (empty s) 0 1

abbrev pub takes_beside : Tickets → Tickets → ℕ
takes_beside v s = cond (empty v) (takes s) 0
