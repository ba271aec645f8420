-- The calls of a set-up: what each checks, in order, what it answers and what it leaves.
use Rattle.std.specs.Prelude.{ℕ, Bool, List, [], ◌∷◌, ◌++◌, nat_lt}
use Rattle.model.specs.declared.refusal.Refusal.TheVariants.{PairsTaken, UnknownKind}
use Rattle.model.specs.Refusals.{Answer}
use Rattle.model.specs.Scheme.{Scheme}
use Rattle.model.specs.State.{State, Room, added, stored, stores}
use Rattle.model.specs.Calls.{Check, check, decide, after, row_checks, party_checks, gained}

-- entering an entity, and placing a ticket by hand
pub data Entry : Type 0 where
  enter : (kind : ℕ) → Entry
  place : (holder target right : ℕ) (flag : Bool) → Entry

-- what an entry checks, in order
abbrev pub entry_checks : Scheme → Room → State → Entry → List Check
entry_checks S R st (enter k) = check UnknownKind (nat_lt k S.kinds) ∷ row_checks R st
entry_checks S R st (place a y x c) = party_checks S st a y x ++ check PairsTaken (stores R st a y (gained st a y x c)) ∷ []

-- the number that a granted entry answers: the entity's, else 0
abbrev pub entry_reply : State → Entry → ℕ
entry_reply st (enter k) = st.next
entry_reply st (place a y x c) = 0

abbrev pub entry_answer : Scheme → Room → State → Entry → Answer ℕ
entry_answer S R st e = decide (entry_checks S R st e) (entry_reply st e)

-- what a granted entry leaves
abbrev pub entry_effect : State → Entry → State
entry_effect st (enter k) = added st k
entry_effect st (place a y x c) = stored st a y (gained st a y x c)

-- the state after an entry, granted or refused
abbrev pub entry_step : Scheme → Room → State → Entry → State
entry_step S R st e = after (entry_answer S R st e) (entry_effect st e) st
