-- Worked examples under the card scheme: a table of registers, what is called there and answered, and what is then held.
use Rattle.std.specs.Prelude.{◌≡◌, ℕ, Bool, true, false, List, [], ◌∷◌, None}
use Rattle.std.specs.List.{AllByRecursion}
use Rattle.model.specs.Refusals.{Answer, granted, refused}
use Rattle.model.specs.State.{State, Room, new, holds}
use Rattle.model.specs.Calls.{Call, copy, demand, create, drop, retire, answer, step}
use Rattle.model.specs.SetUp.{Entry, enter}
use Rattle.model.specs.Runs.{set_up}
use Rattle.scheme.specs.Card.{card_scheme, person, folder, yard, card, r, w, t, g}

-- a line of an example
infix 68 ◌answers◌
pub data Line : Type 0 where
  -- the call is made, and answers so
  ◌answers◌ : Call → Answer ℕ → Line
  -- the holder now has the ticket for the target
  has : (holder target right : ℕ) (flag : Bool) → Line
  -- the holder now lacks it
  lacks : (holder target right : ℕ) (flag : Bool) → Line
  -- now nobody but the holder has tickets for the target
  only : (holder target : ℕ) → Line

-- what a line says of the register before it
abbrev pub Says : Room → State → Line → Type 0
Says R st (k answers a) = answer card_scheme R st k ≡ a
Says R st (has h y x f) = holds st h y x f ≡ true
Says R st (lacks h y x f) = holds st h y x f ≡ false
Says R st (only h y) = (e x : ℕ) (f : Bool) → holds st e y x f ≡ true → e ≡ h

-- the register after a line: calls alone change it
abbrev pub beyond : Room → State → Line → State
beyond R st (k answers a) = step card_scheme R st k
beyond R st (has h y x f) = st
beyond R st (lacks h y x f) = st
beyond R st (only h y) = st

-- each line is so, one after another
abbrev pub EachSays : Room → State → List Line → Type 0
EachSays R st [] = Unit {0}
EachSays R st (l ∷ ls) = Says R st l × EachSays R (beyond R st l) ls

-- a row of the table: a register of so many rows and pairs, set up by these entries and opened; and its lines
pub record Example : Type 0 where
  pub room : Room
  pub entries : List Entry
  pub lines : List Line

-- an example goes as its lines say
abbrev pub Plays : Example → Type 0
Plays e = EachSays e.room (set_up card_scheme e.room new e.entries) e.lines

-- the copy flag, and none: r c is rc, and r plain is r
abbrev pub c : Bool
c = true

abbrev pub plain : Bool
plain = false

-- room for so many entities and so many pairs of holder and target
abbrev pub room : ℕ → ℕ → Room
room rows pairs = record { rows = rows; pairs = pairs }

-- the persons 1 and 2
abbrev pub two_persons : List Entry
two_persons = enter person ∷ enter person ∷ []

abbrev pub a_card_is_shared : Example
a_card_is_shared = record {
  room = room 8 64;
  entries = two_persons;
  lines =
      -- 1 creates a yard, a folder and a card
      create 1 None yard answers granted 3
      ∷ has 3 1 t plain
      ∷ has 3 1 g plain
      ∷ create 1 None folder answers granted 4
      ∷ create 1 None card answers granted 5
      -- 1 puts 5/rc into the folder by link 1, and 4/tc into the yard by link 0
      ∷ copy 1 4 5 r c answers granted 1
      ∷ copy 1 3 4 t c answers granted 0
      -- 1 demands 2/gc, and gives 2/g to the yard by link 1
      ∷ demand 1 2 g c answers granted 0
      ∷ copy 1 3 2 g plain answers granted 1
      -- the yard gives 4/t to 2, and the folder 5/r, each by link 0
      ∷ copy 3 2 4 t plain answers granted 0
      ∷ copy 4 2 5 r plain answers granted 0
      ∷ has 2 5 r plain
      ∷ lacks 2 5 r c
      -- the folder has no 5/wc, and no link passes 5/rc to a person
      ∷ copy 4 2 5 w plain answers refused 4
      ∷ copy 4 2 5 r c answers refused 6
      -- the card goes; 2 creates another, for which 2 alone has tickets, and there is no link from 2 to the folder
      ∷ retire 5 answers granted 0
      ∷ lacks 2 5 r plain
      ∷ create 2 None card answers granted 6
      ∷ has 2 6 r c
      ∷ has 2 6 w c
      ∷ only 2 6
      ∷ copy 2 4 6 r c answers refused 5
      -- 5 does not stand, nobody may demand r, there is no type 4, and no folder creates a folder
      ∷ retire 5 answers refused 1
      ∷ demand 1 2 r plain answers refused 7
      ∷ create 1 None 4 answers refused 12
      ∷ create 4 None folder answers refused 8
      -- there is no right 5
      ∷ copy 1 4 2 5 plain answers refused 3
      ∷ demand 1 2 5 plain answers refused 3
      ∷ drop 1 2 5 answers refused 3
      -- a card holds nothing, and 1 does not hold 2/r
      ∷ drop 6 1 r answers refused 2
      ∷ drop 1 2 r answers refused 13
      ∷ [];
}

-- two rows for two persons: none is left for a child
abbrev pub no_row_left : Example
no_row_left = record { room = room 2 4; entries = two_persons; lines = create 1 None folder answers refused 9 ∷ [] }

-- one pair: a second one is turned down, whether it is demanded or comes with a child
abbrev pub no_pair_left : Example
no_pair_left = record {
  room = room 3 1;
  entries = two_persons;
  lines = demand 1 2 g c answers granted 0 ∷ demand 2 1 g c answers refused 11 ∷ create 1 None folder answers refused 11 ∷ [];
}

-- the table
abbrev pub examples : List Example
examples = a_card_is_shared ∷ no_row_left ∷ no_pair_left ∷ []

abbrev pub AllPlay : Type 0
AllPlay = AllByRecursion Plays examples
