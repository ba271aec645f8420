-- What a ticket list means, and what it keeps true.
use Rattle.std.specs.Prelude.{◌≡◌, ℕ, true, false, List, is_some, Some, None, Option}
use Rattle.std.specs.List.{All}
use Rattle.model.specs.declared.tickets.Entity.{Entity}
use Rattle.model.specs.declared.tickets.TicketSet.{TicketSet}
use Rattle.model.specs.Tickets.{Tickets, tickets_of, none, empty}
use Rattle.model.specs.State.{State, Table, Room, kind_in, holding}
use Rattle.holdings.specs.declared.rows.Rows.{Rows}
use Rattle.holdings.specs.Rows.{size, in_rows}
use Rattle.ordered.specs.declared.entry.Entry.{Entry}
use Rattle.ordered.specs.Entries.{value_of}
use Rattle.ticket_list.specs.declared.pairs.Pair.{Pair}
use Rattle.ticket_list.specs.Pairs.{pair_cmp}
use Rattle.ticket_list.specs.Sizes.{fit}

-- the entries of a list: pairs, and the tickets of each
abbrev pub Entries : Type 0
Entries = List (Entry Pair TicketSet)

-- the tickets found, where a pair is listed
abbrev pub tickets_in : Option TicketSet → Tickets
tickets_in (Some s) = tickets_of s
tickets_in None = none

-- what each entity has for each
abbrev pub held : Entries → Table
held es = λ h y. tickets_in (value_of pair_cmp es record { holder = h; target = y })

-- a state with the tickets that are listed
abbrev pub meant : State → Entries → State
meant st es = holding st (held es)

-- a listed pair: holder and target stand, and there is a ticket
pub record FilledPair (standing : List Entity) (e : Entry Pair TicketSet) : Type 0 where
  pub holder : is_some (kind_in standing e.key.holder) ≡ true
  pub target : is_some (kind_in standing e.key.target) ≡ true
  pub filled : empty (tickets_of e.value) ≡ false

-- room for so many entities and for a pair in each of n places
abbrev pub list_room : Rows → ℕ → Room
list_room rows n = record { rows = size rows; pairs = n }

-- what a list of n places keeps true: the memory fits, and every listed pair is filled
pub record KeptList (rows : Rows) (n : ℕ) (es : Entries) : Type 0 where
  pub fits : fit (size rows) n ≡ true
  pub filled : All (FilledPair (in_rows rows)) es
