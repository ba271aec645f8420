-- Ticket sets: what one holder has for one target.
use Rattle.std.specs.Prelude.{◌≡◌, ℕ, ◌/◌, ◌%◌, ◌^◌, Bool, true, false, ◌&&◌, ◌==◌, bit_or}
use Rattle.model.specs.declared.tickets.TicketSet.{TicketSet}

-- right x is in a mask of rights: its bit x is set
abbrev pub bit : ℕ → ℕ → Bool
bit x m = (m / 2 ^ x) % 2 == 1

-- the plain rights and, among them, the copyable ones, as masks
pub record Tickets : Type 0 where
  pub plain : ℕ
  pub copyable : ℕ

-- what a ticket set of the code means
abbrev pub tickets_of : TicketSet → Tickets
tickets_of s = record { plain = s.plain; copyable = s.copyable }

-- no ticket at all
abbrev pub none : Tickets
none = record { plain = 0; copyable = 0 }

-- there is no ticket in the set
abbrev pub empty : Tickets → Bool
empty s = s.plain == 0 && s.copyable == 0

-- the ticket with right x is in the set: with the copy flag, or plain
abbrev pub has : Tickets → ℕ → Bool → Bool
has s x true = bit x s.copyable
has s x false = bit x s.plain

-- the set of one ticket: x alone, or with the flag both x and xc
abbrev pub ticket_of : ℕ → Bool → Tickets
ticket_of x true = record { plain = 2 ^ x; copyable = 2 ^ x }
ticket_of x false = record { plain = 2 ^ x; copyable = 0 }

-- the tickets of both sets
abbrev pub join : Tickets → Tickets → Tickets
join s t = record { plain = bit_or s.plain t.plain; copyable = bit_or s.copyable t.copyable }

-- two masks as a set: a copyable right is a plain one too
abbrev pub with_plain : ℕ → ℕ → Tickets
with_plain plain copyable = record { plain = bit_or plain copyable; copyable = copyable }

-- every ticket of s is one of t
abbrev pub Within : Tickets → Tickets → Type 0
Within s t = (x : ℕ) (c : Bool) → has s x c ≡ true → has t x c ≡ true
