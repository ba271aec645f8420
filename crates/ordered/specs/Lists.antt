-- What an ordered list in lent memory holds.
use Rattle.std.specs.Prelude.{ℕ, Bool, cond, ◌||◌, List, length, take, is_some, Ok, Err, Result, nat_lt}
use Rattle.ordered.specs.declared.entry.Entry.{Entry}
use Rattle.ordered.specs.declared.list.OrderedList.{OrderedList}
use Rattle.ordered.specs.Entries.{Order, value_of, entries_before}

-- how many places there are, and the entries in them
abbrev pub places : {K V : Type 0} {o : _} {p : _} {q : _} → OrderedList K V o p q → ℕ
places l = length l.entries.now

abbrev pub listed : {K V : Type 0} {o : _} {p : _} {q : _} → OrderedList K V o p q → List (Entry K V)
listed l = take l.count l.entries.now

-- where key k is, counted from 0, or else where it would go
abbrev pub location : {K V : Type 0} → Order K → List (Entry K V) → K → Result ℕ ℕ
location cmp es k = cond (is_some (value_of cmp es k)) (Ok (length (entries_before cmp es k))) (Err (length (entries_before cmp es k)))

-- a list of n places can take key k: it is there already, or a place is left
abbrev pub has_place : {K V : Type 0} → Order K → List (Entry K V) → ℕ → K → Bool
has_place cmp es n k = is_some (value_of cmp es k) || nat_lt (length es) n
