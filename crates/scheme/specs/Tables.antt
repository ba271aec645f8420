-- Ticket sets by their rights, and looking them up in a table.
use Rattle.std.specs.Prelude.{ℕ, ◌^◌, Bool, cond, List, [], ◌∷◌, bit_or}
use Rattle.model.specs.Tickets.{Tickets, none, with_plain}
use Rattle.model.specs.declared.tickets.StoredSet.{StoredSet}

-- the mask of these rights
abbrev pub mask : List ℕ → ℕ
mask [] = 0
mask (x ∷ xs) = bit_or (2 ^ x) (mask xs)

-- the tickets with these rights: those without the copy flag, and those with it, which are plain too
abbrev pub tickets : List ℕ → List ℕ → Tickets
tickets plain copyable = with_plain (mask plain) (mask copyable)

-- what a stored set means
abbrev pub tickets_in : StoredSet → Tickets
tickets_in s = with_plain s.plain s.copyable

-- the tickets of the first entry that passes a test, and none where there is no such entry
abbrev pub looked_up : {E : Type 0} → (E → Bool) → (E → Tickets) → List E → Tickets
looked_up here value [] = none
looked_up here value (e ∷ es) = cond (here e) (value e) (looked_up here value es)
