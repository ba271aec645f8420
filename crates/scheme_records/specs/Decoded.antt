-- What the 32 bytes of a record say, by the tag in byte 0.
use Rattle.std.specs.Prelude.{ℕ, ◌+◌, cond, List, Some, None, Option, ◌==◌}
use Rattle.model.specs.declared.rules.Sight.{Sight}
use Rattle.model.specs.declared.tickets.StoredSet.{StoredSet}
use Rattle.scheme_records.specs.declared.record.ParentSets.{ParentSets}
use Rattle.scheme_records.specs.declared.record.RuleSets.{RuleSets}
use Rattle.scheme_records.specs.declared.record.Record.{Record}
use Rattle.scheme_records.specs.declared.record.Record.TheVariants.{Kind, Right, Alternative, Filter, Demand, Rule}
use Rattle.scheme_records.specs.Bytes.{byte, word}

-- a ticket set from byte i on: the plain mask, then the copyable one
abbrev pub stored_at : List ℕ → ℕ → StoredSet
stored_at bs i = record { plain = word bs i; copyable = word bs (i + 2) }

-- four masks: X's for X, X's for Y, Y's for X, Y's for Y
abbrev pub sight_at : List ℕ → ℕ → Sight
sight_at bs i = record { xx = word bs i; xy = word bs (i + 2); yx = word bs (i + 4); yy = word bs (i + 6) }

-- one parent's ticket sets: to the parent for the child and for itself, and to the child for the parent
abbrev pub parent_sets_at : List ℕ → ℕ → ParentSets
parent_sets_at bs i = record { for_child = stored_at bs i; for_self = stored_at bs (i + 8); to_child = stored_at bs (i + 20) }

-- the seven ticket sets of a rule: each of the first parent's stands before that of the second
abbrev pub sets_at : List ℕ → ℕ → RuleSets
sets_at bs i = record { first = parent_sets_at bs i; second = parent_sets_at bs (i + 4); own = stored_at bs (i + 16) }

-- a rule's second parent: 255 stands for none
abbrev pub second_in : ℕ → Option ℕ
second_in b = cond (b == 255) None (Some b)

-- the record, or none where the tag is unknown
unfoldable pub decoded : List ℕ → Option Record
decoded bs =
    cond (byte bs 0 == 1) (Some (Kind (byte bs 1) (byte bs 2 == 1)))
    (cond (byte bs 0 == 2) (Some (Right (byte bs 1) (byte bs 2 == 1)))
    (cond (byte bs 0 == 3) (Some (Alternative (byte bs 1) (sight_at bs 4)))
    (cond (byte bs 0 == 4) (Some (Filter (record { link = byte bs 1; giver = byte bs 2; taker = byte bs 3; target = byte bs 4 }) (stored_at bs 8)))
    (cond (byte bs 0 == 5) (Some (Demand (record { demander = byte bs 2; target = byte bs 4 }) (stored_at bs 8)))
    (cond (byte bs 0 == 6) (Some (Rule (record { first = byte bs 1; second = second_in (byte bs 2); child = byte bs 3 }) (sets_at bs 4)))
    None)))))
