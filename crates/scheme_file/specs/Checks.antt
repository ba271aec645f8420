-- The tests of a scheme file, in the order in which its faults count.
use Rattle.std.specs.Prelude.{◌≡◌, ℕ, ◌+◌, ◌*◌, ◌%◌, ◌^◌, Bool, true, false, cond, not, ◌&&◌, ◌||◌, List, [], ◌∷◌, ◌++◌, length, Some, None, Option, ◌==◌, nat_le, nat_lt}
use Rattle.std.specs.List.{between, list_all, list_any as any}
use Rattle.model.specs.declared.rules.Sight.{Sight}
use Rattle.model.specs.declared.tickets.StoredSet.{StoredSet}
use Rattle.model.specs.Scheme.{Scheme}
use Rattle.scheme_records.specs.declared.record.ParentSets.{ParentSets}
use Rattle.scheme_records.specs.declared.record.RuleSets.{RuleSets}
use Rattle.scheme_records.specs.declared.record.Record.{Record}
use Rattle.scheme_records.specs.declared.record.Record.TheVariants.{Kind, Right, Alternative, Filter, Demand, Rule}
use Rattle.scheme_records.specs.Bytes.{byte, word, checked, block, blocks, record_count, record_slice}
use Rattle.scheme_records.specs.Decoded.{decoded}
use Rattle.scheme_records.specs.Listed.{in_turn, place_of, records}
use Rattle.scheme_records.specs.Said.{said, tag_of, tag_above, of_link, within, all_within, parent_sets, all_sets, child_sets, repeats}
use Rattle.scheme_file.specs.Faults.{Fault, Test, test, first_fault, in_whole, in_block_of, in_record}

abbrev pub all_zero : List ℕ → Bool
all_zero = list_all (λ b. b == 0)

-- a stored set has only rights that the scheme has so far
abbrev pub set_fits : Scheme → StoredSet → Bool
set_fits S s = nat_lt s.plain (2 ^ S.rights) && nat_lt s.copyable (2 ^ S.rights)

abbrev pub sets_fit : Scheme → RuleSets → Bool
sets_fit S s = list_all (set_fits S) (all_sets s)

-- the same mask four times
abbrev pub everywhere : ℕ → Sight
everywhere m = record { xx = m; xy = m; yx = m; yy = m }

abbrev pub is_empty : StoredSet → Bool
is_empty s = s.plain == 0 && s.copyable == 0

-- a second parent is a subject; without one its three sets are unused bytes
abbrev pub second_fits : Scheme → Option ℕ → RuleSets → Bool
second_fits S (Some k) s = S.subject k
second_fits S None s = list_all is_empty (parent_sets s.second)

-- each field and mask is as its tag says, and what it names is declared: rs are the records before, and S what they say
abbrev pub fields_fit : List Record → Scheme → Record → Bool
fields_fit rs S (Kind n s) = nat_lt n 16 && n == S.kinds
fields_fit rs S (Right n c) = nat_lt n 16 && n == S.rights
fields_fit rs S (Alternative l m) = nat_lt l 8 && all_within m (everywhere S.control)
fields_fit rs S (Filter q s) =
    any (of_link q.link) rs && (S.subject q.giver && (S.subject q.taker && (nat_lt q.target S.kinds && set_fits S s)))
fields_fit rs S (Demand q s) = S.subject q.demander && (nat_lt q.target S.kinds && set_fits S s)
fields_fit rs S (Rule q s) =
    S.subject q.first && (second_fits S q.second s && (nat_lt q.child S.kinds && sets_fit S s))

-- a flag is 0 or 1, and the bytes that a record does not use are zero
abbrev pub unused_zero : Record → List ℕ → Bool
unused_zero (Kind n s) bs = nat_lt (byte bs 2) 2 && all_zero (between 3 32 bs)
unused_zero (Right n c) bs = nat_lt (byte bs 2) 2 && all_zero (between 3 32 bs)
unused_zero (Alternative l m) bs = all_zero (between 2 4 bs) && all_zero (between 12 32 bs)
unused_zero (Filter q s) bs = all_zero (between 5 8 bs) && all_zero (between 12 32 bs)
unused_zero (Demand q s) bs = byte bs 1 == 0 && (byte bs 3 == 0 && (all_zero (between 5 8 bs) && all_zero (between 12 32 bs)))
unused_zero (Rule q s) bs = true

-- the copyable mask lies within the plain one
abbrev pub nested : StoredSet → Bool
nested s = within s.copyable s.plain

-- the same of the three sets of a parent
abbrev pub ParentNested : ParentSets → Type 0
ParentNested s = (nested s.for_child ≡ true) × ((nested s.for_self ≡ true) × (nested s.to_child ≡ true))

abbrev pub sets_nested : Record → Bool
sets_nested (Kind n s) = true
sets_nested (Right n c) = true
sets_nested (Alternative l m) = true
sets_nested (Filter q s) = nested s
sets_nested (Demand q s) = nested s
sets_nested (Rule q s) = list_all nested (all_sets s)

-- a rule's child is a subject, or it is given nothing
abbrev pub object_bare : Scheme → Record → Bool
object_bare S (Kind n s) = true
object_bare S (Right n c) = true
object_bare S (Alternative l m) = true
object_bare S (Filter q s) = true
object_bare S (Demand q s) = true
object_bare S (Rule q s) = S.subject q.child || list_all is_empty (child_sets s)

-- the five tests of a record: rs are the records before it
unfoldable pub tag_passes : List Record → Record → Bool
tag_passes rs r = not (any (tag_above (tag_of r)) rs)

unfoldable pub field_passes : List Record → List ℕ → Record → Bool
field_passes rs bs r = fields_fit rs (said rs) r && unused_zero r bs

unfoldable pub key_passes : List Record → Record → Bool
key_passes rs r = not (repeats rs r)

unfoldable pub copy_passes : Record → Bool
copy_passes r = sets_nested r

unfoldable pub gift_passes : List Record → Record → Bool
gift_passes rs r = object_bare (said rs) r

-- the tests of record j of block b in their order, by its bytes and the records before it; an unknown tag ends them
abbrev pub tests_of : ℕ → ℕ → List Record → List ℕ → Option Record → List Test
tests_of b j rs bs None = test (in_record b j 5) false ∷ []
tests_of b j rs bs (Some r) =
    test (in_record b j 5) (tag_passes rs r)
    ∷ test (in_record b j 6) (field_passes rs bs r)
    ∷ test (in_record b j 7) (key_passes rs r)
    ∷ test (in_record b j 8) (copy_passes r)
    ∷ test (in_record b j 9) (gift_passes rs r)
    ∷ []

unfoldable pub record_tests : List ℕ → ℕ → ℕ → List Test
record_tests file b j = tests_of b j (records file (place_of b j)) (record_slice (block file b) j) (decoded (record_slice (block file b) j))

-- the check in bytes 508 to 511 is that of the 508 bytes before, from the block's own number on
abbrev pub check_passes : List ℕ → Bool
check_passes bl = checked (word bl 0 + 1) (between 0 508 bl) == word bl 508 * 65536 + word bl 510

-- the block's number is its place among n blocks, and the last is marked
abbrev pub number_passes : List ℕ → ℕ → ℕ → Bool
number_passes bl b n = word bl 0 == b && byte bl 3 == cond (b + 1 == n) 1 0

-- at most 15 records, and every byte between them and the check is zero
abbrev pub count_passes : List ℕ → Bool
count_passes bl = nat_le (byte bl 2) 15 && all_zero (between (32 * record_count bl + 4) 508 bl)

-- the tests of block b of n itself
abbrev pub own_tests : List ℕ → ℕ → ℕ → List Test
own_tests bl b n =
    test (in_block_of b 2) (check_passes bl) ∷ test (in_block_of b 3) (number_passes bl b n) ∷ test (in_block_of b 4) (count_passes bl) ∷ []

-- a block's own tests, and then those of each of its records
unfoldable pub block_tests : List ℕ → ℕ → List Test
block_tests file b = own_tests (block file b) b (blocks file) ++ in_turn (record_tests file b) (record_count (block file b))

-- 1 to 128 whole blocks
abbrev pub length_passes : List ℕ → Bool
length_passes file = length file % 512 == 0 && (nat_le 1 (blocks file) && nat_le (blocks file) 128)

-- all tests of a file in order: its length, and then those of each block
unfoldable pub file_tests : List ℕ → List Test
file_tests file = test (in_whole 1) (length_passes file) ∷ in_turn (block_tests file) (blocks file)

-- the fault of a file, if it has one
abbrev pub fault_of : List ℕ → Option Fault
fault_of file = first_fault (file_tests file)
