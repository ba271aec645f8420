-- The records of a file in order. A place of a file is a record's number among 15 to a block.
use Rattle.std.specs.Prelude.{ℕ, zero, suc, ◌+◌, ◌*◌, ◌/◌, ◌%◌, cond, List, [], ◌++◌, None, Option, nat_lt}
use Rattle.std.specs.Option.{option_to_list}
use Rattle.scheme_records.specs.declared.record.Record.{Record}
use Rattle.scheme_records.specs.declared.records.Records.{Records}
use Rattle.scheme_records.specs.Bytes.{block, blocks, record_count, record_slice}
use Rattle.scheme_records.specs.Decoded.{decoded}

-- the lists f 0, f 1 and so on, n of them, one after another
abbrev pub in_turn : {X : Type 0} → (ℕ → List X) → ℕ → List X
in_turn f zero = []
in_turn f (suc n) = in_turn f n ++ f n

-- record j of block i is in place 15 × i + j; a place past a block's count, or with an unknown tag, has no record
abbrev pub place_of : ℕ → ℕ → ℕ
place_of i j = 15 * i + j

unfoldable pub record_at : List ℕ → ℕ → Option Record
record_at file p =
    cond (nat_lt (p % 15) (record_count (block file (p / 15)))) (decoded (record_slice (block file (p / 15)) (p % 15))) None

-- the records in the first n places of a file, and all of them
unfoldable pub records : List ℕ → ℕ → List Record
records file n = in_turn (λ p. option_to_list (record_at file p)) n

-- the records of a part of a file
abbrev pub listed : Records → List Record
listed rs = records rs.file.now rs.places

abbrev pub all_places : List ℕ → ℕ
all_places file = 15 * blocks file
