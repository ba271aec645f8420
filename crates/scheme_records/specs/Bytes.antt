-- The bytes of a scheme file: numbers in them, blocks and their check, and where the records stand.
use Rattle.std.specs.Prelude.{ℕ, ◌+◌, ◌*◌, ◌/◌, ◌%◌, min, List, length, fold, slice_index}
use Rattle.std.specs.List.{between}

abbrev pub byte : List ℕ → ℕ → ℕ
byte bs i = slice_index bs i

-- the number in two bytes, the highest first
abbrev pub word : List ℕ → ℕ → ℕ
word bs i = byte bs i * 256 + byte bs (i + 1)

-- the block check: from a start on, each byte in turn makes it (check × 31 + byte) modulo 65,521
abbrev pub checked : ℕ → List ℕ → ℕ
checked start bs = fold (λ check b. (check * 31 + b) % 65521) start bs

-- how many whole blocks of 512 bytes there are, and the block with a number
abbrev pub blocks : List ℕ → ℕ
blocks file = length file / 512

abbrev pub block : List ℕ → ℕ → List ℕ
block file i = between (512 * i) (512 * i + 512) file

-- byte 2 of a block says how many records it has; there is room for 15
abbrev pub record_count : List ℕ → ℕ
record_count block = min (byte block 2) 15

-- the 32 bytes of record j of a block; the first begins at byte 4
abbrev pub record_slice : List ℕ → ℕ → List ℕ
record_slice block j = between (32 * j + 4) (32 * j + 4 + 32) block
