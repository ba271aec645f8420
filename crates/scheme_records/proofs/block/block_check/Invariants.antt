use Rattle.std.proofs.Common.{◌≡◌, ◌+◌, ◌≤◌, take}
use Rattle.scheme_records.specs.Bytes.{checked}
use Rattle.scheme_records.proofs.block.block_check.Given as goal

abbrev pub invariant-loop-byte : goal.invariant-loop-byte
invariant-loop-byte l = (l.check ≡ checked (l.number + 1) (take l.byte-index l.bytes)) × (l.check ≤ 65536)
