-- The records that a walk has still to come to.
use Rattle.std.specs.Prelude.{ℕ, zero, suc, ◌+◌, ◌-◌, List, [], ◌++◌}
use Rattle.std.specs.Option.{option_to_list}
use Rattle.scheme_records.specs.declared.record.Record.{Record}
use Rattle.scheme_records.specs.declared.walk.Walk.{Walk}
use Rattle.scheme_records.specs.Listed.{record_at}

-- the records in n places of a file, from place p on
unfoldable pub records_from : List ℕ → ℕ → ℕ → List Record
records_from file p zero = []
records_from file p (suc n) = option_to_list (record_at file p) ++ records_from file (p + 1) n

abbrev pub left : Walk → List Record
left w = records_from w.records.file.now w.places.start (w.places.end - w.places.start)
