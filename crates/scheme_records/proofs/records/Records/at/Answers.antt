use Rattle.std.proofs.Common.{ap, ◌∙◌}
use Rattle.scheme_records.specs.Decoded.{decoded}
use Rattle.scheme_records.proofs.Listing.{record_there, record_absent}
use Rattle.scheme_records.proofs.records.Records.at.Goals as goal

pub returns-then-place-count_of : goal.returns-then-place-count_of
returns-then-place-count_of c =
    c.decode.ensures ∙ ap decoded c.record_bytes.ensures.same
    ∙ record_there _ _ _ _ c.block_at-block.ensures.same c.count_of.ensures c.if-place-count_of.true

pub returns-else-place-count_of : goal.returns-else-place-count_of
returns-else-place-count_of c = record_absent _ _ _ _ c.block_at-block.ensures.same c.count_of.ensures c.if-place-count_of.false
