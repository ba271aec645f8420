use Rattle.std.proofs.Common.{◌≡◌}
use Rattle.std.proofs.lemmas.Result.{err_from_is_err_and}
use Rattle.scheme_records.specs.Bytes.{block}
use Rattle.scheme_file.proofs.Blocks.{own_decides, records_decide}
use Rattle.scheme_file.proofs.checks.check_block.Goals as goal

pub returns-in_err-check_own : goal.returns-in_err-check_own
returns-in_err-check_own c =
    let p = err_from_is_err_and c.from_residual.result c.from_residual.ensures.1 in
    let same : c.block_at-block.result.now ≡ block c.args.file.now c.args.number = cc in
    rw (p.1, p.2) (own_decides c.args.file.now _ c.args.number c.args.n same c.requires.0 _ c.in_err-check_own.ensures)

pub returns-in_err-check_records : goal.returns-in_err-check_records
returns-in_err-check_records c =
    let p = err_from_is_err_and c.from_residual-in_err-check_records.result c.from_residual-in_err-check_records.ensures.1 in
    let same : c.block_at-block.result.now ≡ block c.args.file.now c.args.number = cc in
    rw (p.1, p.2) (records_decide c.args.file.now _ c.args.number c.args.n same c.requires.0 _ _ c.count_of.ensures c.in_ok-check_own.ensures c.in_err-check_records.ensures)

pub returns : goal.returns
returns c =
    let same : c.block_at-block.result.now ≡ block c.args.file.now c.args.number = cc in
    records_decide c.args.file.now _ c.args.number c.args.n same c.requires.0 _ _ c.count_of.ensures c.in_ok-check_own.ensures c.in_ok-check_records.ensures
