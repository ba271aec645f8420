use Rattle.std.proofs.Common.{◌≡◌, Result, Err, sym, ◌∙◌}
use Rattle.std.proofs.lemmas.Result.{err_from_is_err_and}
use Rattle.scheme_records.specs.Bytes.{block, record_slice}
use Rattle.scheme_records.specs.Listed.{listed, records, place_of}
use Rattle.scheme_file.proofs.Blocks.{unknown_tag, known_tag}
use Rattle.scheme_file.proofs.checks.check_record.Goals as goal

err_is : {A E : Type 0} {x y : E} → ◌≡◌ {A = Result A E} (Err x) (Err y) → x ≡ y
err_is h = cc

pub returns-in_err-found : goal.returns-in_err-found
returns-in_err-found c =
    let same : c.record_bytes-bytes.result.now ≡ record_slice (block c.args.file.now c.args.block) c.args.number = cc in
    let p = err_from_is_err_and c.from_residual.result c.from_residual.ensures.1 in
    let e = c.in_err-found.ensures in
    let fault = rw e.ok_part at e.value in
    rw (p.1, p.2, err_is fault) (unknown_tag c.args.file.now _ c.args.block c.args.number same (sym e.ok_part ∙ c.decode.ensures))

pub returns : goal.returns
returns c =
    let same : c.record_bytes-bytes.result.now ≡ record_slice (block c.args.file.now c.args.block) c.args.number = cc in
    let before : listed c.before-before.result ≡ records c.args.file.now (place_of c.args.block c.args.number) = cc in
    c.check_found.ensures ∙ known_tag c.args.file.now _ c.args.block c.args.number same _ _ (sym c.in_ok-found.ensures.ok_part ∙ c.decode.ensures) before
