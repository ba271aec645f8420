use Rattle.std.proofs.Common.{◌≡◌, true, sym, refl, ◌∙◌}
use Rattle.std.proofs.lemmas.Result.{err_from_is_err_and}
use Rattle.scheme_file.specs.Faults.{told, numbers}
use Rattle.scheme_file.specs.Checks.{length_passes, file_tests, fault_of}
use Rattle.scheme_file.proofs.Blocks.{length_fails, blocks_decide}
use Rattle.scheme_file.proofs.Firsts.{passed, failed, judged}
use Rattle.scheme_file.proofs.checks.check.Goals as goal

pub returns-in_err-must : goal.returns-in_err-must
returns-in_err-must c =
    let p = err_from_is_err_and c.from_residual.result c.from_residual.ensures.1 in
    let off = failed _ _ _ c.in_err-must.ensures in
    let e : told numbers c.from_residual.result ≡ fault_of c.args.file.now =
    rw (p.1, p.2, off.1) (length_fails c.args.file.now (sym c.length_passes.ensures ∙ off.0)) in
    record { fault = e; first = judged (file_tests c.args.file.now) _ e }

pub returns-in_err-check_blocks : goal.returns-in_err-check_blocks
returns-in_err-check_blocks c =
    let on : length_passes c.args.file.now ≡ true = sym c.length_passes.ensures ∙ passed _ _ _ c.in_ok-must.ensures in
    let p = err_from_is_err_and c.from_residual-in_err-check_blocks.result c.from_residual-in_err-check_blocks.ensures.1 in
    let e : told numbers c.from_residual-in_err-check_blocks.result ≡ fault_of c.args.file.now =
    rw (p.1, p.2) (blocks_decide c.args.file.now _ _ on refl c.in_err-check_blocks.ensures) in
    record { fault = e; first = judged (file_tests c.args.file.now) _ e }

pub returns : goal.returns
returns c =
    let on : length_passes c.args.file.now ≡ true = sym c.length_passes.ensures ∙ passed _ _ _ c.in_ok-must.ensures in
    let e = blocks_decide c.args.file.now _ _ on refl c.in_ok-check_blocks.ensures in
    record { fault = e; first = judged (file_tests c.args.file.now) _ e }
