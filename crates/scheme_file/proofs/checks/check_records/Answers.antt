use Rattle.std.proofs.Common.{◌≡◌, refl, rules}
use borrow.Author.Tests.{tests}
use Rattle.std.proofs.lemmas.Result.{err_from_is_err_and}
use Rattle.scheme_file.specs.Faults.{told, record_numbered, first_fault}
use Rattle.scheme_file.specs.Checks.{record_tests}
use Rattle.scheme_file.proofs.Firsts.{each_decides}
use Rattle.scheme_file.proofs.checks.check_records.Goals as goal

pub returns : goal.returns
returns c =
    let r = c.try_for_each.ensures.ran in
    each_decides (record_tests c.args.file.now c.args.block) _ _ (λ x q k. search (rules, tests)) c.args.count _ r.3.0 _ r.0 r.1 r.2 _ refl refl r.3.1 r.3.2 r.4 r.5
    (λ m. rw m refl)
    (λ x m s.
    let p = err_from_is_err_and c.try_for_each.result m.5.1 in
    let k : told record_numbered m.0 ≡ first_fault (record_tests c.args.file.now c.args.block x) = search (rules, tests) in
    let h = rw m.4 at k in
    (rw (p.1, p.2) h, (record_numbered m.2.0, rw (p.1, p.2) refl)))
