use Rattle.std.proofs.Common.{◌∙◌, sym, arith}
use Rattle.scheme_records.proofs.Listing.{walk_step, walk_yields, walk_passes, left_none}
use Rattle.scheme_records.proofs.walk.WalkIterator.next.Goals as goal

pub returns-then-is_some-clause-steps : goal.returns-then-is_some-clause-steps
returns-then-is_some-clause-steps c =
    let s = c.in-Some.ensures.steps in
    walk_yields c.at-found.result _ _ (sym c.is_some.ensures ∙ c.if-is_some.true)
    (sym c.loop-place.invariant.1.1.0 ∙ walk_step _ _ _ _ _ c.in-Some.place c.at-found.result s.1.0 s.1.1 s.1.2 s.0 c.at-found.ensures)

pub loop-place-preserved : goal.loop-place-preserved
loop-place-preserved c =
    let s = c.in-Some.ensures.steps in
    let i = c.loop-place.invariant in
    let same =
    walk_passes c.at-found.result _ _ (sym c.is_some.ensures ∙ c.if-is_some.false) (walk_step _ _ _ _ _ c.in-Some.place c.at-found.result s.1.0 s.1.1 s.1.2 s.0 c.at-found.ensures) in
    (i.0, (s.0 ∙ i.1.0, (same ∙ i.1.1.0, omega (arith, i.1.1.1, s.1.2))))

pub returns-clause-steps : goal.returns-clause-steps
returns-clause-steps c =
    let s = c.in_default.ensures.steps in
    (sym c.loop-place.invariant.1.1.0 ∙ left_none _ _ _ (omega arith), left_none _ _ _ (omega arith))
