use Rattle.std.proofs.Common.{◌≡◌, ◌+◌, Bool, cond, leb, sym, ap, ◌∙◌, subst}
use Rattle.model.specs.Refusals.{granted, refused}
use Rattle.model.specs.Scheme.{rule_of}
use Rattle.model.specs.State.{filled}
use Rattle.model.specs.Calls.{passed, row_checks, checks, create as creation}
use Rattle.register.specs.Births.{brought}
use Rattle.register.proofs.Creations.{parents_stand, brought_is, pairs_decide}
use Rattle.register.proofs.creating.check_creation.Given as given
use Rattle.register.proofs.creating.check_creation.Goals as goal
use Rattle.register.proofs.creating.check_creation.Goals.{After-has_pairs}

-- the pairs decide

last_decides : (g : given.Over) (c : After-has_pairs g)
    → (c.has_pairs.new.self ≡ c.args.holdings.now)
    × (cond c.has_pairs.result (granted tt) (refused 11)
    ≡ passed (checks (g.S.Scheme.meaning c.args.scheme.now) (g.H.HoldingsMut.room c.args.holdings.now) (g.H.Holdings.meaning c.args.holdings.now) (creation c.args.parents.first c.args.parents.second c.args.kind)))
last_decides g c =
    let h = c.args.holdings.now in
    let S = g.S.Scheme.meaning c.args.scheme.now in
    let R = g.H.HoldingsMut.room h in
    let st = g.H.Holdings.meaning h in
    let rule = c.in_ok-rule.ensures in
    let row_same = c.has_row.ensures.same ∙ rule.same in
    let more_same = c.birth_pairs-more.ensures.same ∙ row_same in
    let v = c.by-birth.result in
    let more = c.birth_pairs-more.result in
    let row : granted tt ≡ passed (row_checks R st) = c.in_ok-has_row.ensures.answer ∙ ap (λ z. passed (row_checks (g.H.HoldingsMut.room z) (g.H.Holdings.meaning z))) rule.same in
    let fills = subst (λ z. filled (g.H.Holdings.meaning z) + more ≡ filled (brought (g.H.Holdings.meaning z) v)) row_same c.birth_pairs-more.ensures.value in
    let has = c.has_pairs.ensures.answer ∙ ap (λ z. leb (filled (g.H.Holdings.meaning z) + more) (g.H.HoldingsMut.room z).pairs) more_same in (
      c.has_pairs.ensures.same ∙ more_same,
      pairs_decide S R st c.args.parents.first c.args.parents.second c.args.kind rule.answer (g.H.Holdings.orderly h) (rule_of c.in_ok-rule.rule) rule.rule v c.by-birth.ensures row more fills c.has_pairs.result has,
    )

pub returns-then-not-has_pairs-clause-answer : goal.returns-then-not-has_pairs-clause-answer
returns-then-not-has_pairs-clause-answer g c =
    let d = last_decides g (goal.at.returns-then-not-has_pairs-clause-answer g c).After-has_pairs in
    sym (ap (λ (t : Bool). cond t (granted tt) (refused 11)) c.if-not-has_pairs.true) ∙ d.1

pub returns-clause-answer : goal.returns-clause-answer
returns-clause-answer g c =
    let d = last_decides g (goal.at.returns-clause-answer g c).After-has_pairs in
    sym (ap (λ (t : Bool). cond t (granted tt) (refused 11)) c.if-not-has_pairs.false) ∙ d.1

pub returns-clause-birth : goal.returns-clause-birth
returns-clause-birth g c =
    let h = c.args.holdings.now in
    let S = g.S.Scheme.meaning c.args.scheme.now in
    let R = g.H.HoldingsMut.room h in
    let st = g.H.Holdings.meaning h in
    let o = g.H.Holdings.orderly h in
    let rule = c.in_ok-rule.ensures in
    let r = rule_of c.in_ok-rule.rule in
    let v = c.by-birth.result in (
      parents_stand S R st c.args.parents.first c.args.parents.second c.args.kind rule.answer o r rule.rule v c.by-birth.ensures,
      brought_is S R st c.args.parents.first c.args.parents.second c.args.kind rule.answer o r rule.rule v c.by-birth.ensures,
    )
