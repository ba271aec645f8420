use Rattle.std.proofs.Common.{◌<◌, sym, ap, ◌∙◌, subst}
use Rattle.model.specs.Refusals.{told, bare}
use Rattle.register.proofs.RuleSearch.{rule_decides}
use Rattle.register.proofs.parents.rule_by_parents.Goals as goal

pub returns-clause-answer : goal.returns-clause-answer
returns-clause-answer g c =
    let S = g.S.Scheme.meaning c.args.scheme.now in
    let st = g.H.Holdings.meaning c.args.holdings.now in
    let e = c.parent_kinds.ensures in
    let is = c.ok_or-2.ensures.value in
    let subjects = sym c.are_subjects.ensures ∙ c.if-not-are_subjects.false in
    let declared = subst (λ n. c.args.child < n) c.kinds.ensures c.if-child-kinds.false in
    ap (λ r. bare (told r)) is
    ∙ rule_decides S st c.args.parents.first c.args.parents.second c.args.child c.parent_kinds.result c.in_ok-kinds.kinds c.rule_for.result
    c.in_ok-kinds.ensures.ok_part e.stand e.kinds subjects declared c.rule_for.ensures
