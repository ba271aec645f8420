use Rattle.std.proofs.Common.{◌<◌, length, sym, ◌∙◌, arith}
use Rattle.model.specs.Scheme.{rule_of}
use Rattle.register.proofs.RuleSearch.{rule_here, rule_past, some_rule}
use Rattle.register.proofs.parents.rule_for.Goals as goal
use Rattle.register.proofs.parents.rule_for.Goals.{in-Some+else-is_for, in_default}

pub returns-then-is_for : goal.returns-then-is_for
returns-then-is_for g c =
    let S = g.S.Scheme.meaning c.args.scheme.now in
    let l : c.loop-number.number < length S.rules = omega (arith, c.rules-number-end.ensures) in
    rule_here S c.args.parents.first c.args.parents.second c.args.child c.loop-number.number (rule_of c.in-Some.rule) l (sym c.in-Some.ensures) c.loop-number.invariant
    (sym c.is_for.ensures ∙ c.if-is_for.true)

pub loop-number-preserved : goal.loop-number-preserved
loop-number-preserved g c =
    let S = g.S.Scheme.meaning c.args.scheme.now in
    let i = c.loop-number.number in
    let l : i < length S.rules = omega (arith, c.rules-number-end.ensures) in
    elim c.match-rule.branch [
      | in-Some+else-is_for w ↦
          rule_past S c.args.parents.first c.args.parents.second c.args.child i (rule_of w.in-Some.rule) l (sym w.in-Some.ensures) c.loop-number.invariant
          (sym w.is_for.ensures ∙ w.if-is_for.false)
      | in_default w ↦ absurd (some_rule S c.args.parents.first c.args.parents.second c.args.child i l (sym w.in_default.ensures))
    ]
