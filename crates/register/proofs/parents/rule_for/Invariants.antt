use Rattle.std.proofs.Common.{◌≡◌, drop}
use Rattle.model.specs.Scheme.{rule_number}
use Rattle.register.proofs.parents.rule_for.Given as goal

-- no rule before this one is for them
abbrev pub invariant-loop-number : goal.invariant-loop-number
invariant-loop-number g l =
    let rules = (g.S.Scheme.meaning l.scheme).rules in
    rule_number rules 0 l.parents.first l.parents.second l.child ≡ rule_number (drop l.number rules) l.number l.parents.first l.parents.second l.child
