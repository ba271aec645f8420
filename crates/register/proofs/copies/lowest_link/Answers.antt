use Rattle.std.proofs.Common.{sym, ap, ◌∙◌, arith}
use Rattle.model.specs.Tickets.{has, Tickets}
use Rattle.register.proofs.Linking.{link_found, link_passed_over, link_off}
use Rattle.register.proofs.copies.lowest_link.Goals as goal
use Rattle.register.proofs.copies.lowest_link.Goals.{then-link+else-has, else-link}

pub returns-then-has : goal.returns-then-has
returns-then-has g c =
    let S = g.S.Scheme.meaning c.args.scheme.now in
    let t = c.args.ticket in
    link_found S c.args.sight c.args.kinds.giver c.args.kinds.taker c.args.kinds.target t.right t.copy c.loop-link.link (omega (arith, c.links-link-end.ensures)) c.loop-link.invariant.0
    (sym c.link.ensures ∙ c.if-link.true)
    (ap (λ (s : Tickets). has s t.right t.copy) (sym c.filter.ensures) ∙ sym c.has.ensures ∙ c.if-has.true)

pub loop-link-preserved : goal.loop-link-preserved
loop-link-preserved g c =
    let S = g.S.Scheme.meaning c.args.scheme.now in
    let v = c.args.sight in
    let t = c.args.ticket in
    let i = c.loop-link.link in
    elim c.if-link.branch [
      | then-link+else-has w ↦
          let n = link_passed_over S v c.args.kinds.giver c.args.kinds.taker c.args.kinds.target t.right t.copy i c.loop-link.invariant.0 (sym c.link.ensures ∙ w.if-link.true)
          (ap (λ (s : Tickets). has s t.right t.copy) (sym w.filter.ensures) ∙ sym w.has.ensures ∙ w.if-has.false) in
          (n.0, w.refusal-is ∙ n.1)
      | else-link w ↦
          let n = link_off S v c.args.kinds.giver c.args.kinds.taker c.args.kinds.target t.right t.copy i c.loop-link.refusal c.loop-link.invariant.0 c.loop-link.invariant.1 (sym c.link.ensures ∙ w.if-link.false) in
          (n.0, w.refusal-is ∙ n.1)
    ]
