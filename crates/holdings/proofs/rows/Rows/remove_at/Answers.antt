use Rattle.std.proofs.Common.{List, sym, ap, ◌-◌, take, subst, ◌∙◌}
use Rattle.model.specs.declared.tickets.Entity.{Entity}
use Rattle.holdings.specs.Filing.{Filed}
use Rattle.holdings.proofs.Takes.{past_last, filed_less, closed_up}
use Rattle.holdings.proofs.rows.Rows.remove_at.Goals as goal

pub returns-then-place-count-clause-left : goal.returns-then-place-count-clause-left
returns-then-place-count-clause-left c =
    let s = c.args.self.now in past_last s.entities.now s.count s.next s.order c.args.place c.if-place-count.true

pub invariant_of-self : goal.invariant_of-self
invariant_of-self c =
    let s = c.args.self.now in
    record {
      order = subst (λ (es : List Entity). Filed es (s.count - 1) s.next) (sym c.copy_within.ensures.after)
          (filed_less s.entities.now s.count s.next s.order c.args.place c.if-place-count.false);
    }

pub returns-clause-left : goal.returns-clause-left
returns-clause-left c =
    let s = c.args.self.now in
    ap (take (s.count - 1)) c.copy_within.ensures.after ∙ closed_up s.entities.now c.args.place s.count c.if-place-count.false s.order.fits
