use Rattle.std.proofs.Common.{Some, sym, refl, ap, ◌∙◌}
use Rattle.std.specs.Option.{option_map}
use Rattle.model.specs.Tickets.{tickets_of}
use Rattle.model.specs.Scheme.{part_of}
use Rattle.model.specs.State.{State, Table, gain, added, holding}
use Rattle.model.specs.Calls.{give, give_second}
use Rattle.register.proofs.Shares.{one_share}
use Rattle.register.proofs.births.Birth.by.Goals as goal

-- one entity is both parents

pub returns-then-other-parent : goal.returns-then-other-parent
returns-then-other-parent c =
    let r = c.args.rule in
    let a = c.args.parents.first in
    let p = part_of r.first in
    let q = part_of c.in-Some.part in
    let own = tickets_of r.own in
    record {
      first = refl;
      second = tt;
      leaves = λ st l.
          let left : Table → State = λ t. holding (added st r.child) (gain t st.next st.next own) in
          let t1 = give st.tickets p a st.next in
          one_share st p q (part_of c.joined-birth.result) a r.child own l c.joined-birth.ensures
          ∙ sym (ap (λ o. left (give_second t1 (option_map part_of o) c.args.parents.second st.next)) c.in-Some.is
          ∙ ap (λ b. left (give_second t1 (Some q) b st.next)) c.in-Some-second.is ∙ ap (λ e. left (give t1 q e st.next)) c.if-other-parent.true);
    }
