use Rattle.std.proofs.Common.{arith}
use Rattle.ordered.proofs.Filtered.{retained, retained_rises}
use Rattle.ordered.proofs.list.OrderedList.retain.Goals as goal

pub invariant_of-self-clause-rising : goal.invariant_of-self-clause-rising
invariant_of-self-clause-rising g c =
    let e = c.retain_in_front-self.ensures in
    retained_rises g.K.Ord.cmp _ _ _ _ _ (omega (arith, e.within, e.length)) e.filtered c.args.self.now.rising

pub returns-clause-listed : goal.returns-clause-listed
returns-clause-listed g c test h =
    let e = c.retain_in_front-self.ensures in
    retained g.K.Ord.cmp _ _ _ _ _ (omega (arith, e.within, e.length)) e.filtered test h
