use Rattle.std.proofs.Common.{◌≤◌, sym, subst₂}
use Rattle.model.specs.Tickets.{tickets_of}
use Rattle.model.specs.State.{State, Room, gain, holding, filled}
use Rattle.register.proofs.Shares.{child_fits, self_fits}
use Rattle.register.proofs.births.give_share.Goals as goal

pub give-requires-clause-fits : goal.give-requires-clause-fits
give-requires-clause-fits g c =
    let h = c.args.holdings.now in
    let st = g.H.Holdings.meaning h in
    child_fits st (g.H.Holdings.orderly h).rising c.args.child c.requires.child st.tickets c.args.share c.requires.parent (g.H.HoldingsMut.room h).pairs c.requires.fits

pub give-requires-2-clause-fits : goal.give-requires-2-clause-fits
give-requires-2-clause-fits g c =
    let h = c.args.holdings.now in
    let st = g.H.Holdings.meaning h in
    let a = c.args.share.parent in
    let s = tickets_of c.args.share.part.for_self in
    let e = c.give.ensures in
    subst₂ (λ (z : State) (r : Room). filled (holding z (gain z.tickets a a s)) ≤ r.pairs) (sym e.state) (sym e.room)
    (self_fits st (g.H.Holdings.orderly h).rising c.args.child c.requires.child st.tickets c.args.share c.requires.parent (g.H.HoldingsMut.room h).pairs c.requires.fits)
