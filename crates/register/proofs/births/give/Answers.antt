use Rattle.std.proofs.Common.{ap, ◌∙◌}
use Rattle.model.specs.Tickets.{tickets_of, join}
use Rattle.model.specs.State.{stored}
use Rattle.model.specs.Calls.{after}
use Rattle.register.proofs.Shares.{gain_stored}
use Rattle.register.proofs.births.give.Goals as goal

pub returns-clause-state : goal.returns-clause-state
returns-clause-state g c =
    let h = c.args.holdings.now in
    let st = g.H.Holdings.meaning h in
    let a = c.args.holder in
    let y = c.args.target in
    let s = tickets_of c.args.set in
    let e = c.gain_set.ensures in
    let done = e.answer
    ∙ gain_stored (g.H.HoldingsMut.room h) st (g.H.Holdings.orderly h).rising a y s c.requires.holder c.requires.target c.requires.fits in
    e.state ∙ ap (λ q. after q (stored st a y (join (st.tickets a y) s)) st) done
