use Rattle.std.proofs.Common.{◌≡◌, ◌≤◌, sym, ap, ◌∙◌, subst, subst₂}
use Rattle.model.specs.Tickets.{tickets_of}
use Rattle.model.specs.State.{State, Room, gain, holding, filled}
use Rattle.register.specs.Births.{give_share, give_other}
use Rattle.register.proofs.Shares.{first_fits, other_fits}
use Rattle.register.proofs.births.give_birth.Goals as goal
use Rattle.register.proofs.births.give_birth.Goals.{in-Some, in_default}

pub give_share-requires-clause-fits : goal.give_share-requires-clause-fits
give_share-requires-clause-fits g c =
    let h = c.args.holdings.now in
    let st = g.H.Holdings.meaning h in
    first_fits st (g.H.Holdings.orderly h).rising c.args.child c.requires.child st.tickets c.args.birth c.requires.second (g.H.HoldingsMut.room h).pairs c.requires.fits

pub give_share-requires-in-Some-clause-fits : goal.give_share-requires-in-Some-clause-fits
give_share-requires-in-Some-clause-fits g c =
    let h = c.args.holdings.now in
    let st = g.H.Holdings.meaning h in
    let n = c.args.child in
    let s = c.in-Some.share in
    let u = give_share st.tickets c.args.birth.first n in
    let e = c.give_share.ensures in
    let fits = other_fits st (g.H.Holdings.orderly h).rising n c.requires.child st.tickets c.args.birth c.requires.second (g.H.HoldingsMut.room h).pairs c.requires.fits in
    subst₂ (λ (z : State) (r : Room). filled (holding z (give_share z.tickets s n)) ≤ r.pairs) (sym e.state) (sym e.room)
    (subst (λ o. filled (holding st (give_other u o n)) ≤ (g.H.HoldingsMut.room h).pairs) c.in-Some.is fits)

pub give-requires-clause-fits : goal.give-requires-clause-fits
give-requires-clause-fits g c =
    let h = c.args.holdings.now in
    let st = g.H.Holdings.meaning h in
    let n = c.args.child in
    let own = tickets_of c.args.birth.own in
    let u = give_share st.tickets c.args.birth.first n in
    let e = c.give_share.ensures in
    let m = c.match-birth.holdings in
    let given : (g.H.Holdings.meaning m ≡ holding st (give_other u c.args.birth.second n)) × (g.H.HoldingsMut.room m ≡ g.H.HoldingsMut.room h) =
    elim c.match-birth.branch [
      | in-Some w ↦
          let f = w.give_share-in-Some.ensures in
          let s = w.in-Some.share in (
            ap g.H.Holdings.meaning w.holdings-is ∙ f.state ∙ ap (λ (z : State). holding z (give_share z.tickets s n)) e.state
                ∙ ap (λ o. holding st (give_other u o n)) (sym w.in-Some.is),
            ap g.H.HoldingsMut.room w.holdings-is ∙ f.room ∙ e.room,
          )
      | in_default w ↦ (
        ap g.H.Holdings.meaning w.holdings-is ∙ e.state ∙ ap (λ o. holding st (give_other u o n)) (sym w.in_default.is),
        ap g.H.HoldingsMut.room w.holdings-is ∙ e.room,
      )
    ] in
    subst₂ (λ (z : State) (r : Room). filled (holding z (gain z.tickets n n own)) ≤ r.pairs) (sym given.0) (sym given.1) c.requires.fits
