use Rattle.model.specs.Calls.{drop as dropping}
use Rattle.register.proofs.Fronts.{call_sound}
use Rattle.register.proofs.open.Register+S+H.drop_ticket.Goals as goal

pub invariant_of-self : goal.invariant_of-self
invariant_of-self g c =
    let b = c.args.self.now in
    let S = g.S.Scheme.meaning b.scheme in
    let R = g.H.HoldingsMut.room b.holdings in
    let st = g.H.Holdings.meaning b.holdings in
    let w = g.S.Scheme.lawful b.scheme in
    record { sound = call_sound S R st w b.sound (dropping c.args.holder c.args.target c.args.right) _ c.drop_ticket.ensures.state }
