use Rattle.model.specs.Refusals.{told}
use Rattle.model.specs.Calls.{demand as demanding}
use Rattle.model.proofs.Grants.{demanded}
use Rattle.register.proofs.Fronts.{call_sound}
use Rattle.register.proofs.open.Register+S+H.demand.Goals as goal

pub invariant_of-self : goal.invariant_of-self
invariant_of-self g c =
    let b = c.args.self.now in
    let S = g.S.Scheme.meaning b.scheme in
    let R = g.H.HoldingsMut.room b.holdings in
    let st = g.H.Holdings.meaning b.holdings in
    let w = g.S.Scheme.lawful b.scheme in
    record { sound = call_sound S R st w b.sound (demanding c.args.demander c.args.target c.args.ticket.right c.args.ticket.copy) _ c.demand.ensures.state }

pub returns-clause-model : goal.returns-clause-model
returns-clause-model g c =
    let b = c.args.self.now in
    let S = g.S.Scheme.meaning b.scheme in
    let R = g.H.HoldingsMut.room b.holdings in
    let st = g.H.Holdings.meaning b.holdings in
    demanded S R st c.args.demander c.args.target c.args.ticket.right c.args.ticket.copy (told c.demand.result) _ c.demand.ensures.answer c.demand.ensures.state
