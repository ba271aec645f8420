use Rattle.model.specs.Refusals.{told}
use Rattle.model.specs.Calls.{create as creating}
use Rattle.model.proofs.Grants.{created}
use Rattle.register.proofs.Fronts.{call_sound}
use Rattle.register.proofs.open.Register+S+H.create.Goals as goal

pub invariant_of-self : goal.invariant_of-self
invariant_of-self g c =
    let b = c.args.self.now in
    let S = g.S.Scheme.meaning b.scheme in
    let R = g.H.HoldingsMut.room b.holdings in
    let st = g.H.Holdings.meaning b.holdings in
    let w = g.S.Scheme.lawful b.scheme in
    record { sound = call_sound S R st w b.sound (creating c.args.parent c.args.second c.args.kind) _ c.create.ensures.state }

pub returns-clause-model : goal.returns-clause-model
returns-clause-model g c =
    let b = c.args.self.now in
    let S = g.S.Scheme.meaning b.scheme in
    let R = g.H.HoldingsMut.room b.holdings in
    let st = g.H.Holdings.meaning b.holdings in
    let w = g.S.Scheme.lawful b.scheme in
    created S w R st c.args.parent c.args.second c.args.kind (told c.create.result) _ c.create.ensures.answer c.create.ensures.state
