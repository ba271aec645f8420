use Rattle.model.specs.Calls.{retire as retiring}
use Rattle.register.proofs.Fronts.{call_sound}
use Rattle.register.proofs.open.Register+S+H.retire.Goals as goal

pub invariant_of-self : goal.invariant_of-self
invariant_of-self g c =
    let b = c.args.self.now in
    let S = g.S.Scheme.meaning b.scheme in
    let R = g.H.HoldingsMut.room b.holdings in
    let st = g.H.Holdings.meaning b.holdings in
    let w = g.S.Scheme.lawful b.scheme in
    record { sound = call_sound S R st w b.sound (retiring c.args.entity) _ (c.retire.ensures.state S) }

pub returns-clause-answer : goal.returns-clause-answer
returns-clause-answer g c = c.retire.ensures.answer (g.S.Scheme.meaning c.args.self.now.scheme)

pub returns-clause-state : goal.returns-clause-state
returns-clause-state g c = c.retire.ensures.state (g.S.Scheme.meaning c.args.self.now.scheme)
