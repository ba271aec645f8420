use Rattle.std.proofs.Common.{◌∙◌, arith}
use Rattle.model.specs.SetUp.{enter as entering}
use Rattle.register.proofs.Entries.{entry_sound, enter_answer, enter_state}
use Rattle.register.proofs.set_up.SetUp+S+H.enter.Goals as goal

pub invariant_of-self : goal.invariant_of-self
invariant_of-self g c =
    let b = c.args.self.now in
    let S = g.S.Scheme.meaning b.scheme in
    let R = g.H.HoldingsMut.room b.holdings in
    let st = g.H.Holdings.meaning b.holdings in
    let answer = c.add.ensures.answer ∙ enter_answer S R st c.args.kind (omega arith) in
    record { sound = entry_sound S R st (g.S.Scheme.lawful b.scheme) b.sound (entering c.args.kind) _ (c.add.ensures.state ∙ enter_state S R st c.args.kind _ answer) }
