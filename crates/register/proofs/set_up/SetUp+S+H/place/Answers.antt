use Rattle.std.proofs.Common.{◌≡◌}
use Rattle.model.specs.Refusals.{told, bare}
use Rattle.model.specs.Scheme.{Scheme}
use Rattle.model.specs.State.{State, Room}
use Rattle.model.specs.Calls.{party_checks}
use Rattle.model.specs.SetUp.{Entry, entry_answer, entry_step, place as placing}
use Rattle.register.proofs.Entries.{entry_sound}
use Rattle.register.proofs.Fronts.{gain_answer, gain_state, both_stand}
use Rattle.register.proofs.set_up.SetUp+S+H.place.Given as given
use Rattle.register.proofs.set_up.SetUp+S+H.place.Goals as goal
use Rattle.register.proofs.set_up.SetUp+S+H.place.Goals.{After-gain}

-- the checks of the parties were passed, so that storing decides

module _ (g : given.Over) (c : After-gain g) where
  abbrev S : Scheme
  S = g.S.Scheme.meaning c.args.self.now.scheme

  abbrev R : Room
  R = g.H.HoldingsMut.room c.args.self.now.holdings

  abbrev st : State
  st = g.H.Holdings.meaning c.args.self.now.holdings

  abbrev entry : Entry
  entry = placing c.args.holder c.args.target c.args.ticket.right c.args.ticket.copy

  answered : told c.gain.result ≡ bare (entry_answer S R st entry)
  answered =
      let t = c.args.ticket in
      let p = c.in_ok-check_parties.ensures.answer in
      let e = c.gain.ensures in
      gain_answer g.H.HoldingsMut.room g.H.Holdings.meaning c.args.self.now.holdings c.check_parties.new.holdings c.gain.new.holdings c.in_ok-check_parties.ensures.same
      c.args.holder c.args.target t.right t.copy (told c.gain.result) e.room e.answer e.state (party_checks S st c.args.holder c.args.target t.right) p
      (both_stand S st c.args.holder c.args.target t.right p) 0

  left : g.H.Holdings.meaning c.gain.new.holdings ≡ entry_step S R st entry
  left =
      let t = c.args.ticket in
      let p = c.in_ok-check_parties.ensures.answer in
      let e = c.gain.ensures in
      gain_state g.H.HoldingsMut.room g.H.Holdings.meaning c.args.self.now.holdings c.check_parties.new.holdings c.gain.new.holdings c.in_ok-check_parties.ensures.same
      c.args.holder c.args.target t.right t.copy (told c.gain.result) e.room e.answer e.state (party_checks S st c.args.holder c.args.target t.right) p
      (both_stand S st c.args.holder c.args.target t.right p) 0

pub invariant_of-self-2 : goal.invariant_of-self-2
invariant_of-self-2 g c =
    let d = (goal.at.invariant_of-self-2 g c).After-gain in
    let b = c.args.self.now in
    record { sound = entry_sound (S g d) (R g d) (st g d) (g.S.Scheme.lawful b.scheme) b.sound (entry g d) _ (left g d) }

pub returns-clause-answer : goal.returns-clause-answer
returns-clause-answer g c = answered g (goal.at.returns-clause-answer g c).After-gain

pub returns-clause-state : goal.returns-clause-state
returns-clause-state g c = left g (goal.at.returns-clause-state g c).After-gain
