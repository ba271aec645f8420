use Rattle.std.proofs.Common.{◌≡◌, ℕ, ◌≤◌, [], sym, ap, ◌∙◌, subst}
use Rattle.model.specs.Refusals.{Answer, told, granted, refusal_number}
use Rattle.model.specs.State.{Room, added, holding, filled}
use Rattle.model.specs.Calls.{after, add_answer, child_state, checks, create as creation}
use Rattle.register.specs.Births.{birth_table}
use Rattle.register.proofs.Fronts.{front_unchanged}
use Rattle.register.proofs.Creations.{add_granted, first_there, second_there, child_there, birth_fits, birth_state}
use Rattle.register.proofs.creating.create.Given as given
use Rattle.register.proofs.creating.create.Goals as goal
use Rattle.register.proofs.creating.create.Goals.{After-add}

pub returns-in_err-birth-clause-state : goal.returns-in_err-birth-clause-state
returns-in_err-birth-clause-state g c =
    let h = c.args.holdings.now in
    let S = g.S.Scheme.meaning c.args.scheme.now in
    let R = g.H.HoldingsMut.room h in
    let st = g.H.Holdings.meaning h in
    let a = c.args.parents.first in
    let b = c.args.parents.second in
    let k = c.args.kind in
    let front = checks S R st (creation a b k) in
    let same = c.in_err-birth.ensures.same in
    let no = c.in_err-birth.ensures.answer in
    let n = refusal_number c.in_err-birth.field-0.0 in
    let state = ap g.H.Holdings.meaning same ∙ front_unchanged front [] st.next n no (child_state S st a b k) st in
    state

inside_granted : (i j : ℕ) → ◌≡◌ {A = Answer ℕ} (granted i) (granted j) → i ≡ j
inside_granted i j e = cc

-- what adding the child answers, and what it leaves

module _ (g : given.Over) (c : After-add g) where
  add_answers : told c.add.result ≡ granted (g.H.Holdings.meaning c.args.holdings.now).next
  add_answers =
      let h = c.args.holdings.now in
      let made = c.in_ok-birth.ensures in
      c.add.ensures.answer ∙ ap (λ z. add_answer (g.H.HoldingsMut.room z) (g.H.Holdings.meaning z)) made.same
      ∙ add_granted (g.S.Scheme.meaning c.args.scheme.now) (g.H.HoldingsMut.room h) (g.H.Holdings.meaning h) (g.H.Holdings.orderly h) c.args.parents.first c.args.parents.second c.args.kind
      c.in_ok-birth.birth made.answer made.birth.0 made.birth.1

  add_leaves : g.H.Holdings.meaning c.add.new.self ≡ added (g.H.Holdings.meaning c.args.holdings.now) c.in_ok-birth.birth.child
  add_leaves =
      let st = g.H.Holdings.meaning c.args.holdings.now in
      let k = c.in_ok-birth.birth.child in
      c.add.ensures.state
      ∙ ap (λ z. after (told c.add.result) (added (g.H.Holdings.meaning z) k) (g.H.Holdings.meaning z)) c.in_ok-birth.ensures.same
      ∙ ap (λ (r : Answer ℕ). after r (added st k) st) add_answers

-- a row was found, so the child is added

pub give_birth-requires-clause-child : goal.give_birth-requires-clause-child
give_birth-requires-clause-child g c =
    let h = c.args.holdings.now in
    let S = g.S.Scheme.meaning c.args.scheme.now in
    let R = g.H.HoldingsMut.room h in
    let st = g.H.Holdings.meaning h in
    let o = g.H.Holdings.orderly h in
    let a = c.args.parents.first in
    let b = c.args.parents.second in
    let k = c.args.kind in
    let v = c.in_ok-birth.birth in
    let n = c.in_ok-child.child in
    let made = c.in_ok-birth.ensures in
    let d = (goal.at.give_birth-requires-clause-child g c).After-add in
    let m = g.H.Holdings.meaning c.add.new.self in
    let next : n ≡ st.next = inside_granted n st.next (sym (ap told c.in_ok-child.was) ∙ add_answers g d) in
    child_there S R st o a b k v made.answer made.birth.0 made.birth.1 m (add_leaves g d) n next

pub give_birth-requires-clause-first : goal.give_birth-requires-clause-first
give_birth-requires-clause-first g c =
    let h = c.args.holdings.now in
    let S = g.S.Scheme.meaning c.args.scheme.now in
    let R = g.H.HoldingsMut.room h in
    let st = g.H.Holdings.meaning h in
    let o = g.H.Holdings.orderly h in
    let a = c.args.parents.first in
    let b = c.args.parents.second in
    let k = c.args.kind in
    let v = c.in_ok-birth.birth in
    let n = c.in_ok-child.child in
    let made = c.in_ok-birth.ensures in
    let d = (goal.at.give_birth-requires-clause-first g c).After-add in
    let m = g.H.Holdings.meaning c.add.new.self in
    let next : n ≡ st.next = inside_granted n st.next (sym (ap told c.in_ok-child.was) ∙ add_answers g d) in
    first_there S R st o a b k v made.answer made.birth.0 made.birth.1 m (add_leaves g d) n next

pub give_birth-requires-clause-fits : goal.give_birth-requires-clause-fits
give_birth-requires-clause-fits g c =
    let h = c.args.holdings.now in
    let S = g.S.Scheme.meaning c.args.scheme.now in
    let R = g.H.HoldingsMut.room h in
    let st = g.H.Holdings.meaning h in
    let o = g.H.Holdings.orderly h in
    let a = c.args.parents.first in
    let b = c.args.parents.second in
    let k = c.args.kind in
    let v = c.in_ok-birth.birth in
    let n = c.in_ok-child.child in
    let made = c.in_ok-birth.ensures in
    let d = (goal.at.give_birth-requires-clause-fits g c).After-add in
    let m = g.H.Holdings.meaning c.add.new.self in
    let next : n ≡ st.next = inside_granted n st.next (sym (ap told c.in_ok-child.was) ∙ add_answers g d) in
    subst (λ (r : Room). filled (holding m (birth_table m.tickets v n)) ≤ r.pairs) (sym (c.add.ensures.room ∙ ap g.H.HoldingsMut.room made.same))
    (birth_fits S R st o a b k v made.answer made.birth.0 made.birth.1 m (add_leaves g d) n next)

pub give_birth-requires-clause-second : goal.give_birth-requires-clause-second
give_birth-requires-clause-second g c =
    let h = c.args.holdings.now in
    let S = g.S.Scheme.meaning c.args.scheme.now in
    let R = g.H.HoldingsMut.room h in
    let st = g.H.Holdings.meaning h in
    let o = g.H.Holdings.orderly h in
    let a = c.args.parents.first in
    let b = c.args.parents.second in
    let k = c.args.kind in
    let v = c.in_ok-birth.birth in
    let n = c.in_ok-child.child in
    let made = c.in_ok-birth.ensures in
    let d = (goal.at.give_birth-requires-clause-second g c).After-add in
    let m = g.H.Holdings.meaning c.add.new.self in
    let next : n ≡ st.next = inside_granted n st.next (sym (ap told c.in_ok-child.was) ∙ add_answers g d) in
    second_there S R st o a b k v made.answer made.birth.0 made.birth.1 m (add_leaves g d) n next

pub returns-clause-state : goal.returns-clause-state
returns-clause-state g c =
    let h = c.args.holdings.now in
    let S = g.S.Scheme.meaning c.args.scheme.now in
    let R = g.H.HoldingsMut.room h in
    let st = g.H.Holdings.meaning h in
    let o = g.H.Holdings.orderly h in
    let a = c.args.parents.first in
    let b = c.args.parents.second in
    let k = c.args.kind in
    let v = c.in_ok-birth.birth in
    let n = c.in_ok-child.child in
    let made = c.in_ok-birth.ensures in
    let d = (goal.at.returns-clause-state g c).After-add in
    let m = g.H.Holdings.meaning c.add.new.self in
    let e = c.give_birth.ensures in
    let next : n ≡ st.next = inside_granted n st.next (sym (ap told c.in_ok-child.was) ∙ add_answers g d) in
    let state = e.state ∙ birth_state S R st o a b k v made.answer made.birth.0 made.birth.1 m (add_leaves g d) n next in
    state
