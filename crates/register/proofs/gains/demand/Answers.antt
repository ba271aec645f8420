use Rattle.std.proofs.Common.{◌≡◌, true, [], ◌∷◌, ◌++◌, sym, ap, ◌∙◌, ap₂}
use Rattle.std.proofs.lemmas.Bool.{cond-true}
use Rattle.model.specs.declared.refusal.Refusal.TheVariants.{NotDemandable}
use Rattle.model.specs.Refusals.{told, granted, refused}
use Rattle.model.specs.Tickets.{Tickets, has}
use Rattle.model.specs.Calls.{check, passed, demands, party_checks}
use Rattle.register.proofs.Fronts.{next_passed, gain_answer, both_stand}
use Rattle.register.proofs.gains.demand.Goals as goal

pub returns-clause-answer : goal.returns-clause-answer
returns-clause-answer g c =
    let h = c.args.holdings.now in
    let S = g.S.Scheme.meaning c.args.scheme.now in
    let st = g.H.Holdings.meaning h in
    let b = c.args.demander in
    let y = c.args.target in
    let t = c.args.ticket in
    let p = c.in_ok-kinds.ensures.answer in
    let k = c.in_ok-kinds.ensures.kinds in
    let lets : demands S st b y t.right t.copy ≡ true =
    ap (λ (s : Tickets). has s t.right t.copy) (sym (ap₂ S.demand k.0 k.1) ∙ sym c.demand.ensures) ∙ sym c.has.ensures ∙ c.if-not-has.false in
    let front = party_checks S st b y t.right ++ check NotDemandable (demands S st b y t.right t.copy) ∷ [] in
    let q : granted tt ≡ passed front =
    next_passed (party_checks S st b y t.right) (check NotDemandable (demands S st b y t.right t.copy)) p (sym (cond-true (demands S st b y t.right t.copy) (granted tt) (refused 7) lets)) in
    let same = c.in_ok-kinds.ensures.same in
    let e = c.gain.ensures in
    let both = both_stand S st b y t.right p in
    gain_answer g.H.HoldingsMut.room g.H.Holdings.meaning h c.check_parties.new.holdings c.gain.new.holdings same
    b y t.right t.copy (told c.gain.result) e.room e.answer e.state front q both 0
