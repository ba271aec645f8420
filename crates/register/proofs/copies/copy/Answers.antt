use Rattle.std.proofs.Common.{◌≡◌, true, [], ◌∷◌, ◌++◌, unwrap_or, sym, ap, ◌∙◌}
use Rattle.std.proofs.lemmas.Result.{err_from_is_err_and}
use Rattle.model.specs.declared.refusal.Refusal.TheVariants.{NotCopyable, PairsTaken}
use Rattle.model.specs.Refusals.{told, granted, refused, refusal_number}
use Rattle.model.specs.Tickets.{has}
use Rattle.model.specs.State.{holds, stored, stores}
use Rattle.model.specs.Calls.{check, sight, gained, passing_link, checks, copy as copying}
use Rattle.register.specs.Passing.{copy_party_checks}
use Rattle.register.proofs.Fronts.{front_refused, front_unchanged, gain_answer, gain_state, bare_refused, bare_granted}
use Rattle.register.proofs.CopyChecks.{links, copy_front, lowest_in, taker_stands, links_refused, links_passed, link_is}
use Rattle.register.proofs.copies.copy.Goals as goal

pub returns-in_err-kinds-clause-state : goal.returns-in_err-kinds-clause-state
returns-in_err-kinds-clause-state g c =
    let h = c.args.holdings.now in
    let S = g.S.Scheme.meaning c.args.scheme.now in
    let R = g.H.HoldingsMut.room h in
    let st = g.H.Holdings.meaning h in
    let a = c.args.giver in
    let b = c.args.taker in
    let y = c.args.target in
    let x = c.args.ticket.right in
    let f = c.args.ticket.copy in
    let set = gained st b y x f in
    let reply = unwrap_or (passing_link S st a b y x f) 0 in
    let front = copy_party_checks S st a b y x in
    let rest = check NotCopyable (holds st a y x true) ∷ (links S st a b y x f ++ check PairsTaken (stores R st b y set) ∷ []) in
    let same = c.in_err-kinds.ensures.same in
    let no = c.in_err-kinds.ensures.answer in
    let n = refusal_number c.in_err-kinds.field-0.0 in
    let state = ap g.H.Holdings.meaning same ∙ front_unchanged front rest reply n no (stored st b y set) st in
    state

pub returns-in_err-link-clause-answer : goal.returns-in_err-link-clause-answer
returns-in_err-link-clause-answer g c =
    let h = c.args.holdings.now in
    let S = g.S.Scheme.meaning c.args.scheme.now in
    let R = g.H.HoldingsMut.room h in
    let st = g.H.Holdings.meaning h in
    let a = c.args.giver in
    let b = c.args.taker in
    let y = c.args.target in
    let x = c.args.ticket.right in
    let f = c.args.ticket.copy in
    let set = gained st b y x f in
    let reply = unwrap_or (passing_link S st a b y x f) 0 in
    let p = c.in_ok-kinds.ensures.answer in
    let k = c.in_ok-kinds.ensures.kinds in
    let asked = c.in_ok-kinds.ensures.same in
    let read = c.tickets.ensures.same ∙ asked in
    let flag : holds st a y x true ≡ true =
    ap (λ s. has s x true) (sym (c.tickets.ensures.value ∙ ap (λ z. (g.H.Holdings.meaning z).tickets a y) asked)) ∙ sym c.has.ensures ∙ c.if-not-has.false in
    let seen = c.sight-seen.ensures.value ∙ ap (λ z. sight S (g.H.Holdings.meaning z) a b) read in
    let low = lowest_in S st a b y x f c.sight-seen.result c.in_ok-kinds.kinds.giver c.in_ok-kinds.kinds.taker c.in_ok-kinds.kinds.target seen k.0 k.1 k.2 in
    let n = refusal_number c.in_err-link.field-0.0 in
    let no = links_refused S st a b y x f p flag n (c.in_err-link.ensures ∙ low) in
    let rest = check PairsTaken (stores R st b y set) ∷ [] in
    let out = err_from_is_err_and c.from_residual-in_err-link.result c.from_residual-in_err-link.ensures.1 in
    ap told out.1 ∙ ap (λ e. refused (refusal_number e)) out.2 ∙ front_refused (copy_front S st a b y x f) rest reply n no

pub returns-in_err-link-clause-state : goal.returns-in_err-link-clause-state
returns-in_err-link-clause-state g c =
    let h = c.args.holdings.now in
    let S = g.S.Scheme.meaning c.args.scheme.now in
    let R = g.H.HoldingsMut.room h in
    let st = g.H.Holdings.meaning h in
    let a = c.args.giver in
    let b = c.args.taker in
    let y = c.args.target in
    let x = c.args.ticket.right in
    let f = c.args.ticket.copy in
    let set = gained st b y x f in
    let reply = unwrap_or (passing_link S st a b y x f) 0 in
    let p = c.in_ok-kinds.ensures.answer in
    let k = c.in_ok-kinds.ensures.kinds in
    let asked = c.in_ok-kinds.ensures.same in
    let read = c.tickets.ensures.same ∙ asked in
    let same = c.sight-seen.ensures.same ∙ read in
    let flag : holds st a y x true ≡ true =
    ap (λ s. has s x true) (sym (c.tickets.ensures.value ∙ ap (λ z. (g.H.Holdings.meaning z).tickets a y) asked)) ∙ sym c.has.ensures ∙ c.if-not-has.false in
    let seen = c.sight-seen.ensures.value ∙ ap (λ z. sight S (g.H.Holdings.meaning z) a b) read in
    let low = lowest_in S st a b y x f c.sight-seen.result c.in_ok-kinds.kinds.giver c.in_ok-kinds.kinds.taker c.in_ok-kinds.kinds.target seen k.0 k.1 k.2 in
    let n = refusal_number c.in_err-link.field-0.0 in
    let no = links_refused S st a b y x f p flag n (c.in_err-link.ensures ∙ low) in
    let rest = check PairsTaken (stores R st b y set) ∷ [] in
    let state = ap g.H.Holdings.meaning same ∙ front_unchanged (copy_front S st a b y x f) rest reply n no (stored st b y set) st in
    state

pub returns-in_err-gain-clause-answer : goal.returns-in_err-gain-clause-answer
returns-in_err-gain-clause-answer g c =
    let h = c.args.holdings.now in
    let S = g.S.Scheme.meaning c.args.scheme.now in
    let st = g.H.Holdings.meaning h in
    let a = c.args.giver in
    let b = c.args.taker in
    let y = c.args.target in
    let x = c.args.ticket.right in
    let f = c.args.ticket.copy in
    let reply = unwrap_or (passing_link S st a b y x f) 0 in
    let p = c.in_ok-kinds.ensures.answer in
    let k = c.in_ok-kinds.ensures.kinds in
    let asked = c.in_ok-kinds.ensures.same in
    let read = c.tickets.ensures.same ∙ asked in
    let same = c.sight-seen.ensures.same ∙ read in
    let flag : holds st a y x true ≡ true =
    ap (λ s. has s x true) (sym (c.tickets.ensures.value ∙ ap (λ z. (g.H.Holdings.meaning z).tickets a y) asked)) ∙ sym c.has.ensures ∙ c.if-not-has.false in
    let seen = c.sight-seen.ensures.value ∙ ap (λ z. sight S (g.H.Holdings.meaning z) a b) read in
    let low = lowest_in S st a b y x f c.sight-seen.result c.in_ok-kinds.kinds.giver c.in_ok-kinds.kinds.taker c.in_ok-kinds.kinds.target seen k.0 k.1 k.2 in
    let found = c.in_ok-link.ensures ∙ low in
    let q = links_passed S st a b y x f p flag c.in_ok-link.link found in
    let both = taker_stands S st a b y x f p in
    let e = c.gain.ensures in
    let answered = gain_answer g.H.HoldingsMut.room g.H.Holdings.meaning h c.sight-seen.new.holdings c.gain.new.holdings same
    b y x f (told c.gain.result) e.room e.answer e.state (copy_front S st a b y x f) q both reply in
    let n = refusal_number c.in_err-gain.field-0.0 in
    let out = err_from_is_err_and c.from_residual-in_err-gain.result c.from_residual-in_err-gain.ensures.1 in
    let no : refused n ≡ _ = sym (ap told c.in_err-gain.was) ∙ answered in
    ap told out.1 ∙ ap (λ z. refused (refusal_number z)) out.2 ∙ bare_refused _ n no

pub returns-in_err-gain-clause-state : goal.returns-in_err-gain-clause-state
returns-in_err-gain-clause-state g c =
    let h = c.args.holdings.now in
    let S = g.S.Scheme.meaning c.args.scheme.now in
    let st = g.H.Holdings.meaning h in
    let a = c.args.giver in
    let b = c.args.taker in
    let y = c.args.target in
    let x = c.args.ticket.right in
    let f = c.args.ticket.copy in
    let reply = unwrap_or (passing_link S st a b y x f) 0 in
    let p = c.in_ok-kinds.ensures.answer in
    let k = c.in_ok-kinds.ensures.kinds in
    let asked = c.in_ok-kinds.ensures.same in
    let read = c.tickets.ensures.same ∙ asked in
    let same = c.sight-seen.ensures.same ∙ read in
    let flag : holds st a y x true ≡ true =
    ap (λ s. has s x true) (sym (c.tickets.ensures.value ∙ ap (λ z. (g.H.Holdings.meaning z).tickets a y) asked)) ∙ sym c.has.ensures ∙ c.if-not-has.false in
    let seen = c.sight-seen.ensures.value ∙ ap (λ z. sight S (g.H.Holdings.meaning z) a b) read in
    let low = lowest_in S st a b y x f c.sight-seen.result c.in_ok-kinds.kinds.giver c.in_ok-kinds.kinds.taker c.in_ok-kinds.kinds.target seen k.0 k.1 k.2 in
    let found = c.in_ok-link.ensures ∙ low in
    let q = links_passed S st a b y x f p flag c.in_ok-link.link found in
    let both = taker_stands S st a b y x f p in
    let e = c.gain.ensures in
    let state = gain_state g.H.HoldingsMut.room g.H.Holdings.meaning h c.sight-seen.new.holdings c.gain.new.holdings same
    b y x f (told c.gain.result) e.room e.answer e.state (copy_front S st a b y x f) q both reply in
    state

pub returns-clause-answer : goal.returns-clause-answer
returns-clause-answer g c =
    let h = c.args.holdings.now in
    let S = g.S.Scheme.meaning c.args.scheme.now in
    let R = g.H.HoldingsMut.room h in
    let st = g.H.Holdings.meaning h in
    let a = c.args.giver in
    let b = c.args.taker in
    let y = c.args.target in
    let x = c.args.ticket.right in
    let f = c.args.ticket.copy in
    let reply = unwrap_or (passing_link S st a b y x f) 0 in
    let p = c.in_ok-kinds.ensures.answer in
    let k = c.in_ok-kinds.ensures.kinds in
    let asked = c.in_ok-kinds.ensures.same in
    let read = c.tickets.ensures.same ∙ asked in
    let same = c.sight-seen.ensures.same ∙ read in
    let flag : holds st a y x true ≡ true =
    ap (λ s. has s x true) (sym (c.tickets.ensures.value ∙ ap (λ z. (g.H.Holdings.meaning z).tickets a y) asked)) ∙ sym c.has.ensures ∙ c.if-not-has.false in
    let seen = c.sight-seen.ensures.value ∙ ap (λ z. sight S (g.H.Holdings.meaning z) a b) read in
    let low = lowest_in S st a b y x f c.sight-seen.result c.in_ok-kinds.kinds.giver c.in_ok-kinds.kinds.taker c.in_ok-kinds.kinds.target seen k.0 k.1 k.2 in
    let found = c.in_ok-link.ensures ∙ low in
    let q = links_passed S st a b y x f p flag c.in_ok-link.link found in
    let both = taker_stands S st a b y x f p in
    let e = c.gain.ensures in
    let answered = gain_answer g.H.HoldingsMut.room g.H.Holdings.meaning h c.sight-seen.new.holdings c.gain.new.holdings same
    b y x f (told c.gain.result) e.room e.answer e.state (copy_front S st a b y x f) q both reply in
    let yes = sym (ap told c.in_ok-gain.was) ∙ answered in
    ap granted (link_is S st a b y x f c.in_ok-link.link found) ∙ bare_granted (checks S R st (copying a b y x f)) reply yes

pub returns-clause-state : goal.returns-clause-state
returns-clause-state g c =
    let h = c.args.holdings.now in
    let S = g.S.Scheme.meaning c.args.scheme.now in
    let st = g.H.Holdings.meaning h in
    let a = c.args.giver in
    let b = c.args.taker in
    let y = c.args.target in
    let x = c.args.ticket.right in
    let f = c.args.ticket.copy in
    let reply = unwrap_or (passing_link S st a b y x f) 0 in
    let p = c.in_ok-kinds.ensures.answer in
    let k = c.in_ok-kinds.ensures.kinds in
    let asked = c.in_ok-kinds.ensures.same in
    let read = c.tickets.ensures.same ∙ asked in
    let same = c.sight-seen.ensures.same ∙ read in
    let flag : holds st a y x true ≡ true =
    ap (λ s. has s x true) (sym (c.tickets.ensures.value ∙ ap (λ z. (g.H.Holdings.meaning z).tickets a y) asked)) ∙ sym c.has.ensures ∙ c.if-not-has.false in
    let seen = c.sight-seen.ensures.value ∙ ap (λ z. sight S (g.H.Holdings.meaning z) a b) read in
    let low = lowest_in S st a b y x f c.sight-seen.result c.in_ok-kinds.kinds.giver c.in_ok-kinds.kinds.taker c.in_ok-kinds.kinds.target seen k.0 k.1 k.2 in
    let found = c.in_ok-link.ensures ∙ low in
    let q = links_passed S st a b y x f p flag c.in_ok-link.link found in
    let both = taker_stands S st a b y x f p in
    let e = c.gain.ensures in
    let state = gain_state g.H.HoldingsMut.room g.H.Holdings.meaning h c.sight-seen.new.holdings c.gain.new.holdings same
    b y x f (told c.gain.result) e.room e.answer e.state (copy_front S st a b y x f) q both reply in
    state
