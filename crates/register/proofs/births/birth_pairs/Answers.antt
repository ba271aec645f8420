use Rattle.std.proofs.Common.{◌≡◌, sym, ap, ◌∙◌, arith}
use Rattle.model.specs.Tickets.{Tickets, tickets_of}
use Rattle.model.specs.State.{takes, takes_beside}
use Rattle.register.specs.Births.{share_pairs}
use Rattle.register.proofs.Shares.{other_pairs, birth_filled}
use Rattle.register.proofs.births.birth_pairs.Goals as goal
use Rattle.register.proofs.births.birth_pairs.Goals.{in-Some, in-None}

pub returns-clause-value : goal.returns-clause-value
returns-clause-value g c =
    let h = c.args.holdings.now in
    let st = g.H.Holdings.meaning h in
    let v = c.args.birth in
    let e = c.share_pairs-first.ensures in
    let own : c.pairs_beside.result ≡ takes (tickets_of v.own) = c.pairs_beside.ensures ∙ ap (λ (s : Tickets). takes_beside s (tickets_of v.own)) c.none.ensures in
    let second : (c.match-birth.holdings ≡ h) × (c.match-birth.second ≡ other_pairs st.tickets v.second) = elim c.match-birth.branch [
      | in-Some w ↦
          let f = w.share_pairs-second.ensures in (
            w.holdings-is ∙ f.same ∙ e.same,
            w.second-is ∙ f.value ∙ ap (λ z. share_pairs (g.H.Holdings.meaning z).tickets w.in-Some.share) e.same ∙ ap (other_pairs st.tickets) (sym w.in-Some.is),
          )
      | in-None w ↦ (w.holdings-is ∙ e.same, w.second-is ∙ ap (other_pairs st.tickets) (sym w.in-None.is))
    ] in
    omega (arith, e.value, second.1, own, birth_filled st (g.H.Holdings.orderly h) v c.requires.parents)
