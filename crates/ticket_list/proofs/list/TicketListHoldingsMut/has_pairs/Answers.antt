use Rattle.std.proofs.Common.{ℕ, ◌+◌, ◌-◌, leb, length, sym, ap, ◌∙◌, ap₂, arith}
use Rattle.std.proofs.lemmas.List.{length-take-le}
use Rattle.ordered.specs.Lists.{listed, places}
use Rattle.ticket_list.proofs.Counts.{beside}
use Rattle.ticket_list.proofs.Changes.{filled_is}
use Rattle.ticket_list.proofs.list.TicketListHoldingsMut.has_pairs.Goals as goal

pub returns-clause-answer : goal.returns-clause-answer
returns-clause-answer c =
    let t = c.args.self.now in
    let n = places t.pairs in
    ap₂ (λ (m n : ℕ). leb c.args.more (m - n)) c.capacity.ensures c.len.ensures
    ∙ beside c.args.more (length (listed t.pairs)) n (omega (arith, length-take-le t.pairs.count t.pairs.entries.now t.pairs.fits, t.pairs.fits))
    ∙ ap (λ (k : ℕ). leb (k + c.args.more) n) (sym (filled_is t.rows n (listed t.pairs) t.kept t.pairs.rising))
