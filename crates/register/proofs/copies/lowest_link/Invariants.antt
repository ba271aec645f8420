use Rattle.std.proofs.Common.{◌≡◌, is_some, None}
use Rattle.model.specs.Calls.{first, upto}
use Rattle.register.specs.Passing.{lets}
use Rattle.register.proofs.Linking.{reason}
use Rattle.register.proofs.copies.lowest_link.Given as goal

-- no link before this one holds and passes, and the refusal tells whether one holds
abbrev pub invariant-loop-link : goal.invariant-loop-link
invariant-loop-link g l =
    let S = g.S.Scheme.meaning l.scheme in
    (first (lets S l.sight l.giver l.taker l.target l.ticket.right l.ticket.copy) (upto l.link) ≡ None)
    × (l.refusal ≡ reason (is_some (first (λ i. S.link i l.sight) (upto l.link))))
