use Rattle.std.proofs.Common.{◌≡◌, ℕ, List, codes, Some, Option, option_map, Bor, get_or, sym, ap, ◌∙◌, arith}
use Rattle.protocol.specs.declared.command.Call.{Call}
use Rattle.protocol.specs.declared.command.Call.TheVariants as call
use Rattle.protocol.specs.declared.words.TicketFor.{TicketFor}
use Rattle.protocol.specs.Words.{SaysPlain}
use Rattle.protocol.specs.Commands.{MeansCall}
use Rattle.protocol.proofs.command.read_call.Goals as goal

-- where the second word says no plain ticket, nothing is dropped
not_dropped : (name first : List ℕ) (second third : Option (Bor (List ℕ))) (w : Bor (List ℕ)) → name ≡ codes "drop" → second ≡ Some w → ((t : TicketFor) → SaysPlain w.now t → ⊥) → (k : Call) → MeansCall name first (option_map (λ x. x.now) second) (option_map (λ x. x.now) third) k → ⊥
not_dropped name first second third w is at none (call.Copy a b t) said = absurd (omega (arith, ap (λ (l : List ℕ). get_or l 1 0) (sym is ∙ said.0)))
not_dropped name first second third w is at none (call.Demand b t) said = absurd (omega (arith, ap (λ (l : List ℕ). get_or l 1 0) (sym is ∙ said.0)))
not_dropped name first second third w is at none (call.Create k a b) said = absurd (omega (arith, ap (λ (l : List ℕ). get_or l 0 0) (sym is ∙ said.0)))
not_dropped name first second third w is at none (call.Drop a t) said = none t (rw at at said.2)
not_dropped name first second third w is at none (call.Retire y) said = absurd (omega (arith, ap (λ (l : List ℕ). get_or l 1 0) (sym is ∙ said.0)))
not_dropped name first second third w is at none (call.Ask a t) said = absurd (omega (arith, ap (λ (l : List ℕ). get_or l 1 0) (sym is ∙ said.0)))

pub returns-in_err-plain_ticket-in-drop-Some-None : goal.returns-in_err-plain_ticket-in-drop-Some-None
returns-in_err-plain_ticket-in-drop-Some-None c =
    let is = c.in-drop-Some-None in
    rw c.from_residual-in_err-plain_ticket-in-drop-Some-None.ensures
    (not_dropped c.args.name.now c.args.first.now c.args.second c.args.third is.word is.is-drop-0 is.is-1 c.in_err-plain_ticket-in-drop-Some-None.ensures)
