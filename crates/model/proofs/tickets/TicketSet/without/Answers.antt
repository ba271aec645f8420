use Rattle.std.proofs.Common.{ℕ, ap, ◌∙◌, ap₂, arith}
use lib.Bits.{bit_and}
use Rattle.model.specs.Tickets.{with_plain}
use Rattle.model.proofs.Masks.{others, and_others, less_nested, less_none}
use Rattle.model.proofs.tickets.TicketSet.without.Goals as goal

pub returns-then-right-ge16 : goal.returns-then-right-ge16
returns-then-right-ge16 c = less_none c.args.self.plain c.args.self.copyable c.args.right (omega arith) (omega arith) c.if-right-ge16.true

pub returns : goal.returns
returns c =
    let p = c.args.self.plain in
    let q = c.args.self.copyable in
    let x = c.args.right in
    c.new.ensures ∙ ap (λ (m : ℕ). with_plain (bit_and p m) (bit_and q m)) (others x c.if-right-ge16.false)
    ∙ ap₂ (λ (m n : ℕ). with_plain m n) (and_others p x (omega arith)) (and_others q x (omega arith)) ∙ less_nested p q x c.args.self.nested
