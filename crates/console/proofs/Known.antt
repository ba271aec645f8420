-- Ticket lists that a script goes on with are known to the program.
use Rattle.std.proofs.Common.{◌≡◌, ℕ, Bool, true, sym, ap, ◌∙◌}
use Rattle.std.specs.declared.ops.ControlFlow.TheVariants.{Break}
use Rattle.protocol.specs.declared.command.Command.{Command}
use Rattle.protocol.specs.declared.command.Command.TheVariants as command
use Rattle.protocol.specs.declared.command.Start.{Start}
use Rattle.protocol.specs.declared.command.Start.TheVariants as start
use Rattle.console.specs.declared.sizes.ListSize.{ListSize}
use Rattle.console.specs.declared.start.Next.TheVariants as next
use Rattle.console.specs.Knowing.{is_known}
use Rattle.console.specs.Lines.{ChosenGoes, ComesOf}

module _ (knows : Start → Bool) (size : ListSize) where
  by_command : (c : Command) → is_known knows c ≡ true → ChosenGoes c (Break (next.List size)) → knows (start.List size.rows size.pairs) ≡ true
  by_command (command.Start s) known goes = ap knows (sym goes.0) ∙ known
  by_command (command.Entry e) known goes = absurd goes
  by_command (command.Call c) known goes = absurd goes
  by_command command.Show known goes = absurd goes

  pub list_known : ComesOf knows ChosenGoes (next.List size) → knows (start.List size.rows size.pairs) ≡ true
  list_known comes = by_command comes.0 comes.1 comes.2

-- and so the smallest is, where lists of every size are known or of none
module _ (knows : Start → Bool) (all_or_none : (n p m q : ℕ) → knows (start.List n p) ≡ knows (start.List m q)) (size : ListSize) where
  pub lists_known : ComesOf knows ChosenGoes (next.List size) → knows (start.List 1 1) ≡ true
  lists_known comes = all_or_none 1 1 size.rows size.pairs ∙ list_known knows size comes
