use Rattle.std.proofs.Common.{◌+◌, ◌*◌, cond, is_some}
use Rattle.std.specs.Prelude.{IfSome}
use Rattle.protocol.specs.Scripts.{left_of}
use Rattle.console.specs.Lines.{ChosenGoes, ComesOf}
use Rattle.console.proofs.session.Session.run.Given as goal

abbrev pub invariant-loop-next : goal.invariant-loop-next
invariant-loop-next g l = IfSome l.next (ComesOf g.P.Program.knows ChosenGoes)

-- a phase that ends before the script does has read a line
abbrev pub decreases-loop-next : goal.decreases-loop-next
decreases-loop-next g l = 2 * left_of l.script + cond (is_some l.next) 1 0
