use Rattle.std.proofs.Common.{◌≤◌}
use Rattle.protocol.specs.Scripts.{left_of}
use Rattle.console.proofs.session.Session.run_phase.Given as goal

abbrev pub invariant-loop-line : goal.invariant-loop-line
invariant-loop-line g l = left_of l.script ≤ left_of l.initial.script

abbrev pub decreases-loop-line : goal.decreases-loop-line
decreases-loop-line g l = left_of l.script
