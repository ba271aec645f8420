-- Which commands a program knows.
use Rattle.std.specs.Prelude.{◌≡◌, ℕ, Bool, true, false, ◌⊎◌, List}
use Rattle.protocol.specs.declared.command.Command.{Command}
use Rattle.protocol.specs.declared.command.Command.TheVariants as command
use Rattle.protocol.specs.declared.command.Start.{Start}
use Rattle.protocol.specs.Commands.{WordsSay}

-- every command that does not start over, and of those that do, the ones that it says
abbrev pub is_known : (Start → Bool) → Command → Bool
is_known knows (command.Start s) = knows s
is_known knows (command.Entry e) = true
is_known knows (command.Call c) = true
is_known knows command.Show = true

-- words say no command, or one that the program does not know
abbrev pub SayNone : (Start → Bool) → List (List ℕ) → Type 0
SayNone knows words = ((c : Command) → WordsSay words c → ⊥) ⊎ ((c : Command) × WordsSay words c × (is_known knows c ≡ false))

-- words say a command, and the program knows it
abbrev pub Say : (Start → Bool) → List (List ℕ) → Command → Type 0
Say knows words c = WordsSay words c × (is_known knows c ≡ true)
