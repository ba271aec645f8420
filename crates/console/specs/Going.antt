-- How a script starts over.
use Rattle.std.specs.Prelude.{◌≡◌, ℕ, ◌*◌, ◌⊎◌, List, codes, Some}
use Rattle.model.specs.Refusals.{Answer, granted, refused}
use Rattle.cells.specs.Layout.{fit_answer as cells_answer}
use Rattle.ticket_list.specs.Sizes.{fit_answer as list_answer}
use Rattle.scheme_file.specs.Faults.{Fault}
use Rattle.scheme_file.specs.Checks.{fault_of}
use Rattle.protocol.specs.declared.command.Start.{Start}
use Rattle.protocol.specs.declared.command.Start.TheVariants as start
use Rattle.protocol.specs.Answers.{done_line, fault_line}
use Rattle.console.specs.declared.start.ChosenScheme.{ChosenScheme}
use Rattle.console.specs.declared.start.ChosenScheme.TheVariants as chosen
use Rattle.console.specs.declared.start.Next.{Next}
use Rattle.console.specs.declared.start.Next.TheVariants as next

-- a scheme file is turned down with this line: it cannot be read, or its bytes have a fault
abbrev pub FileRefused : List ℕ → Type 0
FileRefused said = (said ≡ codes "error") ⊎ ((bytes : List ℕ) × (f : Fault) × (fault_of bytes ≡ Some f) × (said ≡ fault_line f))

-- the scheme that a command chooses
abbrev pub Chooses : Start → ChosenScheme → Type 0
Chooses c chosen.Card = c ≡ start.Card
Chooses (start.File p) (chosen.File f) = Unit {0}
Chooses start.Card (chosen.File f) = ⊥
Chooses (start.Cells n) (chosen.File f) = ⊥
Chooses (start.List n p) (chosen.File f) = ⊥

-- what a script goes on with after a command that starts over, once a scheme was chosen: another scheme, or holdings of
-- sizes that fit
abbrev pub Begins : Start → Next → Type 0
Begins c (next.Scheme s) = Chooses c s
Begins c (next.Cells count) = (c ≡ start.Cells count.rows) × (cells_answer count.rows (count.rows * count.rows) ≡ granted tt)
Begins c (next.List size) = (c ≡ start.List size.rows size.pairs) × (list_answer size.rows size.pairs ≡ granted tt)

-- before any scheme was chosen, a command that starts over is turned down with this line
abbrev pub NotChosen : Start → List ℕ → Type 0
NotChosen start.Card said = ⊥
NotChosen (start.File p) said = FileRefused said
NotChosen (start.Cells n) said = said ≡ codes "error"
NotChosen (start.List n p) said = said ≡ codes "error"

-- holdings of these sizes are turned down with this line
abbrev pub Unfit : Answer (Unit {0}) → List ℕ → Type 0
Unfit (granted a) said = ⊥
Unfit (refused n) said = said ≡ done_line (codes "ok") (refused n)

-- once a scheme was chosen, a command that starts over is turned down with this line
abbrev pub TurnedDown : Start → List ℕ → Type 0
TurnedDown start.Card said = ⊥
TurnedDown (start.File p) said = FileRefused said
TurnedDown (start.Cells n) said = Unfit (cells_answer n (n * n)) said
TurnedDown (start.List n p) said = Unfit (list_answer n p) said
