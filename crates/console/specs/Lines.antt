-- The lines that commands are answered with in each phase of a script, what they leave, and what the script goes on with.
use Rattle.std.specs.Prelude.{◌≡◌, ℕ, ◌*◌, Bool, true, ◌⊎◌, List, codes, Ok, Err, Result}
use Rattle.std.specs.declared.ops.ControlFlow.{ControlFlow}
use Rattle.std.specs.declared.ops.ControlFlow.TheVariants.{Continue, Break}
use Rattle.model.specs.Refusals.{bare}
use Rattle.model.specs.Scheme.{Scheme}
use Rattle.model.specs.State.{State, Room}
use Rattle.model.specs.Calls.{question_answer, answer, step, copy, demand, create, drop, retire}
use Rattle.model.specs.SetUp.{enter, place, entry_answer, entry_step}
use Rattle.protocol.specs.declared.command.Command.{Command}
use Rattle.protocol.specs.declared.command.Command.TheVariants as command
use Rattle.protocol.specs.declared.command.Entry.{Entry}
use Rattle.protocol.specs.declared.command.Entry.TheVariants as entry
use Rattle.protocol.specs.declared.command.Call.{Call}
use Rattle.protocol.specs.declared.command.Call.TheVariants as call
use Rattle.protocol.specs.declared.command.Start.{Start}
use Rattle.protocol.specs.declared.command.Start.TheVariants as start
use Rattle.protocol.specs.declared.answer.Answer.{Answer}
use Rattle.protocol.specs.declared.answer.Answer.TheVariants.{Refused}
use Rattle.model.specs.declared.refusal.Refusal.{Refusal}
use Rattle.protocol.specs.Answers.{line, done_line, number_line, ask_line}
use Rattle.cells.specs.Layout.{fit_answer as cells_answer}
use Rattle.ticket_list.specs.Sizes.{fit_answer as list_answer}
use Rattle.console.specs.Knowing.{is_known}
use Rattle.console.specs.Going.{FileRefused, Chooses, Begins, NotChosen, TurnedDown}
use Rattle.console.specs.declared.start.ChosenScheme.{ChosenScheme}
use Rattle.console.specs.declared.start.Next.{Next}
use Rattle.console.specs.declared.phase.Ending.{Ending}
use Rattle.console.specs.declared.phase.Ending.TheVariants as ending

-- the line of an answer; what a script goes on with is answered ok
abbrev pub told : {N : Type 0} → ControlFlow N Answer → List ℕ
told (Continue a) = line a
told (Break next) = codes "ok"

-- the line of a granted command or of a refused one
abbrev pub unwrapped_line : Result Answer Refusal → List ℕ
unwrapped_line (Ok a) = line a
unwrapped_line (Err e) = line (Refused e)

-- a scheme file is answered with this line
abbrev pub FileSays : List ℕ → Type 0
FileSays said = (said ≡ codes "ok") ⊎ FileRefused said

-- before any scheme was chosen, a command that starts over is answered with this line
abbrev pub FirstSays : Start → List ℕ → Type 0
FirstSays start.Card said = said ≡ codes "ok"
FirstSays (start.File p) said = FileSays said
FirstSays (start.Cells n) said = said ≡ codes "error"
FirstSays (start.List n p) said = said ≡ codes "error"

-- once one was chosen
abbrev pub StartSays : Start → List ℕ → Type 0
StartSays start.Card said = said ≡ codes "ok"
StartSays (start.File p) said = FileSays said
StartSays (start.Cells n) said = said ≡ done_line (codes "ok") (cells_answer n (n * n))
StartSays (start.List n p) said = said ≡ done_line (codes "ok") (list_answer n p)

-- any command, before any scheme was chosen
abbrev pub BeginningSays : Command → List ℕ → Type 0
BeginningSays (command.Start s) said = FirstSays s said
BeginningSays (command.Entry e) said = said ≡ codes "error"
BeginningSays (command.Call c) said = said ≡ codes "error"
BeginningSays command.Show said = said ≡ codes "error"

-- any command where a scheme has been chosen, and no more
abbrev pub ChosenSays : Command → List ℕ → Type 0
ChosenSays (command.Start s) said = StartSays s said
ChosenSays (command.Entry e) said = said ≡ codes "error"
ChosenSays (command.Call c) said = said ≡ codes "error"
ChosenSays command.Show said = said ≡ codes "error"

-- what a script goes on with after a command, or that the same phase goes on
abbrev pub BeginningGoes : Command → ControlFlow ChosenScheme Answer → Type 0
BeginningGoes (command.Start s) (Continue a) = NotChosen s (line a)
BeginningGoes (command.Start s) (Break scheme) = Chooses s scheme
BeginningGoes (command.Entry e) (Continue a) = Unit {0}
BeginningGoes (command.Entry e) (Break scheme) = ⊥
BeginningGoes (command.Call c) (Continue a) = Unit {0}
BeginningGoes (command.Call c) (Break scheme) = ⊥
BeginningGoes command.Show (Continue a) = Unit {0}
BeginningGoes command.Show (Break scheme) = ⊥

abbrev pub ChosenGoes : Command → ControlFlow Next Answer → Type 0
ChosenGoes (command.Start s) (Continue a) = TurnedDown s (line a)
ChosenGoes (command.Start s) (Break next) = Begins s next
ChosenGoes (command.Entry e) (Continue a) = Unit {0}
ChosenGoes (command.Entry e) (Break next) = ⊥
ChosenGoes (command.Call c) (Continue a) = Unit {0}
ChosenGoes (command.Call c) (Break next) = ⊥
ChosenGoes command.Show (Continue a) = Unit {0}
ChosenGoes command.Show (Break next) = ⊥

-- a set-up ends where it is opened too
abbrev pub SetUpGoes : Command → ControlFlow Ending Answer → Type 0
SetUpGoes c (Break (ending.Over next)) = ChosenGoes c (Break next)
SetUpGoes c (Break ending.Opened) = c ≡ command.Entry entry.Open
SetUpGoes (command.Start s) (Continue a) = TurnedDown s (line a)
SetUpGoes (command.Entry (entry.Enter k)) (Continue a) = Unit {0}
SetUpGoes (command.Entry (entry.Place h t)) (Continue a) = Unit {0}
SetUpGoes (command.Entry entry.Open) (Continue a) = ⊥
SetUpGoes (command.Call c) (Continue a) = Unit {0}
SetUpGoes command.Show (Continue a) = Unit {0}

-- what a script goes on with comes of a command that the program knows
abbrev pub ComesOf : {N : Type 0} → (Start → Bool) → (Command → ControlFlow N Answer → Type 0) → N → Type 0
ComesOf knows goes next = (c : Command) × (is_known knows c ≡ true) × goes c (Break next)

module _ (S : Scheme) (R : Room) (st : State) where
  -- the commands of a set-up, and what is then left of its state
  abbrev pub entry_line : Entry → List ℕ
  entry_line (entry.Enter k) = number_line (codes "entered ") (entry_answer S R st (enter k))
  entry_line (entry.Place a t) = done_line (codes "ok") (bare (entry_answer S R st (place a t.target t.ticket.right t.ticket.copy)))
  entry_line entry.Open = codes "ok"

  abbrev pub entry_left : Entry → State
  entry_left (entry.Enter k) = entry_step S R st (enter k)
  entry_left (entry.Place a t) = entry_step S R st (place a t.target t.ticket.right t.ticket.copy)
  entry_left entry.Open = st

  -- the commands of an open register, and what is then left of its state
  abbrev pub call_line : Call → List ℕ
  call_line (call.Copy a b t) = number_line (codes "granted link ") (answer S R st (copy a b t.target t.ticket.right t.ticket.copy))
  call_line (call.Demand b t) = done_line (codes "granted") (bare (answer S R st (demand b t.target t.ticket.right t.ticket.copy)))
  call_line (call.Create k a b) = number_line (codes "created ") (answer S R st (create a b k))
  call_line (call.Drop a t) = done_line (codes "dropped") (bare (answer S R st (drop a t.target t.ticket.right)))
  call_line (call.Retire y) = done_line (codes "retired") (bare (answer S R st (retire y)))
  call_line (call.Ask a t) = ask_line (question_answer S st a t.target t.ticket.right t.ticket.copy)

  abbrev pub call_left : Call → State
  call_left (call.Copy a b t) = step S R st (copy a b t.target t.ticket.right t.ticket.copy)
  call_left (call.Demand b t) = step S R st (demand b t.target t.ticket.right t.ticket.copy)
  call_left (call.Create k a b) = step S R st (create a b k)
  call_left (call.Drop a t) = step S R st (drop a t.target t.ticket.right)
  call_left (call.Retire y) = step S R st (retire y)
  call_left (call.Ask a t) = st

  -- any command is answered with this line in a set-up, and leaves this state
  abbrev pub SetUpSays : Command → List ℕ → Type 0
  SetUpSays (command.Start s) said = StartSays s said
  SetUpSays (command.Entry e) said = said ≡ entry_line e
  SetUpSays (command.Call c) said = said ≡ codes "error"
  SetUpSays command.Show said = said ≡ codes "end"

  abbrev pub set_up_left : Command → State
  set_up_left (command.Start s) = st
  set_up_left (command.Entry e) = entry_left e
  set_up_left (command.Call c) = st
  set_up_left command.Show = st

  -- the same in an open register
  abbrev pub OpenSays : Command → List ℕ → Type 0
  OpenSays (command.Start s) said = StartSays s said
  OpenSays (command.Entry e) said = said ≡ codes "error"
  OpenSays (command.Call c) said = said ≡ call_line c
  OpenSays command.Show said = said ≡ codes "end"

  abbrev pub open_left : Command → State
  open_left (command.Start s) = st
  open_left (command.Entry e) = st
  open_left (command.Call c) = call_left c
  open_left command.Show = st
