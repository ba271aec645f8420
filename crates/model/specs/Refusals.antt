-- The refusals' numbers, and what an answer tells: what was granted, or the number of the refusal.
use Rattle.std.specs.Prelude.{ℕ, Ok, Err, Result}
use Rattle.model.specs.declared.refusal.Refusal.{Refusal}
use Rattle.model.specs.declared.refusal.Refusal.TheVariants.{NotStanding, NotSubject, UnknownRight, NotCopyable, NoLink, NotPassed, NotDemandable, NoRule, RowsTaken, NumbersSpent, PairsTaken, UnknownKind, NotHeld, Circle, TableTooSmall, FaultyFile, UnfitMemory}

-- the fixed number of each refusal
abbrev pub refusal_number : Refusal → ℕ
refusal_number NotStanding = 1
refusal_number NotSubject = 2
refusal_number UnknownRight = 3
refusal_number NotCopyable = 4
refusal_number NoLink = 5
refusal_number NotPassed = 6
refusal_number NotDemandable = 7
refusal_number NoRule = 8
refusal_number RowsTaken = 9
refusal_number NumbersSpent = 10
refusal_number PairsTaken = 11
refusal_number UnknownKind = 12
refusal_number NotHeld = 13
refusal_number Circle = 14
refusal_number TableTooSmall = 15
refusal_number FaultyFile = 16
refusal_number UnfitMemory = 17

-- what a call answers: a value where it is granted, else a refusal's number
pub data Answer (A : Type 0) : Type 0 where
  granted : A → Answer A
  refused : ℕ → Answer A

-- what a result of the code tells
abbrev pub told : {A : Type 0} → Result A Refusal → Answer A
told (Ok a) = granted a
told (Err e) = refused (refusal_number e)

-- an answer without the value
abbrev pub bare : {A : Type 0} → Answer A → Answer (Unit {0})
bare (granted a) = granted tt
bare (refused n) = refused n
