-- Which words say which command.
use Rattle.std.specs.Prelude.{◌≡◌, ℕ, ◌≤◌, List, [], ◌∷◌, length, Some, None, codes, Option, MatchOption, slice_get}
use Rattle.std.specs.Option.{option_map}
use Rattle.protocol.specs.declared.command.Command.{Command}
use Rattle.protocol.specs.declared.command.Command.TheVariants as command
use Rattle.protocol.specs.declared.command.Start.{Start}
use Rattle.protocol.specs.declared.command.Start.TheVariants as start
use Rattle.protocol.specs.declared.command.Entry.{Entry}
use Rattle.protocol.specs.declared.command.Entry.TheVariants as entry
use Rattle.protocol.specs.declared.command.Call.{Call}
use Rattle.protocol.specs.declared.command.Call.TheVariants as call
use Rattle.protocol.specs.Numbers.{number_of}
use Rattle.protocol.specs.Words.{kind_of, Says, SaysPlain}

-- there is a word, and this holds of it
abbrev Is : Option (List ℕ) → (List ℕ → Type 0) → Type 0
Is word P = MatchOption word ⊥ P

-- the result has this property, or nothing has it
abbrev pub Tells : {X : Type 0} → Option X → (X → Type 0) → Type 0
Tells {X} result P = MatchOption result ((x : X) → P x → ⊥) P

-- a name, and the words that may follow it, say a command: one that starts over
abbrev pub MeansStart : List ℕ → List ℕ → Option (List ℕ) → Start → Type 0
MeansStart name first second start.Card = (name ≡ codes "scheme") × (first ≡ codes "card") × (second ≡ None)
MeansStart name first second (start.File p) = (name ≡ codes "scheme") × (first ≡ codes "file") × (second ≡ Some p.now)
MeansStart name first second (start.Cells n) = (name ≡ codes "cells") × (number_of first ≡ Some n) × (second ≡ None)
MeansStart name first second (start.List n p) = (name ≡ codes "list") × (number_of first ≡ Some n) × Is second (λ w. number_of w ≡ Some p)

-- one of a set-up
abbrev pub MeansEntry : List ℕ → Option (List ℕ) → Option (List ℕ) → Entry → Type 0
MeansEntry name first second (entry.Enter k) = (name ≡ codes "enter") × Is first (λ w. kind_of w ≡ Some k) × (second ≡ None)
MeansEntry name first second (entry.Place a t) = (name ≡ codes "place") × Is first (λ w. number_of w ≡ Some a) × Is second (λ w. Says w t)
MeansEntry name first second entry.Open = (name ≡ codes "open") × (first ≡ None) × (second ≡ None)

-- one of an open register
abbrev pub MeansCall : List ℕ → List ℕ → Option (List ℕ) → Option (List ℕ) → Call → Type 0
MeansCall name first second third (call.Copy a b t) = (name ≡ codes "copy") × (number_of first ≡ Some a) × Is second (λ w. number_of w ≡ Some b) × Is third (λ w. Says w t)
MeansCall name first second third (call.Demand b t) = (name ≡ codes "demand") × (number_of first ≡ Some b) × Is second (λ w. Says w t) × (third ≡ None)
MeansCall name first second third (call.Create k a b) = (name ≡ codes "create") × (kind_of first ≡ Some k) × Is second (λ w. number_of w ≡ Some a) × (option_map number_of third ≡ option_map Some b)
MeansCall name first second third (call.Drop a t) = (name ≡ codes "drop") × (number_of first ≡ Some a) × Is second (λ w. SaysPlain w t) × (third ≡ None)
MeansCall name first second third (call.Retire y) = (name ≡ codes "retire") × (number_of first ≡ Some y) × (second ≡ None) × (third ≡ None)
MeansCall name first second third (call.Ask a t) = (name ≡ codes "ask") × (number_of first ≡ Some a) × Is second (λ w. Says w t) × (third ≡ None)

-- any command
abbrev pub Means : List ℕ → Option (List ℕ) → Option (List ℕ) → Option (List ℕ) → Command → Type 0
Means name first second third (command.Start s) = Is first (λ w. MeansStart name w second s) × (third ≡ None)
Means name first second third (command.Entry e) = MeansEntry name first second e × (third ≡ None)
Means name first second third (command.Call c) = Is first (λ w. MeansCall name w second third c)
Means name first second third command.Show = (name ≡ codes "show") × (first ≡ None) × (second ≡ None) × (third ≡ None)

-- the words of a line say a command: a name, and at most three words that follow it
abbrev pub WordsSay : List (List ℕ) → Command → Type 0
WordsSay [] c = ⊥
WordsSay (name ∷ words) c = Means name (slice_get words 0) (slice_get words 1) (slice_get words 2) c × (length words ≤ 3)
