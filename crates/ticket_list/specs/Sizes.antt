-- Which sizes of lent memory fit a ticket list.
use Rattle.std.specs.Prelude.{ℕ, Bool, ◌&&◌, [], ◌∷◌, nat_le}
use Rattle.model.specs.declared.refusal.Refusal.TheVariants.{UnfitMemory}
use Rattle.model.specs.Refusals.{Answer}
use Rattle.model.specs.Calls.{check, decide}

-- memory that fits: from 1 to 512 rows, and at most 65,535 places
abbrev pub fit : ℕ → ℕ → Bool
fit rows places = nat_le 1 rows && nat_le rows 512 && nat_le places 65535

abbrev pub fit_answer : ℕ → ℕ → Answer (Unit {0})
fit_answer rows places = decide (check UnfitMemory (fit rows places) ∷ []) tt
