-- That a spread and an outlook have at most one answer: the creations are complete within a limit or they pass it, never both; and where
-- there is no circle of creation they end.
use Rattle.std.specs.Prelude.{◌≡◌, ℕ, ◌<◌, ◌⊎◌, length}
use Rattle.model.specs.Refusals.{Answer}
use Rattle.model.specs.Scheme.{Scheme, Monotone, WellFormed}
use Rattle.model.specs.State.{State}
use Rattle.model.specs.Laws.{Sound}
use Rattle.model.specs.Grants.{Exactly}
use Rattle.model.specs.Outlook.{draw, Complete, Exceeds, Circle}
use Rattle.model.specs.Counts.{Counts, Spreads, Outlooks}

-- n turns complete the drawing, or the creations exceed n; never both
pub record EitherWay (S : Scheme) (st : State) (n : ℕ) : Type 0 where
  pub one : Complete S (draw S st n) ⊎ Exceeds S st n
  pub not_both : Complete S (draw S st n) → Exceeds S st n → ⊥

-- with no limit the creations are m: m turns take a choice each, and then none is left
pub record Makes (S : Scheme) (st : State) (m : ℕ) : Type 0 where
  pub all : length (draw S st m).made ≡ m
  pub complete : Complete S (draw S st m)

-- the law: of every scheme and state, within every limit it is the one or the other
abbrev pub CompleteOrExceeds : Type 0
CompleteOrExceeds = (S : Scheme) (st : State) (n : ℕ) → EitherWay S st n

-- the law: where the creations are m, they exceed a limit exactly when m does
abbrev pub ExceedsAsMade : Type 0
ExceedsAsMade = (S : Scheme) (st : State) (m n : ℕ) → Makes S st m → Exactly (Exceeds S st n) (n < m)

-- the law: where there is no circle of creation, the creations from a sound register end
abbrev pub CreationsEnd : Type 0
CreationsEnd = (S : Scheme) → WellFormed S → (Circle S → ⊥) → (st : State) → Sound S st → (m : ℕ) × Makes S st m

-- the laws: any two spreads of one scheme and state into as many rows answer the same and leave the same, and so any two outlooks
abbrev pub OneSpread : Type 0
OneSpread = (S : Scheme) → Monotone S → (st : State) (w : ℕ) (a b : Answer Counts) (y z : State)
    → Spreads S st w a y → Spreads S st w b z → (a ≡ b) × (y ≡ z)

abbrev pub OneOutlook : Type 0
OneOutlook = (S : Scheme) → Monotone S → (st : State) (w : ℕ) (a b : Answer Counts) (y z : State)
    → Outlooks S st w a y → Outlooks S st w b z → (a ≡ b) × (y ≡ z)
