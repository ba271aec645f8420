-- Rows for entities by themselves: the first of them, in number order, are taken by those that stand.
use Rattle.std.specs.Prelude.{ℕ, suc, ◌≤◌, List, [], ◌∷◌, length, take}
use Rattle.std.specs.Coded.{×_prop, le_prop}
use Rattle.model.specs.declared.tickets.Entity.{Entity}
use Rattle.model.specs.State.{last_number}
use Rattle.model.specs.Laws.{Rising}

-- what rows keep true: the first count are taken, and their numbers rise and lie below the next one
pub record Filed (rows : List Entity) (count next : ℕ) : Type 0 where
  pub fits : count ≤ length rows
  pub rising : Rising 1 (take count rows) next
  pub numbers : next ≤ suc last_number

-- there is one way only for numbers to rise
pub Rising-prop : (low : ℕ) (es : List Entity) (n : ℕ) → IsProp (Rising low es n)
Rising-prop low [] n = le_prop
Rising-prop low (e ∷ es) n = ×_prop le_prop (Rising-prop (suc e.number) es n)
