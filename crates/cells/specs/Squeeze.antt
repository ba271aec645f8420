-- Taking a row and a column out of the cells.
use Rattle.std.specs.Prelude.{◌≡◌, ℕ, ◌+◌, ◌*◌, ◌/◌, ◌%◌, ◌<◌, ◌≤◌, cond, ◌&&◌, List, nat_lt, slice_index}
use Rattle.holdings.specs.Rows.{past}

-- what row i and column j hold once row r and column r are taken out of the first count: the rest is 0
abbrev pub squeezed : List ℕ → ℕ → ℕ → ℕ → ℕ → ℕ → ℕ
squeezed old n r count i j = cond (nat_lt (i + 1) count && nat_lt (j + 1) count) (slice_index old (past r i * n + past r j)) 0

-- the cells before k have been squeezed, and the others have not
pub record Squeezed (old cells : List ℕ) (n r count k : ℕ) : Type 0 where
  pub moved : (c : ℕ) → c < k → slice_index cells c ≡ squeezed old n r count (c / n) (c % n)
  pub still : (c : ℕ) → k ≤ c → slice_index cells c ≡ slice_index old c
