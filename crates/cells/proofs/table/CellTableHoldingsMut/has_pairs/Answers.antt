use Rattle.std.proofs.Common.{◌≡◌, ℕ, ◌+◌, ◌*◌, ◌≤◌, length, sym, ap, ◌∙◌, arith}
use Rattle.std.proofs.lemmas.Bool.{le-leb}
use Rattle.holdings.specs.Rows.{size, in_rows, roll}
use Rattle.model.specs.State.{filled}
use Rattle.cells.specs.Layout.{meant}
use Rattle.cells.proofs.Counts.{used_le, filled_le}
use Rattle.cells.proofs.table.CellTableHoldingsMut.has_pairs.Goals as goal
use Rattle.cells.proofs.table.CellTableHoldingsMut.has_pairs.Goals.{After-pairs_of}

-- how many pairs there are, and how many those that stand make
module _ (c : After-pairs_of) where
  all_pairs : c.pairs_of-pairs.result ≡ size c.args.self.now.rows * size c.args.self.now.rows
  all_pairs = c.pairs_of-pairs.ensures ∙ ap (λ (n : ℕ). n * n) c.capacity.ensures

  used_pairs : c.pairs_of.result ≡ length (in_rows c.args.self.now.rows) * length (in_rows c.args.self.now.rows)
  used_pairs = c.pairs_of.ensures ∙ ap (λ (n : ℕ). n * n) c.standing.ensures

  used_within : c.pairs_of.result ≤ c.pairs_of-pairs.result
  used_within = omega (arith, all_pairs, used_pairs, used_le c.args.self.now.rows c.args.self.now.cells.now c.args.self.now.laid)

  filled_within : filled (meant (roll c.args.self.now.rows) (size c.args.self.now.rows) c.args.self.now.cells.now) ≤ c.pairs_of.result
  filled_within = omega (arith, used_pairs, filled_le c.args.self.now.rows c.args.self.now.cells.now c.args.self.now.laid)

pub overflow_sub-result : goal.overflow_sub-result
overflow_sub-result c = omega (arith, c.filled_pairs.ensures.value, used_within (goal.at.overflow_sub-result c).After-pairs_of, filled_within (goal.at.overflow_sub-result c).After-pairs_of)

pub returns-then-more-pairs-clause-answer : goal.returns-then-more-pairs-clause-answer
returns-then-more-pairs-clause-answer c =
    let d = (goal.at.returns-then-more-pairs-clause-answer c).After-pairs_of in
    le-leb c.args.more _ c.if-more-pairs.true
    ∙ sym (le-leb (filled (meant (roll c.args.self.now.rows) (size c.args.self.now.rows) c.args.self.now.cells.now) + c.args.more)
    (size c.args.self.now.rows * size c.args.self.now.rows) (omega (arith, all_pairs d, used_within d, filled_within d, c.if-more-pairs.true)))
