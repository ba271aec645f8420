-- What a table keeps true makes its meaning orderly.
use Rattle.std.specs.Prelude.{◌≡◌, ℕ, ◌/◌, ◌%◌, Bool, true, false, List, is_some, Some, None, Option, ◌≢◌, slice_index, refl}
use Rattle.std.proofs.Common.{sym, ◌∙◌}
use Rattle.std.proofs.lemmas.Bool.{false≢true}
use Rattle.model.proofs.Bits.{bit_zero, bit_within}
use Rattle.model.specs.Tickets.{has, none}
use Rattle.model.specs.Laws.{Orderly}
use Rattle.holdings.specs.declared.rows.Rows.{Rows}
use Rattle.holdings.specs.Rows.{size, in_rows, roll, place_of}
use Rattle.holdings.proofs.Places.{standing_place}
use Rattle.cells.specs.Layout.{Laid, Nested, cell_at, in_cell, meant}

has_none : (x : ℕ) (c : Bool) → has none x c ≢ true
has_none x true h = false≢true (sym (bit_zero x) ∙ h)
has_none x false h = false≢true (sym (bit_zero x) ∙ h)

-- a ticket is in a cell of a row and a column
of_both : (cells : List ℕ) (n : ℕ) (o p : Option ℕ) (x : ℕ) (c : Bool) → has (in_cell cells (cell_at n o p)) x c ≡ true → (is_some o ≡ true) × (is_some p ≡ true)
of_both cells n (Some i) (Some j) x c h = (refl, refl)
of_both cells n (Some i) None x c h = absurd (has_none x c h)
of_both cells n None p x c h = absurd (has_none x c h)

-- in a nested word every copyable ticket is a plain one
of_nested : (cells : List ℕ) (o : Option ℕ) (x : ℕ) → ((k : ℕ) → Nested (slice_index cells k)) → has (in_cell cells o) x true ≡ true → has (in_cell cells o) x false ≡ true
of_nested cells (Some k) x f h = bit_within (slice_index cells k % 65536) (slice_index cells k / 65536) x (f k) h
of_nested cells None x f h = h

pub laid_orderly : (rows : Rows) (cells : List ℕ) → Laid rows cells → Orderly (meant (roll rows) (size rows) cells)
laid_orderly rows cells laid = record {
  rising = rows.order.rising;
  numbers = rows.order.numbers;
  only_standing = λ h y x c e.
      let b = of_both cells (size rows) (place_of (in_rows rows) h) (place_of (in_rows rows) y) x c e in
      (standing_place (in_rows rows) h ∙ b.0, standing_place (in_rows rows) y ∙ b.1);
  nested = λ h y x e. of_nested cells (cell_at (size rows) (place_of (in_rows rows) h) (place_of (in_rows rows) y)) x laid.nested e;
}
