-- The cell of a pair lies within the memory, and belongs to no other pair.
use Rattle.std.proofs.Common.{◌≡◌, ℕ, ◌+◌, ◌*◌, ◌/◌, ◌%◌, ◌<◌, ◌≤◌, true, ◌&&◌, eqb, leb, ◌⊎◌, List, length, is_some, Some, None, Option, sym, refl, ap, ◌∙◌, subst, ap₂, inl, inr, arith}
use Rattle.std.proofs.lemmas.Nat.{mul-add-lt, mul-le, div-mul-add, mod-mul-add}
use Rattle.std.proofs.lemmas.List.{length-take-le}
use Rattle.std.proofs.lemmas.Bool.{and_parts, leb-true, eqb-true}
use Rattle.model.specs.declared.tickets.Entity.{Entity}
use Rattle.model.specs.State.{kind_in}
use Rattle.model.specs.Tickets.{none}
use Rattle.holdings.specs.declared.rows.Rows.{Rows}
use Rattle.holdings.specs.Rows.{size, in_rows, place_of}
use Rattle.holdings.proofs.Places.{place_some, standing_place}
use Rattle.cells.specs.Layout.{fit, Laid, cell_at, cell_of, in_cell}

pub fit_sizes : (n m : ℕ) → fit n m ≡ true → (1 ≤ n) × (n ≤ 512) × (m ≡ n * n)
fit_sizes n m h =
    let p = and_parts (leb 1 n && leb n 512) (eqb m (n * n)) h in
    let q = and_parts (leb 1 n) (leb n 512) p.0 in
    (leb-true 1 n q.0, leb-true n 512 q.1, eqb-true m (n * n) p.1)

-- a cell is of one row and one column
pub same_row : (n i j k l : ℕ) → j < n → l < n → i * n + j ≡ k * n + l → i ≡ k
same_row n i j k l hj hl e = sym (div-mul-add i n j hj) ∙ ap (λ x. x / n) e ∙ div-mul-add k n l hl

pub same_column : (n i j k l : ℕ) → j < n → l < n → i * n + j ≡ k * n + l → j ≡ l
same_column n i j k l hj hl e = sym (mod-mul-add i n j hj) ∙ ap (λ x. x % n) e ∙ mod-mul-add k n l hl

-- the row and the column of a cell
pub from_cell : (n : ℕ) (o p : Option ℕ) (k : ℕ) → cell_at n o p ≡ Some k → (i : ℕ) × (j : ℕ) × (o ≡ Some i) × (p ≡ Some j) × (k ≡ i * n + j)
from_cell n (Some i) (Some j) k h = (i, j, refl, refl, cc)
from_cell n (Some i) None k h = absurd (let z : ◌≡◌ {A = ℕ} 0 1 = cc in omega arith)
from_cell n None p k h = absurd (let z : ◌≡◌ {A = ℕ} 0 1 = cc in omega arith)

some_cell : (n : ℕ) (o p : Option ℕ) → is_some (cell_at n o p) ≡ (is_some o && is_some p)
some_cell n (Some i) (Some j) = refl
some_cell n (Some i) None = refl
some_cell n None p = refl

-- a pair has a cell exactly where both stand
pub standing_cell : (es : List Entity) (n h y : ℕ) → (is_some (kind_in es h) && is_some (kind_in es y)) ≡ is_some (cell_of es n h y)
standing_cell es n h y =
    ap₂ (λ a b. a && b) (standing_place es h) (standing_place es y) ∙ sym (some_cell n (place_of es h) (place_of es y))

-- a pair of which one does not stand holds nothing
pub none_held : (cells : List ℕ) (n : ℕ) (o p : Option ℕ) → (o ≡ None) ⊎ (p ≡ None) → in_cell cells (cell_at n o p) ≡ none
none_held cells n o p (inl e) = ap (λ (x : Option ℕ). in_cell cells (cell_at n x p)) e
none_held cells n (Some i) p (inr e) = ap (λ (x : Option ℕ). in_cell cells (cell_at n (Some i) x)) e
none_held cells n None p (inr e) = refl

-- two that have one place are one
same_place : (es : List Entity) (a b i : ℕ) → place_of es a ≡ Some i → place_of es b ≡ Some i → a ≡ b
same_place es a b i p q = sym (place_some es a i p).1 ∙ (place_some es b i q).1

pub count_is : (rows : Rows) → length (in_rows rows) ≡ rows.count
count_is rows = length-take-le rows.count rows.entities.now rows.order.fits

module _ (rows : Rows) (cells : List ℕ) (laid : Laid rows cells) where
  abbrev es : List Entity
  es = in_rows rows

  abbrev n : ℕ
  n = size rows

  pub sizes : (1 ≤ n) × (n ≤ 512) × (length cells ≡ n * n)
  sizes = fit_sizes n (length cells) laid.fits

  pub few : length es ≤ n
  few = omega (arith, count_is rows, rows.order.fits)

  pub row_within : (a i : ℕ) → place_of es a ≡ Some i → i < n
  row_within a i p = omega (arith, (place_some es a i p).0, few)

  pub cell_within : (i j : ℕ) → i < n → j < n → i * n + j < length cells
  cell_within i j hi hj = omega (arith, mul-add-lt i n j n hi hj, sizes.2)

  pub small : length cells < 1000000
  small = omega (arith, sizes.2, mul-le n n 512 512 sizes.1 sizes.1)

  -- the cell that is reckoned from the places of a holder and a target
  pub found_cell : (h y i j m : ℕ) → m ≡ n → Some i ≡ place_of es h → Some j ≡ place_of es y
      → (Some (i * m + j) ≡ cell_of es n h y) × (i * m + j < length cells)
  found_cell h y i j m e p q = (
    ap (λ (x : ℕ). Some (i * x + j)) e ∙ ap₂ (cell_at n) p q,
    subst (λ (x : ℕ). i * x + j < length cells) (sym e) (cell_within i j (row_within h i (sym p)) (row_within y j (sym q))),
  )

  -- the cell of a pair, with its row and column
  pub pair_cell : (h y k : ℕ) → cell_of es n h y ≡ Some k
      → (i : ℕ) × (j : ℕ) × (place_of es h ≡ Some i) × (place_of es y ≡ Some j) × (k ≡ i * n + j) × (i < n) × (j < n)
  pair_cell h y k e =
      let f = from_cell n (place_of es h) (place_of es y) k e in
      (f.0, f.1, f.2, f.3, f.4, row_within h f.0 f.2, row_within y f.1 f.3)

  pub same_cell : (a b h y k : ℕ) → cell_of es n a b ≡ Some k → cell_of es n h y ≡ Some k → (a ≡ h) × (b ≡ y)
  same_cell a b h y k p q =
      let f = pair_cell a b k p in
      let g = pair_cell h y k q in
      let e : f.0 * n + f.1 ≡ g.0 * n + g.1 = sym f.4 ∙ g.4 in (
        same_place es a h g.0 (f.2 ∙ ap Some (same_row n f.0 f.1 g.0 g.1 f.6 g.6 e)) g.2,
        same_place es b y g.1 (f.3 ∙ ap Some (same_column n f.0 f.1 g.0 g.1 f.6 g.6 e)) g.3,
      )
