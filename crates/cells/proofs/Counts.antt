-- How many pairs can be filled: never all of them while one is empty.
use Rattle.std.proofs.Common.{◌≡◌, ℕ, suc, ◌+◌, ◌*◌, ◌<◌, ◌≤◌, Bool, true, cond, not, ◌&&◌, eqb, leb, List, [], ◌∷◌, length, is_some, sym, ap, ◌∙◌, subst, inl, inr, suc-mul, arith}
use Rattle.std.proofs.lemmas.Bool.{cases_Bool, eqb-true, false≢true, and_left, and_right, not_from_false, lt-leb}
use Rattle.model.specs.declared.tickets.Entity.{Entity}
use Rattle.model.specs.Tickets.{Tickets, empty}
use Rattle.holdings.specs.declared.rows.Rows.{Rows}
use Rattle.holdings.specs.Rows.{size, in_rows, roll}
use Rattle.cells.specs.Layout.{Laid, held, meant}
use Rattle.cells.proofs.Cells.{count_is}
use Rattle.std.proofs.lemmas.Nat.{mul-le}
use Rattle.model.proofs.Filling.{takes_le, targets_le, pairs_le, behind}
use Rattle.model.specs.State.{State, Table, Room, kind_in, standing, count_targets, count_pairs, filled, stores}

targets_lt : (t : Table) (h a : ℕ) (ys : List Entity) → is_some (kind_in ys a) ≡ true → empty (t h a) ≡ true → count_targets t h ys < length ys
targets_lt t h a [] s z = absurd (false≢true s)
targets_lt t h a (y ∷ ys) s z = elim (cases_Bool (eqb y.number a)) [
  | inl e ↦
      let q : empty (t h y.number) ≡ true = ap (λ (k : ℕ). empty (t h k)) (eqb-true y.number a e) ∙ z in
      subst (λ (b : Bool). cond b 0 1 + count_targets t h ys < suc (length ys)) (sym q) (omega (arith, targets_le t h ys))
  | inr f ↦ omega (arith, takes_le (t h y.number), targets_lt t h a ys (behind y ys a f s) z)
]

pairs_lt : (t : Table) (a b : ℕ) (hs ys : List Entity) → is_some (kind_in hs a) ≡ true → is_some (kind_in ys b) ≡ true → empty (t a b) ≡ true
    → count_pairs t hs ys < length hs * length ys
pairs_lt t a b [] ys s u z = absurd (false≢true s)
pairs_lt t a b (h ∷ hs) ys s u z = elim (cases_Bool (eqb h.number a)) [
  | inl e ↦
      let q : empty (t h.number b) ≡ true = ap (λ (k : ℕ). empty (t k b)) (eqb-true h.number a e) ∙ z in
      omega (arith, targets_lt t h.number b ys u q, pairs_le t hs ys, suc-mul (length hs) (length ys))
  | inr f ↦ omega (arith, targets_le t h.number ys, pairs_lt t a b hs ys (behind h hs a f s) u z, suc-mul (length hs) (length ys))
]

-- with room for every pair there is always one left
pub always_stores : (R : Room) (st : State) (h y : ℕ) (s : Tickets) → length st.entities * length st.entities ≤ R.pairs
    → standing st h ≡ true → standing st y ≡ true → stores R st h y s ≡ true
always_stores R st h y s big sh sy = elim (cases_Bool (empty (st.tickets h y))) [
  | inl z ↦
      let l = pairs_lt st.tickets h y st.entities st.entities sh sy z in
      not_from_false _ (and_right (empty (st.tickets h y) && not (empty s)) _ (lt-leb R.pairs (filled st) (omega arith)))
  | inr f ↦ not_from_false _ (and_left _ (leb R.pairs (filled st)) (and_left _ (not (empty s)) f))
]

-- those that stand make no more pairs than there are, and fill no more than they make
module _ (rows : Rows) (cells : List ℕ) (laid : Laid rows cells) where
  pub used_le : length (in_rows rows) * length (in_rows rows) ≤ size rows * size rows
  used_le =
      let n : length (in_rows rows) ≤ size rows = omega (arith, count_is rows, rows.order.fits) in
      mul-le (length (in_rows rows)) (length (in_rows rows)) (size rows) (size rows) n n

  pub filled_le : filled (meant (roll rows) (size rows) cells) ≤ length (in_rows rows) * length (in_rows rows)
  filled_le = pairs_le (held (in_rows rows) (size rows) cells) (in_rows rows) (in_rows rows)
