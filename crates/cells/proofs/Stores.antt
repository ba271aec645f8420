-- What a word written into the cell of a pair does to the table's meaning.
use Rattle.std.proofs.Common.{◌≡◌, ℕ, ◌+◌, ◌*◌, ◌<◌, true, ◌&&◌, eqb, List, length, get_or, set, is_some, Some, None, Option, sym, refl, ap, ◌∙◌, subst, ap₂, inl, inr, arith}
use mathlib.Core.Path.{fun_ext}
use Rattle.std.proofs.lemmas.Nat.{mul-le}
use Rattle.std.proofs.lemmas.List.{length-set, get_or-set_same, get_or-set_other, set_past}
use Rattle.std.proofs.lemmas.Bool.{cases_Bool, cases_eq, cases_lt, cond-true, cond-false, eqb-true, eq-eqb, and_parts, and_from, both_ways}
use Rattle.model.specs.declared.tickets.Entity.{Entity}
use Rattle.model.specs.Refusals.{granted, refused}
use Rattle.model.specs.Tickets.{Tickets}
use Rattle.model.specs.State.{State, standing, holding, put, stored}
use Rattle.model.specs.Calls.{store_answer}
use Rattle.holdings.specs.declared.rows.Rows.{Rows}
use Rattle.holdings.specs.Rows.{size, in_rows, roll}
use Rattle.holdings.proofs.Places.{place_some}
use Rattle.cells.specs.Layout.{Laid, Nested, unpack, square, cell_of, in_cell, held, meant}
use Rattle.cells.proofs.Cells.{pair_cell, same_cell, same_row, same_column, standing_cell, count_is, few}
use Rattle.cells.proofs.Counts.{always_stores}

other_cell : (cells : List ℕ) (k w : ℕ) (o : Option ℕ) → (o ≡ Some k → ⊥) → in_cell (set cells k w) o ≡ in_cell cells o
other_cell cells k w (Some m) f = ap unpack (get_or-set_other cells k m w 0 (λ e. f (ap Some e)))
other_cell cells k w None f = refl

module _ (rows : Rows) (cells : List ℕ) (laid : Laid rows cells) (h y : ℕ) (s : Tickets) where
  abbrev es : List Entity
  es = in_rows rows

  abbrev n : ℕ
  n = size rows

  abbrev st : State
  st = meant (roll rows) n cells

  -- a pair without a cell is refused
  pub no_cell : None ≡ cell_of es n h y → refused 1 ≡ store_answer (square n) st h y s
  no_cell e = sym (cond-false _ _ _ (standing_cell es n h y ∙ ap is_some (sym e)))

  module _ (k w : ℕ) (found : Some k ≡ cell_of es n h y) (word : unpack w ≡ s) where
    at : cell_of es n h y ≡ Some k
    at = sym found

    both : (standing st h && standing st y) ≡ true
    both = standing_cell es n h y ∙ ap is_some at

    pub stored_answer : granted tt ≡ store_answer (square n) st h y s
    stored_answer =
        let p = and_parts (standing st h) (standing st y) both in
        let l = few rows cells laid in
        sym (cond-true _ _ _ both ∙ cond-true _ _ _ (always_stores (square n) st h y s (mul-le (length es) (length es) n n l l) p.0 p.1))

    written : k < length cells → (a b : ℕ) → held es n (set cells k w) a b ≡ put (held es n cells) h y s a b
    written l a b = elim (cases_Bool (eqb a h && eqb b y)) [
      | inl t ↦
          let p = and_parts (eqb a h) (eqb b y) t in
          ap (in_cell (set cells k w)) (ap₂ (cell_of es n) (eqb-true a h p.0) (eqb-true b y p.1) ∙ at)
          ∙ ap unpack (get_or-set_same cells k w 0 l) ∙ word ∙ sym (cond-true _ _ _ t)
      | inr f ↦
          let ne : cell_of es n a b ≡ Some k → ⊥ = (λ e.
          let q = same_cell rows cells laid a b h y k e at in
          both_ways (eqb a h && eqb b y) f (and_from _ _ (eq-eqb a h q.0) (eq-eqb b y q.1))) in
          other_cell cells k w (cell_of es n a b) ne ∙ sym (cond-false _ _ _ f)
    ]

    pub stored_state : k < length cells → meant (roll rows) n (set cells k w) ≡ stored st h y s
    stored_state l = ap (holding (roll rows)) (fun_ext (λ a. fun_ext (written l a)))

    pub stored_laid : Nested w → Laid rows (set cells k w)
    stored_laid nw =
        let f = pair_cell rows cells laid h y k at in
        let count = count_is rows in
        let i = (place_some es h f.0 f.2).0 in
        let j = (place_some es y f.1 f.3).0 in
        record {
          fits = rw length-set laid.fits;
          nested = λ m. elim (cases_eq m k) [
            | inl e ↦ elim (cases_lt k (length cells)) [
              | inl l ↦ subst Nested (sym (ap (λ (x : ℕ). get_or (set cells k w) x 0) e ∙ get_or-set_same cells k w 0 l)) nw
              | inr l ↦ subst Nested (sym (ap (λ (c : List ℕ). get_or c m 0) (set_past cells k w l))) (laid.nested m)
            ]
            | inr ne ↦ subst Nested (sym (get_or-set_other cells k m w 0 ne)) (laid.nested m)
          ];
          clear = λ a b ha hb out.
              get_or-set_other cells k (a * n + b) w 0 (λ e.
              let q : a * n + b ≡ f.0 * n + f.1 = e ∙ f.4 in
              let ra = same_row n a b f.0 f.1 hb f.6 q in
              let rb = same_column n a b f.0 f.1 hb f.6 q in
              elim out [ inl o ↦ omega arith | inr o ↦ omega arith ])
              ∙ laid.clear a b ha hb out;
        }
