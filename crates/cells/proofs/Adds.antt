-- What one row more does to the table's meaning: its cells are clear.
use Rattle.std.proofs.Common.{◌≡◌, ℕ, ◌+◌, ◌*◌, ◌<◌, ◌≤◌, cond, eqb, ◌⊎◌, List, [], ◌∷◌, ◌++◌, length, get_or, Some, None, Option, sym, refl, ap, ◌∙◌, subst, ap₂, inl, inr, arith}
use mathlib.Core.Path.{fun_ext}
use Rattle.std.proofs.lemmas.List.{length_push}
use Rattle.std.proofs.lemmas.Bool.{cases_Bool, cond-true, cond-false, eqb-true}
use Rattle.model.specs.declared.tickets.Entity.{Entity}
use Rattle.model.specs.Refusals.{Answer, granted, refused}
use Rattle.model.specs.Tickets.{none}
use Rattle.model.specs.State.{State, added, holding}
use Rattle.model.specs.Calls.{after}
use Rattle.holdings.specs.declared.rows.Rows.{Rows}
use Rattle.holdings.specs.Rows.{size, in_rows, roll, place_of}
use Rattle.holdings.proofs.Places.{place_some, place_push, place_above}
use Rattle.cells.specs.Layout.{Laid, unpack, cell_at, in_cell, held, meant}
use Rattle.cells.proofs.Cells.{count_is, none_held}

-- a cell that is 0 holds nothing, and so does a pair without a cell
clear_cell : (cells : List ℕ) (n : ℕ) (o p : Option ℕ) → ((i j : ℕ) → o ≡ Some i → p ≡ Some j → get_or cells (i * n + j) 0 ≡ 0) → in_cell cells (cell_at n o p) ≡ none
clear_cell cells n (Some i) (Some j) f = ap unpack (f i j refl refl)
clear_cell cells n (Some i) None f = refl
clear_cell cells n None p f = refl

module _ (rows : Rows) (cells : List ℕ) (kind : ℕ) (laid : Laid rows cells) where
  abbrev es : List Entity
  es = in_rows rows

  abbrev n : ℕ
  n = size rows

  abbrev more : List Entity
  more = es ++ record { number = rows.next; kind = kind } ∷ []

  place_more : (a : ℕ) → place_of more a ≡ cond (eqb rows.next a) (Some (length es)) (place_of es a)
  place_more a = place_push es record { number = rows.next; kind = kind } a (place_above 1 rows.next es rows.order.rising)

  -- the new one is at the last place, where its row and its column are clear
  held_more : length more ≤ n → (a b : ℕ) → held more n cells a b ≡ held es n cells a b
  held_more l a b =
      let few : length es < n = omega (arith, length_push es record { number = rows.next; kind = kind }) in
      let count = count_is rows in
      let within : (c i : ℕ) → place_of more c ≡ Some i → i < n = (λ c i e. omega (arith, (place_some more c i e).0)) in
      elim (cases_Bool (eqb rows.next a)) [
        | inl t ↦
            let gone : place_of es a ≡ None = ap (place_of es) (sym (eqb-true rows.next a t)) ∙ place_above 1 rows.next es rows.order.rising in
            let last : place_of more a ≡ Some (length es) = place_more a ∙ cond-true _ _ _ t in
            clear_cell cells n (place_of more a) (place_of more b) (λ i j p q.
            let e : ◌≡◌ {A = Option ℕ} (Some (length es)) (Some i) = sym last ∙ p in
            let z : length es ≡ i = cc in
            laid.clear i j (within a i p) (within b j q) (inl (omega arith)))
            ∙ sym (none_held cells n (place_of es a) (place_of es b) (inl gone))
        | inr f ↦
            let same : place_of more a ≡ place_of es a = place_more a ∙ cond-false _ _ _ f in
            elim (cases_Bool (eqb rows.next b)) [
              | inl t ↦
                  let gone : place_of es b ≡ None = ap (place_of es) (sym (eqb-true rows.next b t)) ∙ place_above 1 rows.next es rows.order.rising in
                  let last : place_of more b ≡ Some (length es) = place_more b ∙ cond-true _ _ _ t in
                  clear_cell cells n (place_of more a) (place_of more b) (λ i j p q.
                  let e : ◌≡◌ {A = Option ℕ} (Some (length es)) (Some j) = sym last ∙ q in
                  let z : length es ≡ j = cc in
                  laid.clear i j (within a i p) (within b j q) (inr (omega arith)))
                  ∙ sym (none_held cells n (place_of es a) (place_of es b) (inr gone))
              | inr g ↦ ap₂ (λ (o p : Option ℕ). in_cell cells (cell_at n o p)) same (place_more b ∙ cond-false _ _ _ g)
            ]
      ]

  -- what the rows answered, and what they then mean
  module _ (left : Rows) (r : Answer ℕ) (kept : size left ≡ n) (state : roll left ≡ after r (added (roll rows) kind) (roll rows)) where
    entities : in_rows left ≡ (after r (added (roll rows) kind) (roll rows)).entities
    entities = ap (λ (s : State). s.entities) state

    fits : length (in_rows left) ≤ n
    fits = omega (arith, count_is left, left.order.fits)

    more_meant : (a : Answer ℕ) → length (after a (added (roll rows) kind) (roll rows)).entities ≤ n
        → meant (after a (added (roll rows) kind) (roll rows)) n cells ≡ after a (added (meant (roll rows) n cells) kind) (meant (roll rows) n cells)
    more_meant (granted v) l = ap (holding (added (roll rows) kind)) (fun_ext (λ a. fun_ext (held_more l a)))
    more_meant (refused v) l = refl

    pub added_state : meant (roll left) (size left) cells ≡ after r (added (meant (roll rows) n cells) kind) (meant (roll rows) n cells)
    added_state = ap₂ (λ (s : State) (m : ℕ). meant s m cells) state kept ∙ more_meant r (subst (λ (l : List Entity). length l ≤ n) entities fits)

    longer : (a : Answer ℕ) → length es ≤ length (after a (added (roll rows) kind) (roll rows)).entities
    longer (granted v) = omega (arith, length_push es record { number = rows.next; kind = kind })
    longer (refused v) = omega arith
