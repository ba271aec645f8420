-- Counting filled pairs place by place.
use Rattle.std.proofs.Common.{◌≡◌, ℕ, suc, ◌+◌, ◌*◌, ◌<◌, ◌≤◌, List, [], ◌∷◌, ◌++◌, length, get_or, take, Some, None, ap, ◌∙◌, arith}
use Rattle.std.specs.List.{slice_get}
use Rattle.std.proofs.lemmas.Nat.{mul-le}
use Rattle.std.proofs.lemmas.List.{take_more, length-take-le}
use Rattle.std.proofs.lemmas.Option.{slice_get-get_or}
use Rattle.model.specs.declared.tickets.Entity.{Entity}
use Rattle.model.specs.State.{State, Table, count_targets, count_pairs, takes}
use Rattle.model.specs.Laws.{Rising, Orderly}
use Rattle.model.proofs.Entities.{same_inside, Some≢None}
use Rattle.model.proofs.Filling.{targets_le, targets_push, pairs_le, pairs_push}
use Rattle.holdings.proofs.Places.{blank}

-- there is an entity at every place before the last
pub not_past : (es : List Entity) (i : ℕ) → i < length es → slice_get es i ≡ None → ⊥
not_past es i l e = Some≢None (slice_get es i) (get_or es i blank) (slice_get-get_or es i blank l) e

module _ (es : List Entity) (i : ℕ) (e : Entity) (l : i < length es) (at : slice_get es i ≡ Some e) where
  taken : take (i + 1) es ≡ take i es ++ e ∷ []
  taken = take_more es i blank l ∙ ap (λ (f : Entity). take i es ++ f ∷ []) (same_inside (slice_get es i) (get_or es i blank) e (slice_get-get_or es i blank l) at)

  pub targets_more : (t : Table) (h : ℕ) → count_targets t h (take (i + 1) es) ≡ count_targets t h (take i es) + takes (t h e.number)
  targets_more t h = ap (count_targets t h) taken ∙ targets_push t h (take i es) e

  pub pairs_more : (t : Table) → count_pairs t (take (i + 1) es) es ≡ count_pairs t (take i es) es + count_targets t e.number es
  pairs_more t = ap (λ (hs : List Entity). count_pairs t hs es) taken ∙ pairs_push t (take i es) es e

-- numbers that rise are at least as many as the entities
rising_length : (low n : ℕ) (es : List Entity) → Rising low es n → length es + low ≤ n
rising_length low n [] r = omega arith
rising_length low n (e ∷ es) r = omega (arith, rising_length (suc e.number) n es r.1)

-- counts stay small: there are less than a million entities
module _ (st : State) (o : Orderly st) where
  few : length st.entities ≤ 999999
  few = omega (arith, rising_length 1 st.next st.entities o.rising, o.numbers)

  pub few_targets : (h : ℕ) (i : ℕ) → i ≤ length st.entities → count_targets st.tickets h (take i st.entities) ≤ 999999
  few_targets h i l = omega (arith, few, targets_le st.tickets h (take i st.entities), length-take-le i st.entities l)

  pub few_pairs : (i : ℕ) → i ≤ length st.entities → count_pairs st.tickets (take i st.entities) st.entities ≤ 999999 * 999999
  few_pairs i l =
      let n : length (take i st.entities) ≤ 999999 = omega (arith, few, length-take-le i st.entities l) in
      omega (arith, pairs_le st.tickets (take i st.entities) st.entities, mul-le (length (take i st.entities)) (length st.entities) 999999 999999 n few)
