-- The first number of a list that passes a test: of those below n it is the lowest.
use Rattle.std.proofs.Common.{◌≡◌, ℕ, zero, suc, ◌<◌, Bool, true, false, cond, List, [], ◌∷◌, ◌++◌, is_some, Some, None, Option, sym, refl, ◌∙◌, subst, inl, inr, arith}
use Rattle.std.proofs.lemmas.Bool.{cases_Bool, cases_eq, both_ways, cond-true, cond-false}
use Rattle.model.specs.Calls.{first, upto}
use Rattle.model.proofs.Entities.{or_else, Some≢None, same_inside, none_inside}

module _ (p : ℕ → Bool) where
  abbrev alone : ℕ → Option ℕ
  alone j = cond (p j) (Some j) None

  pub first_push : (is : List ℕ) (j : ℕ) → first p (is ++ j ∷ []) ≡ or_else (first p is) (alone j)
  first_push [] j = refl
  first_push (i ∷ is) j = elim (cases_Bool (p i)) [ inl h ↦ rw h refl | inr h ↦ rw h (first_push is j) ]

  alone_none : (j : ℕ) → alone j ≡ None → p j ≡ false
  alone_none j e = elim (cases_Bool (p j)) [ inl h ↦ absurd (Some≢None (alone j) j (cond-true (p j) (Some j) None h) e) | inr h ↦ h ]

  alone_some : (j i : ℕ) → alone j ≡ Some i → (j ≡ i) × (p j ≡ true)
  alone_some j i e = elim (cases_Bool (p j)) [
    | inl h ↦ (same_inside (alone j) j i (cond-true (p j) (Some j) None h) e, h)
    | inr h ↦ absurd (Some≢None (alone j) i e (cond-false (p j) (Some j) None h))
  ]

  -- where no number is found, none below n passes
  none_below : (n : ℕ) → first p (upto n) ≡ None → (j : ℕ) → j < n → p j ≡ false
  none_below zero e j l = absurd (omega arith)
  none_below (suc n) e j l = go (first p (upto n)) refl (sym (first_push (upto n) n) ∙ e) (none_below n)
    where
      go : (o : Option ℕ) → first p (upto n) ≡ o → or_else o (alone n) ≡ None → (first p (upto n) ≡ None → (i : ℕ) → i < n → p i ≡ false) → p j ≡ false
      go (Some m) q k ih = absurd (Some≢None (Some m) m refl k)
      go None q k ih = elim (cases_eq j n) [ inl s ↦ rw s (alone_none n k) | inr s ↦ ih q j (omega arith) ]

  -- where one below n passes, one is found
  pub found : (n i : ℕ) → i < n → p i ≡ true → is_some (first p (upto n)) ≡ true
  found n i l e = elim (cases_Bool (is_some (first p (upto n)))) [
    | inl h ↦ h
    | inr h ↦ absurd (both_ways (p i) (none_below n (none_inside (first p (upto n)) h) i l) e)
  ]

  -- the one that is found lies below n and passes, and no lower one does
  pub lowest : (n i : ℕ) → first p (upto n) ≡ Some i → (i < n) × (p i ≡ true) × ((j : ℕ) → j < i → p j ≡ false)
  lowest zero i e = absurd (Some≢None None i e refl)
  lowest (suc n) i e = go (first p (upto n)) refl (sym (first_push (upto n) n) ∙ e) (lowest n i)
    where
      go : (o : Option ℕ) → first p (upto n) ≡ o → or_else o (alone n) ≡ Some i
          → (first p (upto n) ≡ Some i → (i < n) × (p i ≡ true) × ((j : ℕ) → j < i → p j ≡ false))
          → (i < suc n) × (p i ≡ true) × ((j : ℕ) → j < i → p j ≡ false)
      go (Some m) q k ih = let r = ih (q ∙ k) in (omega (arith, r.0), r.1, r.2)
      go None q k ih =
          let s = alone_some n i k in
          let same : n ≡ i = s.0 in
          (omega arith, subst (λ (m : ℕ). p m ≡ true) same s.1, λ j l. none_below n q j (omega arith))
