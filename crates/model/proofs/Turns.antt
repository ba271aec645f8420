-- Turn after turn: a drawing is complete or takes a choice every turn, and once it is complete it stays as it is.
use Rattle.std.proofs.Common.{◌≡◌, ℕ, zero, suc, ◌+◌, ◌-◌, ◌<◌, ◌≤◌, ◌⊎◌, length, Some, None, Option, sym, refl, ap, ◌∙◌, inl, inr, arith}
use Rattle.std.proofs.lemmas.List.{length_push}
use Rattle.std.proofs.lemmas.Bool.{cases_lt}
use Rattle.model.specs.Scheme.{Scheme}
use Rattle.model.specs.State.{State}
use Rattle.model.specs.Grants.{Exactly}
use Rattle.model.specs.Outlook.{Choice, Drawing, take, next_choice, draw, Complete, Exceeds}
use Rattle.model.specs.Determinacy.{EitherWay, Makes}
use Rattle.model.proofs.Entities.{Some≢None}

-- a turn takes one choice at most, and one where one is left
one_at_most : (S : Scheme) (d : Drawing) (o : Option Choice) → length (take S d o).made ≤ suc (length d.made)
one_at_most S d (Some c) = omega (arith, length_push d.made (record { choice = c; child = d.state.next }))
one_at_most S d None = omega arith

one_taken : (S : Scheme) (d : Drawing) (o : Option Choice) (c : Choice) → o ≡ Some c → length (take S d o).made ≡ suc (length d.made)
one_taken S d (Some b) c e = omega (arith, length_push d.made (record { choice = b; child = d.state.next }))
one_taken S d None c e = absurd (Some≢None None c e refl)

module _ (S : Scheme) (st : State) where
  abbrev size : ℕ → ℕ
  size n = length (draw S st n).made

  pub most : (n : ℕ) → size n ≤ n
  most zero = omega arith
  most (suc n) = omega (arith, most n, one_at_most S (draw S st n) (next_choice S (draw S st n)))

  stopped : (n : ℕ) → Complete S (draw S st n) → draw S st (suc n) ≡ draw S st n
  stopped n e = ap (λ (o : Option Choice). take S (draw S st n) o) e

  -- where a choice is left, every turn took one
  all_taken : (n : ℕ) (c : Choice) → next_choice S (draw S st n) ≡ Some c → size n ≡ n
  all_taken zero c e = refl
  all_taken (suc n) c e = go (next_choice S (draw S st n)) refl (all_taken n)
    where
      go : (o : Option Choice) → next_choice S (draw S st n) ≡ o → ((b : Choice) → next_choice S (draw S st n) ≡ Some b → size n ≡ n) → size (suc n) ≡ suc n
      go (Some b) q ih = one_taken S (draw S st n) (next_choice S (draw S st n)) b q ∙ ap suc (ih b q)
      go None q ih = absurd (Some≢None (next_choice S (draw S st (suc n))) c e (ap (next_choice S) (stopped n q) ∙ q))

  pub either_way : (n : ℕ) → EitherWay S st n
  either_way n = record { one = go (next_choice S (draw S st n)) refl; not_both = never }
    where
      go : (o : Option Choice) → next_choice S (draw S st n) ≡ o → Complete S (draw S st n) ⊎ Exceeds S st n
      go (Some c) e = inr (one_taken S (draw S st n) (next_choice S (draw S st n)) c e ∙ ap suc (all_taken n c e))
      go None e = inl e

      never : Complete S (draw S st n) → Exceeds S st n → ⊥
      never c x = omega (arith, most n, x, ap (λ (d : Drawing). length d.made) (stopped n c))

  -- after a complete drawing nothing more is drawn
  rests : (m j : ℕ) → Complete S (draw S st m) → draw S st (j + m) ≡ draw S st m
  rests m zero c = ap (draw S st) (omega arith)
  rests m (suc j) c = go (rests m j c)
    where
      go : draw S st (j + m) ≡ draw S st m → draw S st (suc j + m) ≡ draw S st m
      go e =
          let q : suc j + m ≡ suc (j + m) = omega arith in
          ap (draw S st) q ∙ (stopped (j + m) (ap (next_choice S) e ∙ c) ∙ e)

  -- j turns more take j choices at most
  slow : (j k : ℕ) → size (j + k) ≤ j + size k
  slow zero k = let e : size (0 + k) ≡ size k = ap size (omega arith) in omega arith
  slow (suc j) k =
      let q : suc j + k ≡ suc (j + k) = omega arith in
      let e : size (suc j + k) ≡ size (suc (j + k)) = ap size q in
      omega (arith, slow j k, one_at_most S (draw S st (j + k)) (next_choice S (draw S st (j + k))))

  pub exceeds_as_made : (m n : ℕ) → Makes S st m → Exactly (Exceeds S st n) (n < m)
  exceeds_as_made m n k = record { only = λ x. elim (cases_lt n m) [ inl l ↦ l | inr l ↦ absurd (over l x) ]; whenever = under }
    where
      over : m ≤ n → Exceeds S st n → ⊥
      over l x =
          let q : suc (n - m) + m ≡ suc n = omega arith in
          let e : draw S st (suc n) ≡ draw S st m = sym (ap (draw S st) q) ∙ rests m (suc (n - m)) k.complete in
          omega (arith, x, ap (λ (d : Drawing). length d.made) e, k.all)

      under : n < m → Exceeds S st n
      under l =
          let q : (m - suc n) + suc n ≡ m = omega arith in
          let e : size ((m - suc n) + suc n) ≡ size m = ap size q in
          omega (arith, slow (m - suc n) (suc n), most (suc n), k.all)

  -- a drawing that is complete after n turns is complete after as many as it took
  pub first_complete : (n : ℕ) → Complete S (draw S st n) → (m : ℕ) × Makes S st m
  first_complete zero c = (0, record { all = refl; complete = c })
  first_complete (suc n) c = elim (either_way n).one [ inl e ↦ first_complete n e | inr x ↦ (suc n, record { all = x; complete = c }) ]
