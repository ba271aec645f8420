-- Going through the links of a scheme, lowest first, until one holds and passes.
use Rattle.std.proofs.Common.{◌≡◌, ℕ, zero, suc, ◌+◌, ◌<◌, ◌≤◌, Bool, true, false, cond, is_some, Some, None, Option, unwrap_or, sym, refl, ap, ◌∙◌, inl, inr, add-one, arith}
use Rattle.std.proofs.lemmas.Bool.{cases_eq, false≢true, cond-true, and_from, and_left, and_right}
use Rattle.model.specs.declared.refusal.Refusal.{Refusal}
use Rattle.model.specs.declared.refusal.Refusal.TheVariants.{NoLink, NotPassed}
use Rattle.model.specs.declared.rules.Sight.{Sight}
use Rattle.model.specs.Refusals.{granted, refused}
use Rattle.model.specs.Tickets.{has}
use Rattle.model.specs.Scheme.{Scheme}
use Rattle.model.specs.Calls.{first, upto}
use Rattle.register.specs.Passing.{lets, lowest_answer}
use Rattle.model.proofs.Entities.{or_else}
use Rattle.model.proofs.Lowest.{first_push}

module _ (p : ℕ → Bool) (n : ℕ) where
  first_suc : first p (upto (n + 1)) ≡ or_else (first p (upto n)) (cond (p n) (Some n) None)
  first_suc = rw add-one (first_push p (upto n) n)

  -- it passes: it is the first where none below did
  pub first_here : first p (upto n) ≡ None → p n ≡ true → first p (upto (n + 1)) ≡ Some n
  first_here e h = first_suc ∙ ap (λ (o : Option ℕ). or_else o (cond (p n) (Some n) None)) e ∙ ap (λ (b : Bool). cond b (Some n) None) h

  -- it does not pass
  pub first_past : p n ≡ false → first p (upto (n + 1)) ≡ first p (upto n)
  first_past h = first_suc ∙ ap (λ (b : Bool). or_else (first p (upto n)) (cond b (Some n) None)) h ∙ last (first p (upto n))
    where
      last : (o : Option ℕ) → or_else o None ≡ o
      last (Some i) = refl
      last None = refl

  -- some number passes as soon as this one does
  pub some_here : p n ≡ true → is_some (first p (upto (n + 1))) ≡ true
  some_here h = ap is_some (first_suc ∙ ap (λ (b : Bool). or_else (first p (upto n)) (cond b (Some n) None)) h) ∙ last (first p (upto n))
    where
      last : (o : Option ℕ) → is_some (or_else o (Some n)) ≡ true
      last (Some i) = refl
      last None = refl

-- the first stays the first among more numbers
pub first_stays : (p : ℕ → Bool) (i m n : ℕ) → m ≤ n → first p (upto m) ≡ Some i → first p (upto n) ≡ Some i
first_stays p i m zero l e = let q : 0 ≡ m = omega arith in ap (λ (k : ℕ). first p (upto k)) q ∙ e
first_stays p i m (suc n) l e =
    elim (cases_eq m (suc n)) [
      | inl q ↦ ap (λ (k : ℕ). first p (upto k)) (sym q) ∙ e
      | inr q ↦ first_push p (upto n) n ∙ ap (λ (o : Option ℕ). or_else o (cond (p n) (Some n) None)) (first_stays p i m n (omega arith) e)
    ]

pub some_stays : (p : ℕ → Bool) (m n : ℕ) → m ≤ n → is_some (first p (upto m)) ≡ true → is_some (first p (upto n)) ≡ true
some_stays p m n l e = go (first p (upto m)) refl e
  where
    go : (o : Option ℕ) → first p (upto m) ≡ o → is_some o ≡ true → is_some (first p (upto n)) ≡ true
    go (Some i) q t = ap is_some (first_stays p i m n l q)
    go None q t = absurd (false≢true t)

-- why no link will do: none that held passed, or none held
abbrev pub reason : Bool → Refusal
reason held = cond held NotPassed NoLink

-- going through the links of a scheme, lowest first
module _ (S : Scheme) (v : Sight) (a b y x : ℕ) (c : Bool) (i : ℕ) where
  abbrev on : ℕ → Bool
  on j = S.link j v

  -- this one holds and passes, and none below did
  pub link_found : i < S.links → first (lets S v a b y x c) (upto i) ≡ None → S.link i v ≡ true → has (S.filter i a b y) x c ≡ true
      → granted i ≡ lowest_answer S v a b y x c
  link_found l e h k =
      let p = lets S v a b y x c in
      let f : first p (upto S.links) ≡ Some i = first_stays p i (i + 1) S.links (omega arith) (first_here p i e (and_from (S.link i v) (has (S.filter i a b y) x c) h k)) in
      sym (cond-true (is_some (first on (upto S.links))) _ (refused 5) (some_stays on (i + 1) S.links (omega arith) (some_here on i h))
      ∙ cond-true (is_some (first p (upto S.links))) _ (refused 6) (ap is_some f) ∙ ap (λ (o : Option ℕ). granted (unwrap_or o 0)) f)

  -- it holds and does not pass
  pub link_passed_over : first (lets S v a b y x c) (upto i) ≡ None → S.link i v ≡ true → has (S.filter i a b y) x c ≡ false
      → (first (lets S v a b y x c) (upto (i + 1)) ≡ None) × (NotPassed ≡ reason (is_some (first on (upto (i + 1)))))
  link_passed_over e h k = (first_past (lets S v a b y x c) i (and_right (S.link i v) (has (S.filter i a b y) x c) k) ∙ e, ap reason (sym (some_here on i h)))

  -- it does not hold
  pub link_off : (refusal : Refusal) → first (lets S v a b y x c) (upto i) ≡ None → refusal ≡ reason (is_some (first on (upto i))) → S.link i v ≡ false
      → (first (lets S v a b y x c) (upto (i + 1)) ≡ None) × (refusal ≡ reason (is_some (first on (upto (i + 1)))))
  link_off refusal e q h = (first_past (lets S v a b y x c) i (and_left (S.link i v) (has (S.filter i a b y) x c) h) ∙ e, q ∙ sym (ap (λ (o : Option ℕ). reason (is_some o)) (first_past on i h)))
