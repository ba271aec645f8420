-- The list of entities: numbers rise, and what a push and a removal leave.
use Rattle.std.proofs.Common.{◌≡◌, ℕ, suc, ◌<◌, ◌≤◌, Bool, true, false, cond, ◌&&◌, eqb, ◌⊎◌, List, [], ◌∷◌, ◌++◌, map, length, is_some, Some, None, Option, sym, refl, ap, ◌∙◌, subst, inl, inr, arith}
use Rattle.std.proofs.lemmas.Bool.{eqb-true, eqb-false, eq-eqb, ne_eqb, cases_Bool, both_ways, and_parts, cond-true, cond-false, cond_both}
use Rattle.std.proofs.lemmas.Bool.Decides.{nat_tests}
use Rattle.model.specs.declared.tickets.Entity.{Entity}
use Rattle.model.specs.State.{kind_in, remove}
use Rattle.model.specs.Laws.{Rising}
use Rattle.model.proofs.Lists.{In}

-- what a test of an option tells
pub some_inside : {A : Type 0} (o : Option A) → is_some o ≡ true → (a : A) × (o ≡ Some a)
some_inside (Some a) h = (a, refl)
some_inside None h = absurd (both_ways false refl h)

pub none_inside : {A : Type 0} (o : Option A) → is_some o ≡ false → o ≡ None
none_inside (Some a) h = absurd (both_ways true h refl)
none_inside None h = refl

pub Some≢None : {A : Type 0} (o : Option A) (a : A) → o ≡ Some a → o ≡ None → ⊥
Some≢None o a p q = let z : ◌≡◌ {A = ℕ} 0 1 = cc in omega arith

pub same_inside : {A : Type 0} (o : Option A) (a b : A) → o ≡ Some a → o ≡ Some b → a ≡ b
same_inside o a b p q = cc

abbrev pub or_else : Option ℕ → Option ℕ → Option ℕ
or_else (Some k) o = Some k
or_else None o = o

-- the kind of e after a push: the old one where e stood, the new one where it is the pushed, else none
pub push_kind : (es : List Entity) (f : Entity) (e : ℕ) → kind_in (es ++ f ∷ []) e ≡ or_else (kind_in es e) (cond (eqb f.number e) (Some f.kind) None)
push_kind [] f e = refl
push_kind (g ∷ es) f e = elim (cases_Bool (eqb g.number e)) [ inl h ↦ rw h refl | inr h ↦ rw h (push_kind es f e) ]

pub push_old : (es : List Entity) (f : Entity) (e k : ℕ) → kind_in es e ≡ Some k → kind_in (es ++ f ∷ []) e ≡ Some k
push_old es f e k h = push_kind es f e ∙ ap (λ (o : Option ℕ). or_else o (cond (eqb f.number e) (Some f.kind) None)) h

pub push_new : (es : List Entity) (f : Entity) → kind_in es f.number ≡ None → kind_in (es ++ f ∷ []) f.number ≡ Some f.kind
push_new es f h = push_kind es f f.number
    ∙ ap (λ (o : Option ℕ). or_else o (cond (eqb f.number f.number) (Some f.kind) None)) h
    ∙ cond-true (eqb f.number f.number) (Some f.kind) None (eq-eqb f.number f.number refl)

push_from : (o : Option ℕ) (f : Entity) (e k : ℕ) → or_else o (cond (eqb f.number e) (Some f.kind) None) ≡ Some k → (o ≡ Some k) ⊎ ((f.number ≡ e) × (f.kind ≡ k))
push_from (Some j) f e k h = inl h
push_from None f e k h = elim (cases_Bool (eqb f.number e)) [
  | inl t ↦ inr (eqb-true f.number e t, same_inside (cond (eqb f.number e) (Some f.kind) None) f.kind k (cond-true (eqb f.number e) (Some f.kind) None t) h)
  | inr t ↦ inl (sym (cond-false (eqb f.number e) (Some f.kind) None t) ∙ h)
]

pub push_cases : (es : List Entity) (f : Entity) (e k : ℕ) → kind_in (es ++ f ∷ []) e ≡ Some k → (kind_in es e ≡ Some k) ⊎ ((f.number ≡ e) × (f.kind ≡ k))
push_cases es f e k h = push_from (kind_in es e) f e k (sym (push_kind es f e) ∙ h)

pub kind_removed : (es : List Entity) (y e : ℕ) → kind_in (remove es y) e ≡ cond (eqb y e) None (kind_in es e)
kind_removed [] y e = cond_both (eqb y e) None None (λ o. None ≡ o) (λ _. refl) (λ _. refl)
kind_removed (f ∷ es) y e =
    let i : kind_in (remove es y) e ≡ cond (eqb y e) None (kind_in es e) = kind_removed es y e in
    grind (arith, nat_tests)

pub removed_kind : (es : List Entity) (y e k : ℕ) → kind_in (remove es y) e ≡ Some k → kind_in es e ≡ Some k
removed_kind es y e k h = elim (cases_Bool (eqb y e)) [
  | inl t ↦ let n : None ≡ Some k = sym (kind_removed es y e ∙ cond-true (eqb y e) None (kind_in es e) t) ∙ h in
      let z : ◌≡◌ {A = ℕ} 0 1 = cc in absurd (omega arith)
  | inr t ↦ sym (kind_removed es y e ∙ cond-false (eqb y e) None (kind_in es e) t) ∙ h
]

pub still_kind : (es : List Entity) (y e : ℕ) → eqb e y ≡ false → kind_in (remove es y) e ≡ kind_in es e
still_kind es y e h = kind_removed es y e ∙ cond-false (eqb y e) None (kind_in es e) (ne_eqb y e (λ q. eqb-false e y h (sym q)))

pub rising_end : (low : ℕ) (es : List Entity) (n : ℕ) → Rising low es n → low ≤ n
rising_end low [] n h = h
rising_end low (e ∷ es) n h = omega (arith, rising_end (suc e.number) es n h.1)

pub rising_push : (low : ℕ) (es : List Entity) (n k : ℕ) → Rising low es n → Rising low (es ++ record { number = n; kind = k } ∷ []) (suc n)
rising_push low [] n k h = (h, omega arith)
rising_push low (e ∷ es) n k h = (h.0, rising_push (suc e.number) es n k h.1)

pub rising_lower : (low low' : ℕ) (es : List Entity) (n : ℕ) → low' ≤ low → Rising low es n → Rising low' es n
rising_lower low low' [] n l h = omega arith
rising_lower low low' (e ∷ es) n l h = (omega arith, h.1)

pub rising_remove : (low : ℕ) (es : List Entity) (n y : ℕ) → Rising low es n → Rising low (remove es y) n
rising_remove low [] n y h = h
rising_remove low (e ∷ es) n y h =
    let r : Rising (suc e.number) (remove es y) n = rising_remove (suc e.number) es n y h.1 in
    cond_both (eqb e.number y) (remove es y) (e ∷ remove es y) (λ l. Rising low l n)
    (λ _. rising_lower (suc e.number) low (remove es y) n (omega arith) r)
    (λ _. (h.0, r))

-- who stands has a number that was given
pub rising_stands : (low : ℕ) (es : List Entity) (n : ℕ) → Rising low es n → (e k : ℕ) → kind_in es e ≡ Some k → (low ≤ e) × (e < n)
rising_stands low [] n h e k s = let z : ◌≡◌ {A = ℕ} 0 1 = cc in omega arith
rising_stands low (f ∷ es) n h e k s = elim (cases_Bool (eqb f.number e)) [
  | inl t ↦ omega (arith, eqb-true f.number e t, rising_end (suc f.number) es n h.1)
  | inr t ↦ omega (arith, rising_stands (suc f.number) es n h.1 e k (sym (cond-false (eqb f.number e) (Some f.kind) (kind_in es e) t) ∙ s))
]

-- the next number is nobody's
pub free : (es : List Entity) (n : ℕ) → Rising 1 es n → kind_in es n ≡ None
free es n r = elim (cases_Bool (is_some (kind_in es n))) [
  | inl h ↦ let k = some_inside (kind_in es n) h in absurd (omega (arith, rising_stands 1 es n r n k.0 k.1))
  | inr h ↦ none_inside (kind_in es n) h
]

-- who stands, stands below the next number
pub stands_below : (es : List Entity) (n : ℕ) → Rising 1 es n → (e : ℕ) → is_some (kind_in es e) ≡ true → e < n
stands_below es n r e h = let q = some_inside (kind_in es e) h in (rising_stands 1 es n r e q.0 q.1).1

-- who stood stands after a push, with the same kind
pub pushed_kind : (es : List Entity) (f : Entity) (e : ℕ) → is_some (kind_in es e) ≡ true → kind_in (es ++ f ∷ []) e ≡ kind_in es e
pushed_kind es f e h = let j = some_inside (kind_in es e) h in push_old es f e j.0 j.1 ∙ sym j.1

-- every entity's number passes a test: then whoever stands passes it
abbrev pub each_passes : (ℕ → Bool) → List Entity → Bool
each_passes p [] = true
each_passes p (f ∷ fs) = p f.number && each_passes p fs

pub stands_passes : (p : ℕ → Bool) (es : List Entity) → each_passes p es ≡ true → (e : ℕ) → is_some (kind_in es e) ≡ true → p e ≡ true
stands_passes p [] t e h = absurd (both_ways false refl h)
stands_passes p (f ∷ es) t e h =
    let b = and_parts (p f.number) (each_passes p es) t in
    elim (cases_Bool (eqb f.number e)) [
      | inl q ↦ subst (λ (n : ℕ). p n ≡ true) (eqb-true f.number e q) b.0
      | inr q ↦ stands_passes p es b.1 e (sym (ap is_some (cond-false (eqb f.number e) (Some f.kind) (kind_in es e) q)) ∙ h)
    ]

-- who stands after a push and after a removal
pub push_stands : (es : List Entity) (next k n : ℕ) → is_some (kind_in (es ++ record { number = next; kind = k } ∷ []) n) ≡ cond (eqb next n) true (is_some (kind_in es n))
push_stands es next k n = ap is_some (push_kind es (record { number = next; kind = k }) n) ∙ either (kind_in es n) (eqb next n)
  where
    either : (o : Option ℕ) (t : Bool) → is_some (or_else o (cond t (Some k) None)) ≡ cond t true (is_some o)
    either (Some j) true = refl
    either (Some j) false = refl
    either None true = refl
    either None false = refl

pub remove_stands : (es : List Entity) (y n : ℕ) → is_some (kind_in (remove es y) n) ≡ cond (eqb y n) false (is_some (kind_in es n))
remove_stands es y n =
    ap is_some (kind_removed es y n) ∙ cond_both (eqb y n) None (kind_in es n) (λ o. is_some o ≡ cond (eqb y n) false (is_some (kind_in es n)))
    (λ t. sym (cond-true (eqb y n) false (is_some (kind_in es n)) t)) (λ t. sym (cond-false (eqb y n) false (is_some (kind_in es n)) t))

-- a removal lengthens nothing
pub length_removed : (es : List Entity) (e : ℕ) → length (remove es e) ≤ length es
length_removed [] e = omega arith
length_removed (f ∷ es) e =
    cond_both (eqb f.number e) (remove es e) (f ∷ remove es e) (λ (l : List Entity). length l ≤ length (f ∷ es))
    (λ _. omega (arith, length_removed es e)) (λ _. omega (arith, length_removed es e))

-- who stands has a number of the list
pub in_numbers : (es : List Entity) (e k : ℕ) → kind_in es e ≡ Some k → In e (map (λ z. z.number) es)
in_numbers [] e k i = absurd (Some≢None None k i refl)
in_numbers (z ∷ es) e k i = elim (cases_Bool (eqb z.number e)) [
  | inl t ↦ inl (eqb-true z.number e t)
  | inr t ↦ inr (in_numbers es e k (sym (cond-false (eqb z.number e) (Some z.kind) (kind_in es e) t) ∙ i))
]
