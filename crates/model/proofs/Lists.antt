-- What stands in a list, in lists joined, of images, of the items that pass and of pairs; and lists without repetition.
use Rattle.std.proofs.Common.{◌≡◌, ℕ, zero, suc, ◌*◌, ◌<◌, ◌≤◌, Bool, true, false, cond, ◌⊎◌, List, [], ◌∷◌, ◌++◌, map, length, filter, sym, refl, ap, ◌∙◌, subst, inl, inr, suc-mul, arith}
use Rattle.std.proofs.lemmas.List.{length-append, length-map, length_push}
use Rattle.std.proofs.lemmas.Bool.{cases_eq, cond-true, cond_both}
use Rattle.model.specs.Calls.{upto}

abbrev pub In : {A : Type 0} → A → List A → Type 0
In x [] = ⊥
In x (y ∷ ys) = (y ≡ x) ⊎ In x ys

pub in_left : {A : Type 0} (x : A) (ys zs : List A) → In x ys → In x (ys ++ zs)
in_left x [] zs h = absurd h
in_left x (y ∷ ys) zs (inl e) = inl e
in_left x (y ∷ ys) zs (inr h) = inr (in_left x ys zs h)

pub in_right : {A : Type 0} (x : A) (ys zs : List A) → In x zs → In x (ys ++ zs)
in_right x [] zs h = h
in_right x (y ∷ ys) zs h = inr (in_right x ys zs h)

-- what stands in two lists joined stands in one of them
pub in_append : {A : Type 0} (x : A) (ys zs : List A) → In x (ys ++ zs) → In x ys ⊎ In x zs
in_append x [] zs h = inr h
in_append x (y ∷ ys) zs (inl e) = inl (inl e)
in_append x (y ∷ ys) zs (inr h) = elim (in_append x ys zs h) [ inl k ↦ inl (inr k) | inr k ↦ inr k ]

-- what stands in a list of images
pub in_map : {A B : Type 0} (f : A → B) (xs : List A) (x : A) → In x xs → In (f x) (map f xs)
in_map f [] x h = absurd h
in_map f (y ∷ ys) x (inl e) = inl (ap f e)
in_map f (y ∷ ys) x (inr h) = inr (in_map f ys x h)

pub map_in : {A B : Type 0} (f : A → B) (xs : List A) (y : B) → In y (map f xs) → (x : A) × In x xs × (f x ≡ y)
map_in f [] y h = absurd h
map_in f (x ∷ xs) y (inl e) = (x, inl refl, e)
map_in f (x ∷ xs) y (inr h) = let r = map_in f xs y h in (r.0, inr r.1, r.2)

-- what stands among the items that pass
pub in_kept : {A : Type 0} (p : A → Bool) (xs : List A) (x : A) → In x xs → p x ≡ true → In x (filter p xs)
in_kept p [] x h t = absurd h
in_kept p (y ∷ ys) x (inl e) t = subst (In x) (sym (cond-true (p y) (y ∷ filter p ys) (filter p ys) (subst (λ z. p z ≡ true) (sym e) t))) (inl e)
in_kept p (y ∷ ys) x (inr h) t =
    cond_both (p y) (y ∷ filter p ys) (filter p ys) (In x) (λ _. inr (in_kept p ys x h t)) (λ _. in_kept p ys x h t)

pub kept_in : {A : Type 0} (p : A → Bool) (xs : List A) (x : A) → In x (filter p xs) → In x xs × (p x ≡ true)
kept_in p [] x h = absurd h
kept_in p (y ∷ ys) x h = go (p y) refl h (kept_in p ys x)
  where
    go : (b : Bool) → p y ≡ b → In x (cond b (y ∷ filter p ys) (filter p ys)) → (In x (filter p ys) → In x ys × (p x ≡ true)) → In x (y ∷ ys) × (p x ≡ true)
    go true e (inl q) ih = (inl q, subst (λ z. p z ≡ true) q e)
    go true e (inr q) ih = let r = ih q in (inr r.0, r.1)
    go false e q ih = let r = ih q in (inr r.0, r.1)

-- where all pass, all are kept
pub kept_all : {A : Type 0} (p : A → Bool) (xs : List A) → ((x : A) → In x xs → p x ≡ true) → length (filter p xs) ≡ length xs
kept_all p [] f = refl
kept_all p (x ∷ xs) f = ap length (cond-true (p x) (x ∷ filter p xs) (filter p xs) (f x (inl refl))) ∙ ap suc (kept_all p xs (λ y i. f y (inr i)))

-- every pair of an item of one list and an item of another
abbrev beside : {A B : Type 0} → A → List B → List (A × B)
beside a bs = map (λ b. (a, b)) bs

abbrev pub pairs : {A B : Type 0} → List A → List B → List (A × B)
pairs [] bs = []
pairs (a ∷ others) bs = beside a bs ++ pairs others bs

pub in_pairs : {A B : Type 0} (xs : List A) (ys : List B) (x : A) (y : B) → In x xs → In y ys → In (x, y) (pairs xs ys)
in_pairs [] ys x y i k = absurd i
in_pairs {A} {B} (z ∷ xs) ys x y (inl e) k =
    let p : A × B = (x, y) in
    in_left p (beside z ys) (pairs xs ys) (subst (λ v. In p (beside v ys)) (sym e) (in_map (λ b. (x, b)) ys y k))
in_pairs {A} {B} (z ∷ xs) ys x y (inr i) k = in_right (x, y) (beside z ys) (pairs xs ys) (in_pairs xs ys x y i k)

pub length_pairs : {A B : Type 0} (xs : List A) (ys : List B) → length (pairs xs ys) ≡ length xs * length ys
length_pairs [] ys = omega arith
length_pairs {A} {B} (x ∷ xs) ys =
    let e : length (beside x ys) ≡ length ys = length-map {B = A × B} ys (λ b. (x, b)) in
    omega (arith, length-append (beside x ys) (pairs xs ys), length_pairs xs ys, suc-mul (length xs) (length ys))

-- the numbers below n
pub in_upto : (n i : ℕ) → i < n → In i (upto n)
in_upto zero i l = absurd (omega arith)
in_upto (suc n) i l = elim (cases_eq n i) [ inl e ↦ in_right i (upto n) (n ∷ []) (inl e) | inr e ↦ in_left i (upto n) (n ∷ []) (in_upto n i (omega arith)) ]

pub length_upto : (n : ℕ) → length (upto n) ≡ n
length_upto zero = refl
length_upto (suc n) = omega (arith, length_push (upto n) n, length_upto n)

-- a list without repetition
abbrev pub Distinct : {A : Type 0} → List A → Type 0
Distinct [] = Unit {0}
Distinct (x ∷ xs) = (In x xs → ⊥) × Distinct xs

pub distinct_push : {A : Type 0} (xs : List A) (x : A) → Distinct xs → (In x xs → ⊥) → Distinct (xs ++ x ∷ [])
distinct_push [] x d n = (λ i. i, tt)
distinct_push (y ∷ ys) x d n =
    (λ i. elim (in_append y ys (x ∷ []) i) [ inl k ↦ d.0 k | inr k ↦ elim k [ inl e ↦ n (inl (sym e)) | inr z ↦ z ] ], distinct_push ys x d.1 (λ i. n (inr i)))

-- images of the items that pass
pub distinct_kept : {A B : Type 0} (f : A → B) (p : A → Bool) (xs : List A) → Distinct (map f xs) → Distinct (map f (filter p xs))
distinct_kept f p [] d = tt
distinct_kept f p (x ∷ xs) d =
    cond_both (p x) (x ∷ filter p xs) (filter p xs) (λ l. Distinct (map f l))
    (λ _. (λ i. let y = map_in f (filter p xs) (f x) i in d.0 (subst (λ z. In z (map f xs)) y.2 (in_map f xs y.0 (kept_in p xs y.0 y.1).0)), distinct_kept f p xs d.1))
    (λ _. distinct_kept f p xs d.1)

-- it is no longer than a list that has all of its items
one_less : {A : Type 0} (x : A) (ys : List A) → In x ys → (zs : List A) × (length ys ≡ suc (length zs)) × ((z : A) → In z ys → (x ≡ z → ⊥) → In z zs)
one_less x [] i = absurd i
one_less x (y ∷ ys) (inl e) = (ys, refl, λ z k n. elim k [ inl q ↦ absurd (n (sym e ∙ q)) | inr q ↦ q ])
one_less x (y ∷ ys) (inr i) =
    let r = one_less x ys i in
    (y ∷ r.0, ap suc r.1, λ z k n. elim k [ inl q ↦ inl q | inr q ↦ inr (r.2 z q n) ])

pub no_longer : {A : Type 0} (xs ys : List A) → Distinct xs → ((x : A) → In x xs → In x ys) → length xs ≤ length ys
no_longer [] ys d f = omega arith
no_longer (x ∷ xs) ys d f =
    let r = one_less x ys (f x (inl refl)) in
    omega (arith, r.1, no_longer xs r.0 d.1 (λ z i. r.2 z (f z (inr i)) (λ e. d.0 (subst (λ v. In v xs) (sym e) i))))
