-- Where the entity with a number stands among entities whose numbers rise, and what adding and removing one does to it.
use Rattle.std.proofs.Common.{◌≡◌, ℕ, zero, suc, ◌<◌, ◌≤◌, true, false, cond, eqb, ltb, List, [], ◌∷◌, ◌++◌, length, get_or, is_some, Some, None, Option, sym, refl, ap, ◌∙◌, subst, inl, inr, arith}
use Rattle.std.specs.Option.{option_map}
use Rattle.std.specs.List.{slice_get}
use Rattle.std.proofs.lemmas.Option.{slice_get-get_or}
use Rattle.std.proofs.lemmas.Bool.{cases_Bool, cases_lt, cond-true, cond-false, cond_both, eqb-true, eqb-false, eq-eqb, ne_eqb, lt-ltb, le-ltb}
use Rattle.model.specs.declared.tickets.Entity.{Entity}
use Rattle.model.specs.State.{kind_in, remove}
use Rattle.model.specs.Laws.{Rising}
use Rattle.holdings.specs.Rows.{place_of, remove_at, past}

-- what is read past the last row
abbrev pub blank : Entity
blank = record { number = 0; kind = 0 }

-- numbers that rise, by place
pub rising_low : (low n : ℕ) (es : List Entity) → Rising low es n → low ≤ n
rising_low low n [] r = r
rising_low low n (e ∷ es) r = omega (arith, r.0, rising_low (suc e.number) n es r.1)

pub rising_from : (low n : ℕ) (es : List Entity) → Rising low es n → (i : ℕ) → i < length es → low ≤ (get_or es i blank).number
rising_from low n [] r i h = omega arith
rising_from low n (e ∷ es) r zero h = r.0
rising_from low n (e ∷ es) r (suc i) h = omega (arith, r.0, rising_from (suc e.number) n es r.1 i (omega arith))

pub rising_apart : (low n : ℕ) (es : List Entity) → Rising low es n → (i j : ℕ) → i < j → j < length es → (get_or es i blank).number < (get_or es j blank).number
rising_apart low n [] r i j l h = omega arith
rising_apart low n (e ∷ es) r i zero l h = omega arith
rising_apart low n (e ∷ es) r zero (suc j) l h = rising_from (suc e.number) n es r.1 j (omega arith)
rising_apart low n (e ∷ es) r (suc i) (suc j) l h = rising_apart (suc e.number) n es r.1 i j (omega arith) (omega arith)

pub rising_lower : (low lower n : ℕ) (es : List Entity) → lower ≤ low → Rising low es n → Rising lower es n
rising_lower low lower n [] l r = omega arith
rising_lower low lower n (e ∷ es) l r = (omega (arith, r.0), r.1)

pub rising_push : (low n k : ℕ) (es : List Entity) → Rising low es n → Rising low (es ++ record { number = n; kind = k } ∷ []) (suc n)
rising_push low n k [] r = (r, omega arith)
rising_push low n k (e ∷ es) r = (r.0, rising_push (suc e.number) n k es r.1)

pub rising_remove : (low n i : ℕ) (es : List Entity) → Rising low es n → Rising low (remove_at es i) n
rising_remove low n i [] r = r
rising_remove low n zero (e ∷ es) r = rising_lower (suc e.number) low n es (omega (arith, r.0)) r.1
rising_remove low n (suc i) (e ∷ es) r = (r.0, rising_remove (suc e.number) n i es r.1)

-- a place is some other place's next
from_next : (o : Option ℕ) (i : ℕ) → option_map suc o ≡ Some i → (j : ℕ) × (o ≡ Some j) × (i ≡ suc j)
from_next (Some j) i h = (j, refl, cc)
from_next None i h = absurd (let z : ◌≡◌ {A = ℕ} 0 1 = cc in omega arith)

from_none : (o : Option ℕ) → option_map suc o ≡ None → o ≡ None
from_none (Some j) h = absurd (let z : ◌≡◌ {A = ℕ} 0 1 = cc in omega arith)
from_none None h = refl

place_here : (e : Entity) (es : List Entity) (a : ℕ) → eqb e.number a ≡ true → place_of (e ∷ es) a ≡ Some 0
place_here e es a t = cond-true _ _ _ t

place_there : (e : Entity) (es : List Entity) (a : ℕ) → eqb e.number a ≡ false → place_of (e ∷ es) a ≡ option_map suc (place_of es a)
place_there e es a f = cond-false _ _ _ f

-- at the place of a number is the entity with that number
pub place_some : (es : List Entity) (a i : ℕ) → place_of es a ≡ Some i → (i < length es) × ((get_or es i blank).number ≡ a)
place_some [] a i h = absurd (let z : ◌≡◌ {A = ℕ} 0 1 = cc in omega arith)
place_some (e ∷ es) a i h = elim (cases_Bool (eqb e.number a)) [
  | inl t ↦
      let p : ◌≡◌ {A = Option ℕ} (Some 0) (Some i) = sym (place_here e es a t) ∙ h in
      let z : 0 ≡ i = cc in
      subst (λ (k : ℕ). (k < suc (length es)) × ((get_or (e ∷ es) k blank).number ≡ a)) z (omega arith, eqb-true e.number a t)
  | inr f ↦
      let m = from_next (place_of es a) i (sym (place_there e es a f) ∙ h) in
      let r = place_some es a m.0 m.1 in
      subst (λ (k : ℕ). (k < suc (length es)) × ((get_or (e ∷ es) k blank).number ≡ a)) (sym m.2) (omega (arith, r.0), r.1)
]

-- a number that no entity has is at no place
pub place_none : (es : List Entity) (a : ℕ) → ((i : ℕ) → i < length es → (get_or es i blank).number ≡ a → ⊥) → place_of es a ≡ None
place_none [] a f = refl
place_none (e ∷ es) a f =
    place_there e es a (ne_eqb e.number a (f 0 (omega arith))) ∙ ap (option_map suc) (place_none es a (λ i h. f (suc i) (omega arith)))

pub place_below : (low n : ℕ) (es : List Entity) (a : ℕ) → Rising low es n → a < low → place_of es a ≡ None
place_below low n es a r l = place_none es a (λ i h e. omega (arith, rising_from low n es r i h))

-- the next number is nobody's yet
pub place_above : (low n : ℕ) (es : List Entity) → Rising low es n → place_of es n ≡ None
place_above low n [] r = refl
place_above low n (e ∷ es) r =
    place_there e es n (ne_eqb e.number n (λ q. omega (arith, rising_low (suc e.number) n es r.1)))
    ∙ ap (option_map suc) (place_above (suc e.number) n es r.1)

-- where numbers rise, the number at a place is at no other
pub place_at : (low n : ℕ) (es : List Entity) → Rising low es n → (i : ℕ) → i < length es → place_of es (get_or es i blank).number ≡ Some i
place_at low n [] r i h = absurd (omega arith)
place_at low n (e ∷ es) r zero h = place_here e es e.number (eq-eqb e.number e.number refl)
place_at low n (e ∷ es) r (suc i) h =
    let l : i < length es = omega arith in
    let a = rising_from (suc e.number) n es r.1 i l in
    place_there e es (get_or es i blank).number (ne_eqb e.number (get_or es i blank).number (λ q. omega arith))
    ∙ ap (option_map suc) (place_at (suc e.number) n es r.1 i l)

mapped_next : {A : Type 0} (f : ℕ → A) (o : Option ℕ) → option_map (λ i. f (suc i)) o ≡ option_map f (option_map suc o)
mapped_next f (Some i) = refl
mapped_next f None = refl

-- an entity's kind is the kind at its place
pub kind_place : (es : List Entity) (a : ℕ) → kind_in es a ≡ option_map (λ i. (get_or es i blank).kind) (place_of es a)
kind_place [] a = refl
kind_place (e ∷ es) a = elim (cases_Bool (eqb e.number a)) [
  | inl t ↦ cond-true _ _ _ t ∙ sym (ap (option_map (λ i. (get_or (e ∷ es) i blank).kind)) (place_here e es a t))
  | inr f ↦
      cond-false _ _ _ f ∙ kind_place es a ∙ mapped_next (λ i. (get_or (e ∷ es) i blank).kind) (place_of es a)
      ∙ sym (ap (option_map (λ i. (get_or (e ∷ es) i blank).kind)) (place_there e es a f))
]

some_mapped : {A : Type 0} (f : ℕ → A) (o : Option ℕ) → is_some (option_map f o) ≡ is_some o
some_mapped f (Some i) = refl
some_mapped f None = refl

-- an entity stands exactly where it has a place
pub standing_place : (es : List Entity) (a : ℕ) → is_some (kind_in es a) ≡ is_some (place_of es a)
standing_place es a = ap is_some (kind_place es a) ∙ some_mapped (λ i. (get_or es i blank).kind) (place_of es a)

-- the kind that is read at an entity's place, where it has one
pub kind_none : (es : List Entity) (a : ℕ) → None ≡ place_of es a → None ≡ kind_in es a
kind_none es a h = sym (kind_place es a ∙ ap (option_map (λ i. (get_or es i blank).kind)) (sym h))

pub kind_found : (es : List Entity) (a i : ℕ) (e : Entity) → Some i ≡ place_of es a → Some e ≡ slice_get es i → Some e.kind ≡ kind_in es a
kind_found es a i e h r =
    let n : slice_get es i ≡ Some (get_or es i blank) = slice_get-get_or es i blank (place_some es a i (sym h)).0 in
    let q : e ≡ get_or es i blank = cc in
    ap (λ (f : Entity). Some f.kind) q ∙ sym (kind_place es a ∙ ap (option_map (λ i. (get_or es i blank).kind)) (sym h))

pub place_filled : (es : List Entity) (a i : ℕ) → Some i ≡ place_of es a → None ≡ slice_get es i → ⊥
place_filled es a i h r =
    let n : slice_get es i ≡ Some (get_or es i blank) = slice_get-get_or es i blank (place_some es a i (sym h)).0 in
    let z : ◌≡◌ {A = ℕ} 0 1 = cc in
    omega arith

-- one entity more: it has the last place, and the others keep theirs
pub place_push : (es : List Entity) (e : Entity) (a : ℕ) → place_of es e.number ≡ None
    → place_of (es ++ e ∷ []) a ≡ cond (eqb e.number a) (Some (length es)) (place_of es a)
place_push [] e a h = refl
place_push (f ∷ fs) e a h = elim (cases_Bool (eqb f.number e.number)) [
  | inl t ↦ absurd (let p : ◌≡◌ {A = Option ℕ} (Some 0) None = sym (place_here f fs e.number t) ∙ h in let z : ◌≡◌ {A = ℕ} 0 1 = cc in omega arith)
  | inr n ↦
      let r = place_push fs e a (from_none (place_of fs e.number) (sym (place_there f fs e.number n) ∙ h)) in
      elim (cases_Bool (eqb f.number a)) [
        | inl t ↦
            let ne : eqb e.number a ≡ false = ne_eqb e.number a (λ q. eqb-false f.number e.number n (eqb-true f.number a t ∙ sym q)) in
            place_here f (fs ++ e ∷ []) a t ∙ sym (cond-false (eqb e.number a) (Some (suc (length fs))) (place_of (f ∷ fs) a) ne ∙ place_here f fs a t)
        | inr g ↦
            place_there f (fs ++ e ∷ []) a g ∙ ap (option_map suc) r
            ∙ (elim (eqb e.number a) as (λ b. option_map suc (cond b (Some (length fs)) (place_of fs a)) ≡ cond b (Some (suc (length fs))) (option_map suc (place_of fs a))) [ true ↦ refl | false ↦ refl ])
            ∙ ap (cond (eqb e.number a) (Some (suc (length fs)))) (sym (place_there f fs a g))
      ]
]

-- one entity less: what does not stand is not removed
pub remove_none : (es : List Entity) (a : ℕ) → place_of es a ≡ None → remove es a ≡ es
remove_none [] a h = refl
remove_none (e ∷ es) a h = elim (cases_Bool (eqb e.number a)) [
  | inl t ↦ absurd (let p : ◌≡◌ {A = Option ℕ} (Some 0) None = sym (place_here e es a t) ∙ h in let z : ◌≡◌ {A = ℕ} 0 1 = cc in omega arith)
  | inr f ↦ cond-false _ _ _ f ∙ ap (λ (l : List Entity). e ∷ l) (remove_none es a (from_none (place_of es a) (sym (place_there e es a f) ∙ h)))
]

-- removing by number is removing at its place
pub remove_place : (low n : ℕ) (es : List Entity) (a i : ℕ) → Rising low es n → place_of es a ≡ Some i → remove_at es i ≡ remove es a
remove_place low n [] a i r h = refl
remove_place low n (e ∷ es) a i r h = elim (cases_Bool (eqb e.number a)) [
  | inl t ↦
      let p : ◌≡◌ {A = Option ℕ} (Some 0) (Some i) = sym (place_here e es a t) ∙ h in
      let z : 0 ≡ i = cc in
      let b = eqb-true e.number a t in
      ap (remove_at (e ∷ es)) (sym z) ∙ sym (cond-true _ _ _ t ∙ remove_none es a (place_below (suc e.number) n es a r.1 (omega arith)))
  | inr f ↦
      let m = from_next (place_of es a) i (sym (place_there e es a f) ∙ h) in
      ap (remove_at (e ∷ es)) m.2 ∙ ap (λ (l : List Entity). e ∷ l) (remove_place (suc e.number) n es a m.0 r.1 m.1) ∙ sym (cond-false _ _ _ f)
]

-- what is removed has no place
pub place_removed : (es : List Entity) (a : ℕ) → place_of (remove es a) a ≡ None
place_removed [] a = refl
place_removed (e ∷ es) a = elim (cases_Bool (eqb e.number a)) [
  | inl t ↦ ap (λ (l : List Entity). place_of l a) (cond-true _ _ _ t) ∙ place_removed es a
  | inr f ↦ ap (λ (l : List Entity). place_of l a) (cond-false _ _ _ f) ∙ place_there e (remove es a) a f ∙ ap (option_map suc) (place_removed es a)
]

-- moving up past a place that is taken out
pub past_low : (r i : ℕ) → i < r → past r i ≡ i
past_low r i h = cond-true (ltb i r) i (suc i) (lt-ltb i r h)

pub past_high : (r i : ℕ) → r ≤ i → past r i ≡ suc i
past_high r i h = cond-false (ltb i r) i (suc i) (le-ltb i r h)

pub past_from : (r i : ℕ) → i ≤ past r i
past_from r i = cond_both (ltb i r) i (suc i) (λ x. i ≤ x) (λ e. omega arith) (λ e. omega arith)

pub past_within : (r i : ℕ) → past r i ≤ suc i
past_within r i = cond_both (ltb i r) i (suc i) (λ x. x ≤ suc i) (λ e. omega arith) (λ e. omega arith)

past_suc : (r i : ℕ) → past (suc r) (suc i) ≡ suc (past r i)
past_suc r i = elim (cases_lt i r) [
  | inl h ↦ past_low (suc r) (suc i) (omega arith) ∙ ap suc (sym (past_low r i h))
  | inr h ↦ past_high (suc r) (suc i) (omega arith) ∙ ap suc (sym (past_high r i h))
]

mapped_past_zero : (o : Option ℕ) → option_map (past 0) o ≡ option_map suc o
mapped_past_zero (Some i) = ap Some (past_high 0 i (omega arith))
mapped_past_zero None = refl

mapped_past_suc : (r : ℕ) (o : Option ℕ) → option_map (past (suc r)) (option_map suc o) ≡ option_map suc (option_map (past r) o)
mapped_past_suc r (Some i) = ap Some (past_suc r i)
mapped_past_suc r None = refl

-- the others' places, where the one at r is taken out
pub place_left : (es : List Entity) (r b : ℕ) → r < length es → ((get_or es r blank).number ≡ b → ⊥) → option_map (past r) (place_of (remove_at es r) b) ≡ place_of es b
place_left [] r b h f = absurd (omega arith)
place_left (e ∷ es) zero b h f = mapped_past_zero (place_of es b) ∙ sym (place_there e es b (ne_eqb e.number b f))
place_left (e ∷ es) (suc r) b h f = elim (cases_Bool (eqb e.number b)) [
  | inl t ↦
      ap (option_map (past (suc r))) (place_here e (remove_at es r) b t) ∙ ap Some (past_low (suc r) 0 (omega arith)) ∙ sym (place_here e es b t)
  | inr g ↦
      ap (option_map (past (suc r))) (place_there e (remove_at es r) b g) ∙ mapped_past_suc r (place_of (remove_at es r) b)
      ∙ ap (option_map suc) (place_left es r b (omega arith) f) ∙ sym (place_there e es b g)
]

pub length_left : (es : List Entity) (r : ℕ) → r < length es → suc (length (remove_at es r)) ≡ length es
length_left [] r h = omega arith
length_left (e ∷ es) zero h = refl
length_left (e ∷ es) (suc r) h = ap suc (length_left es r (omega arith))
