-- A loop that moves the entries that stay to the front, by answers that need not come from a test.
use Rattle.std.proofs.Common.{◌≡◌, ℕ, ◌+◌, ◌<◌, ◌≤◌, Bool, true, false, List, [], ◌∷◌, ◌++◌, length, get_or, take, drop, set, sym, refl, ap, subst, ◌∙◌, arith}
use Rattle.std.specs.List.{All, items_where_true}
use Rattle.std.specs.List.Retain.{IsFiltered, ReturnsInTurn}
use Rattle.std.specs.declared.cmp.Ordering.TheVariants.{Less}
use Rattle.std.proofs.lemmas.List.{length-append, length-set, drop-drop, get_or-drop, drop-set-lt, take_more_set, take-append-le}
use Rattle.std.proofs.lemmas.List.Elements.{filter_from_retain, All-nil, All-cons, All-head, All-tail}
use Rattle.ordered.specs.declared.entry.Entry.{Entry}
use Rattle.ordered.specs.Entries.{Order, Rising, AtKey, Answers, keep}

module _ {X : Type 0} where
  picked_stays : (bs : List Bool) (xs : List X) (x : X) → length bs < length xs → x ≡ get_or xs (length bs) x → items_where_true (bs ++ true ∷ []) xs ≡ items_where_true bs xs ++ x ∷ []
  picked_stays bs [] x l is = absurd (omega arith)
  picked_stays [] (y ∷ xs) x l is = ap (λ z. z ∷ []) (sym is)
  picked_stays (true ∷ bs) (y ∷ xs) x l is = ap (λ zs. y ∷ zs) (picked_stays bs xs x (omega arith) is)
  picked_stays (false ∷ bs) (y ∷ xs) x l is = picked_stays bs xs x (omega arith) is

  picked_goes : (bs : List Bool) (xs : List X) → items_where_true (bs ++ false ∷ []) xs ≡ items_where_true bs xs
  picked_goes [] [] = refl
  picked_goes [] (x ∷ xs) = refl
  picked_goes (b ∷ bs) [] = refl
  picked_goes (true ∷ bs) (x ∷ xs) = ap (λ zs. x ∷ zs) (picked_goes bs xs)
  picked_goes (false ∷ bs) (x ∷ xs) = picked_goes bs xs

  answered_more : (R : Unit {0} → X → Bool → Unit {0} → Type 0) (bs : List Bool) (xs : List X) (x : X) (b : Bool) → length bs < length xs → x ≡ get_or xs (length bs) x
      → ReturnsInTurn R tt bs xs tt → R tt x b tt → ReturnsInTurn R tt (bs ++ b ∷ []) xs tt
  answered_more R bs [] x b l is h r = absurd (omega arith)
  answered_more R [] (y ∷ xs) x b l is h r = (tt, subst (λ (z : X). R tt z b tt) is r, refl)
  answered_more R (a ∷ bs) (y ∷ xs) x b l is h r = (tt, h.1, answered_more R bs xs x b (omega arith) is h.2 r)

-- the first i of xs were answered, and ys has those that stay in its first k places, and xs from i on
pub record Moved {X : Type 0} (R : Unit {0} → X → Bool → Unit {0} → Type 0) (xs ys : List X) (k i : ℕ) : Type 0 where
  pub answers : List Bool
  pub in_turn : ReturnsInTurn R tt answers xs tt
  pub many : length answers ≡ i
  pub front : take k ys ≡ items_where_true answers xs
  pub rest : drop i ys ≡ drop i xs
  pub behind : k ≤ i
  pub within : i ≤ length xs
  pub long : length ys ≡ length xs

module _ {X : Type 0} (R : Unit {0} → X → Bool → Unit {0} → Type 0) (xs : List X) where
  pub moved_none : Moved R xs xs 0 0
  moved_none = record { answers = []; in_turn = refl; many = refl; front = refl; rest = refl; behind = omega arith; within = omega arith; long = refl }

  module _ (ys : List X) (k i : ℕ) (x : X) (m : Moved R xs ys k i) (l : i < length ys) (is : x ≡ get_or ys i x) where
    next : drop (i + 1) ys ≡ drop (i + 1) xs
    next = sym (drop-drop 1 i ys) ∙ ap (drop 1) m.rest ∙ drop-drop 1 i xs

    here : x ≡ get_or xs (length m.answers) x
    here =
        is ∙ ap (λ (n : ℕ). get_or ys n x) (let e : i ≡ i + 0 = omega arith in e) ∙ sym (get_or-drop i ys 0 x) ∙ ap (λ (zs : List X). get_or zs 0 x) m.rest
        ∙ get_or-drop i xs 0 x ∙ ap (λ (n : ℕ). get_or xs n x) (let e : i + 0 ≡ length m.answers = omega (arith, m.many) in e)

    below : length m.answers < length xs
    below = omega (arith, m.many, m.long)

    pub moved_stays : R tt x true tt → Moved R xs (set ys k x) (k + 1) (i + 1)
    moved_stays r = record {
      answers = m.answers ++ true ∷ [];
      in_turn = answered_more R m.answers xs x true below here m.in_turn r;
      many = length-append m.answers (true ∷ []) ∙ ap (λ (n : ℕ). n + 1) m.many;
      front = take_more_set ys k x (omega (arith, m.behind)) ∙ ap (λ (zs : List X). zs ++ x ∷ []) m.front
          ∙ sym (picked_stays m.answers xs x below here);
      rest = drop-set-lt (i + 1) ys k x (omega (arith, m.behind)) ∙ next;
      behind = omega (arith, m.behind);
      within = omega (arith, m.long);
      long = length-set ys k x ∙ m.long;
    }

    pub moved_goes : R tt x false tt → Moved R xs ys k (i + 1)
    moved_goes r = record {
      answers = m.answers ++ false ∷ [];
      in_turn = answered_more R m.answers xs x false below here m.in_turn r;
      many = length-append m.answers (false ∷ []) ∙ ap (λ (n : ℕ). n + 1) m.many;
      front = m.front ∙ sym (picked_goes m.answers xs);
      rest = next;
      behind = omega (arith, m.behind);
      within = omega (arith, m.long);
      long = m.long;
    }

  pub moved_all : (ys : List X) (k i : ℕ) → Moved R xs ys k i → length xs ≤ i → IsFiltered R tt xs (take k ys)
  moved_all ys k i m l = (m.answers, tt, omega (arith, m.many, m.within), m.in_turn, m.front)

-- what stays of a rising list rises
module _ {K V : Type 0} (cmp : Order K) where
  All-picked : (P : Entry K V → Type 0) (bs : List Bool) (es : List (Entry K V)) → All P es → All P (items_where_true bs es)
  All-picked P [] es a = All-nil P
  All-picked P (b ∷ bs) [] a = All-nil P
  All-picked P (true ∷ bs) (e ∷ es) a = All-cons P e (items_where_true bs es) (All-head P e es a) (All-picked P bs es (All-tail P e es a))
  All-picked P (false ∷ bs) (e ∷ es) a = All-picked P bs es (All-tail P e es a)

  pub rising_picked : (bs : List Bool) (es : List (Entry K V)) → Rising cmp es → Rising cmp (items_where_true bs es)
  rising_picked [] es r = tt
  rising_picked (b ∷ bs) [] r = tt
  rising_picked (true ∷ bs) (e ∷ es) r = (All-picked (λ (f : Entry K V). cmp e.key f.key ≡ Less) bs es r.0, rising_picked bs es r.1)
  rising_picked (false ∷ bs) (e ∷ es) r = rising_picked bs es r.1

-- what the front holds then: its keys rise, and by a test they are those that pass
module _ {K V : Type 0} (cmp : Order K) (post : K → Bool → Type 0) (es left rest : List (Entry K V)) (n : ℕ) (l : n ≤ length left)
    (f : IsFiltered (AtKey post) tt es (take n left)) where
  pub retained_rises : Rising cmp es → Rising cmp (take n (left ++ rest))
  retained_rises r = subst (Rising cmp) (sym (take-append-le n left rest l ∙ f.4)) (rising_picked cmp f.0 es r)

  pub retained : (test : K → Bool) → Answers post test → take n (left ++ rest) ≡ keep test es
  retained test h =
      take-append-le n left rest l ∙ filter_from_retain (AtKey post) (λ (e : Entry K V). test e.key) (λ was e b is r. h e.key b r) tt es (take n left) f
