-- How many pairs are filled: at most one for each holder and target, and what one entity more or less, a set in a pair's place and a set
-- gained do to it.
use Rattle.std.proofs.Common.{◌≡◌, ℕ, suc, ◌+◌, ◌*◌, ◌<◌, ◌≤◌, Bool, true, false, ◌&&◌, ◌||◌, eqb, List, [], ◌∷◌, ◌++◌, length, is_some, sym, refl, ap, ◌∙◌, ap₂, inl, inr, suc-mul, arith}
use lib.Bits.{bit_or}
use Rattle.std.proofs.lemmas.Bool.{cases_Bool, both_ways, cond-true, cond-false, cond_both, eqb-true, eq-eqb, ne_eqb, false≢true, and_from, and_left, and_right}
use Rattle.model.specs.declared.tickets.Entity.{Entity}
use Rattle.model.specs.Tickets.{Tickets, bit, has, none, empty, join}
use Rattle.model.specs.State.{State, Table, kind_in, standing, put, gain, added, holding, stored, count_targets, count_pairs, filled, takes, takes_beside, without, remove}
use Rattle.model.specs.Laws.{Rising, Orderly}
use Rattle.model.proofs.Bits.{bit_zero, bit-bit_or, same_bits}
use Rattle.model.proofs.Entities.{free}
use Rattle.model.proofs.Tables.{empty_has, none_has, same_tickets, join_left, without_within}

pub takes_le : (s : Tickets) → takes s ≤ 1
takes_le s = cond_both (empty s) 0 1 (λ (n : ℕ). n ≤ 1) (λ _. omega arith) (λ _. omega arith)

-- a set that has no ticket is empty
pub empty_by : (s : Tickets) → ((x : ℕ) (c : Bool) → has s x c ≡ true → ⊥) → empty s ≡ true
empty_by s f = ap empty (same_tickets s none (λ x c h. absurd (f x c h)) (λ x c h. none_has x c h))

pub none_of : (s : Tickets) → empty s ≡ true → s ≡ none
none_of s e = same_tickets s none (λ x c h. empty_has s e x c h) (λ x c h. none_has x c h)

none_join : (s : Tickets) → join none s ≡ s
none_join s = ap₂ (λ (p q : ℕ). record { plain = p; copyable = q }) (beside s.plain) (beside s.copyable)
  where
    beside : (m : ℕ) → bit_or 0 m ≡ m
    beside m = same_bits (bit_or 0 m) m (λ x. bit-bit_or x 0 m ∙ ap (λ (b : Bool). b || bit x m) (bit_zero x))

-- what a join takes
pub takes_join : (v s : Tickets) → takes (join v s) ≡ takes v + takes_beside v s
takes_join v s = elim (cases_Bool (empty v)) [
  | inl e ↦
      let is : v ≡ none = none_of v e in
      let j : takes (join v s) ≡ takes s = ap (λ (u : Tickets). takes (join u s)) is ∙ ap takes (none_join s) in
      let z : ◌≡◌ {A = ℕ} (takes v) 0 = cond-true (empty v) 0 1 e in
      let b : takes_beside v s ≡ takes s = cond-true (empty v) (takes s) 0 e in
      omega arith
  | inr f ↦
      let more : empty (join v s) ≡ false = elim (cases_Bool (empty (join v s))) [
        | inl t ↦ absurd (both_ways (empty v) f (empty_by v (λ x c h. empty_has (join v s) t x c (join_left v s x c h))))
        | inr t ↦ t
      ] in
      let j : ◌≡◌ {A = ℕ} (takes (join v s)) 1 = cond-false (empty (join v s)) 0 1 more in
      let z : ◌≡◌ {A = ℕ} (takes v) 1 = cond-false (empty v) 0 1 f in
      let b : ◌≡◌ {A = ℕ} (takes_beside v s) 0 = cond-false (empty v) (takes s) 0 f in
      omega arith
]

-- at most every pair is filled
pub targets_le : (t : Table) (h : ℕ) (ys : List Entity) → count_targets t h ys ≤ length ys
targets_le t h [] = omega arith
targets_le t h (y ∷ ys) = omega (arith, takes_le (t h y.number), targets_le t h ys)

pub pairs_le : (t : Table) (hs ys : List Entity) → count_pairs t hs ys ≤ length hs * length ys
pairs_le t [] ys = omega arith
pairs_le t (h ∷ hs) ys = omega (arith, targets_le t h.number ys, pairs_le t hs ys, suc-mul (length hs) (length ys))

-- one that stands behind another stands
pub behind : (e : Entity) (es : List Entity) (a : ℕ) → eqb e.number a ≡ false → is_some (kind_in (e ∷ es) a) ≡ true → is_some (kind_in es a) ≡ true
behind e es a f h = ap is_some (sym (cond-false _ _ _ f)) ∙ h

-- one entity more at the end
pub targets_push : (t : Table) (h : ℕ) (ys : List Entity) (f : Entity) → count_targets t h (ys ++ f ∷ []) ≡ count_targets t h ys + takes (t h f.number)
targets_push t h [] f = omega arith
targets_push t h (y ∷ ys) f = omega (arith, targets_push t h ys f)

pub pairs_push : (t : Table) (hs ys : List Entity) (f : Entity) → count_pairs t (hs ++ f ∷ []) ys ≡ count_pairs t hs ys + count_targets t f.number ys
pairs_push t [] ys f = omega arith
pairs_push t (h ∷ hs) ys f = omega (arith, pairs_push t hs ys f)

targets_none : (t : Table) (h : ℕ) (ys : List Entity) → ((y : ℕ) → empty (t h y) ≡ true) → count_targets t h ys ≡ 0
targets_none t h [] f = refl
targets_none t h (y ∷ ys) f =
    let z : ◌≡◌ {A = ℕ} (takes (t h y.number)) 0 = cond-true (empty (t h y.number)) 0 1 (f y.number) in
    omega (arith, targets_none t h ys f)

pairs_more : (t : Table) (hs ys : List Entity) (f : Entity) → ((h : ℕ) → empty (t h f.number) ≡ true) → count_pairs t hs (ys ++ f ∷ []) ≡ count_pairs t hs ys
pairs_more t [] ys f p = refl
pairs_more t (h ∷ hs) ys f p =
    let z : ◌≡◌ {A = ℕ} (takes (t h.number f.number)) 0 = cond-true (empty (t h.number f.number)) 0 1 (p h.number) in
    omega (arith, targets_push t h.number ys f, pairs_more t hs ys f p)

-- nobody holds a ticket for the next number, and it holds none
module _ (st : State) (o : Orderly st) where
  unborn : standing st st.next ≡ true → ⊥
  unborn h = both_ways (standing st st.next) (ap is_some (free st.entities st.next o.rising)) h

  pub none_for_next : (h : ℕ) → empty (st.tickets h st.next) ≡ true
  none_for_next h = empty_by (st.tickets h st.next) (λ x c e. unborn (o.only_standing h st.next x c e).1)

  pub none_by_next : (y : ℕ) → empty (st.tickets st.next y) ≡ true
  none_by_next y = empty_by (st.tickets st.next y) (λ x c e. unborn (o.only_standing st.next y x c e).0)

  -- so adding an entity fills no pair
  pub filled_added : (k : ℕ) → filled (added st k) ≡ filled st
  filled_added k =
      let es : List Entity = st.entities in
      let f : Entity = record { number = st.next; kind = k } in
      omega (arith, pairs_push st.tickets es (es ++ f ∷ []) f, targets_none st.tickets st.next (es ++ f ∷ []) none_by_next, pairs_more st.tickets es es f none_for_next)

-- one set in a pair's place: the other pairs stay
module _ (t : Table) (h y : ℕ) (s : Tickets) where
  pub put_at : put t h y s h y ≡ s
  put_at = cond-true (eqb h h && eqb y y) s (t h y) (and_from (eqb h h) (eqb y y) (eq-eqb h h refl) (eq-eqb y y refl))

  pub put_off : (a b : ℕ) → (eqb a h && eqb b y) ≡ false → put t h y s a b ≡ t a b
  put_off a b e = cond-false (eqb a h && eqb b y) s (t a b) e

  takes_off : (a b : ℕ) → (eqb a h && eqb b y) ≡ false → takes (put t h y s a b) ≡ takes (t a b)
  takes_off a b e = ap takes (put_off a b e)

  other_holder : (a : ℕ) (ys : List Entity) → eqb a h ≡ false → count_targets (put t h y s) a ys ≡ count_targets t a ys
  other_holder a [] e = refl
  other_holder a (z ∷ ys) e = omega (arith, takes_off a z.number (and_left (eqb a h) (eqb z.number y) e), other_holder a ys e)

  later_targets : (a low n : ℕ) (ys : List Entity) → Rising low ys n → y < low → count_targets (put t h y s) a ys ≡ count_targets t a ys
  later_targets a low n [] r l = refl
  later_targets a low n (z ∷ ys) r l =
      let ne : eqb z.number y ≡ false = ne_eqb z.number y (λ e. omega (arith, r.0)) in
      omega (arith, takes_off a z.number (and_right (eqb a h) (eqb z.number y) ne), later_targets a (suc z.number) n ys r.1 (omega (arith, r.0)))

  later_holders : (low n : ℕ) (hs ys : List Entity) → Rising low hs n → h < low → count_pairs (put t h y s) hs ys ≡ count_pairs t hs ys
  later_holders low n [] ys r l = refl
  later_holders low n (z ∷ hs) ys r l =
      omega (arith, other_holder z.number ys (ne_eqb z.number h (λ e. omega (arith, r.0))), later_holders (suc z.number) n hs ys r.1 (omega (arith, r.0)))

  targets_put : (low n : ℕ) (ys : List Entity) → Rising low ys n → is_some (kind_in ys y) ≡ true
      → count_targets (put t h y s) h ys + takes (t h y) ≡ count_targets t h ys + takes s
  targets_put low n [] r k = absurd (false≢true k)
  targets_put low n (z ∷ ys) r k = elim (cases_Bool (eqb z.number y)) [
    | inl e ↦
        let q : z.number ≡ y = eqb-true z.number y e in
        let new : takes (put t h y s h z.number) ≡ takes s = ap (λ (b : ℕ). takes (put t h y s h b)) q ∙ ap takes put_at in
        let old : takes (t h z.number) ≡ takes (t h y) = ap (λ (b : ℕ). takes (t h b)) q in
        omega (arith, later_targets h (suc z.number) n ys r.1 (omega arith))
    | inr e ↦ omega (arith, takes_off h z.number (and_right (eqb h h) (eqb z.number y) e), targets_put (suc z.number) n ys r.1 (behind z ys y e k))
  ]

  pub pairs_put : (low m n : ℕ) (hs ys : List Entity) → Rising low hs n → Rising m ys n → is_some (kind_in hs h) ≡ true → is_some (kind_in ys y) ≡ true
      → count_pairs (put t h y s) hs ys + takes (t h y) ≡ count_pairs t hs ys + takes s
  pairs_put low m n [] ys r q i j = absurd (false≢true i)
  pairs_put low m n (z ∷ hs) ys r q i j = elim (cases_Bool (eqb z.number h)) [
    | inl e ↦
        let is : z.number ≡ h = eqb-true z.number h e in
        let new : count_targets (put t h y s) z.number ys ≡ count_targets (put t h y s) h ys = ap (λ (a : ℕ). count_targets (put t h y s) a ys) is in
        let old : count_targets t z.number ys ≡ count_targets t h ys = ap (λ (a : ℕ). count_targets t a ys) is in
        omega (arith, targets_put m n ys q j, later_holders (suc z.number) n hs ys r.1 (omega arith))
    | inr e ↦ omega (arith, other_holder z.number ys e, pairs_put (suc z.number) m n hs ys r.1 q (behind z hs h e i) j)
  ]

-- a set in a pair's place: one pair more is filled where it was empty and the set is not, one less the other way round
pub filled_stored : (st : State) → Rising 1 st.entities st.next → (h y : ℕ) (s : Tickets) → standing st h ≡ true → standing st y ≡ true
    → filled (stored st h y s) + takes (st.tickets h y) ≡ filled st + takes s
filled_stored st r h y s i j = pairs_put st.tickets h y s 1 1 st.next st.entities st.entities r r i j

-- a set gained fills one pair more exactly where its pair was empty and it is not
pub filled_gain : (st : State) → Rising 1 st.entities st.next → (t : Table) (h y : ℕ) (s : Tickets) → standing st h ≡ true → standing st y ≡ true
    → filled (holding st (gain t h y s)) ≡ filled (holding st t) + takes_beside (t h y) s
filled_gain st r t h y s i j = omega (arith, filled_stored (holding st t) r h y (join (t h y) s) i j, takes_join (t h y) s)

-- a set that has no ticket which another lacks takes no more
pub takes_less : (s t : Tickets) → (empty t ≡ true → empty s ≡ true) → takes s ≤ takes t
takes_less s t f = elim (cases_Bool (empty t)) [
  | inl e ↦ let z : ◌≡◌ {A = ℕ} (takes s) 0 = cond-true (empty s) 0 1 (f e) in omega arith
  | inr e ↦ let z : ◌≡◌ {A = ℕ} (takes t) 1 = cond-false (empty t) 0 1 e in omega (arith, takes_le s)
]

-- one entity less, and nothing for it or by it
without_takes : (t : Table) (e h y : ℕ) → takes (without t e h y) ≤ takes (t h y)
without_takes t e h y =
    takes_less (without t e h y) (t h y) (λ p. empty_by (without t e h y) (λ x c q. empty_has (t h y) p x c (without_within t e h y x c q)))

targets_removed : (t : Table) (e h : ℕ) (ys : List Entity) → count_targets (without t e) h (remove ys e) ≤ count_targets t h ys
targets_removed t e h [] = omega arith
targets_removed t e h (y ∷ ys) =
    cond_both (eqb y.number e) (remove ys e) (y ∷ remove ys e) (λ (l : List Entity). count_targets (without t e) h l ≤ count_targets t h (y ∷ ys))
    (λ _. omega (arith, targets_removed t e h ys)) (λ _. omega (arith, without_takes t e h y.number, targets_removed t e h ys))

pub pairs_removed : (t : Table) (e : ℕ) (hs ys : List Entity) → count_pairs (without t e) (remove hs e) (remove ys e) ≤ count_pairs t hs ys
pairs_removed t e [] ys = omega arith
pairs_removed t e (h ∷ hs) ys =
    cond_both (eqb h.number e) (remove hs e) (h ∷ remove hs e) (λ (l : List Entity). count_pairs (without t e) l (remove ys e) ≤ count_pairs t (h ∷ hs) ys)
    (λ _. omega (arith, pairs_removed t e hs ys)) (λ _. omega (arith, pairs_removed t e hs ys, targets_removed t e h.number ys))
