-- Ticket sets and tables: what a join, a gain, a creation, a drop and a retirement leave of them.
use Rattle.std.proofs.Common.{◌≡◌, ℕ, ◌<◌, Bool, true, false, not, ◌&&◌, ◌||◌, eqb, ◌⊎◌, Some, None, Option, sym, refl, ◌∙◌, subst, ap₂, subst₂, inl, inr}
use Rattle.std.proofs.lemmas.Bool.{eqb-true, eq-eqb, both_ways, and_parts, and_from, or_cases, or_left, or_right, or_parts, cond-true, cond_both}
use Rattle.model.specs.Tickets.{Tickets, bit, has, join, ticket_of, none, empty, Within}
use Rattle.model.specs.Scheme.{Scheme, Part, Rule, Proper}
use Rattle.model.specs.State.{Table, put, gain, without}
use Rattle.model.specs.Calls.{without_right, give, give_second}
use Rattle.model.specs.Spread.{Contains}
use Rattle.model.proofs.Bits.{bit_zero, bit-bit_or, bit_pow, bit_less, same_bits}

-- what a set has: none, a join, a set with a right less, one ticket
has_none : (x : ℕ) (c : Bool) → has none x c ≡ false
has_none x true = bit_zero x
has_none x false = bit_zero x

pub none_has : {A : Type 0} (x : ℕ) (c : Bool) → has none x c ≡ true → A
none_has x c e = absurd (both_ways (has none x c) (has_none x c) e)

-- an empty set has no ticket
pub empty_has : {A : Type 0} (s : Tickets) → empty s ≡ true → (x : ℕ) (c : Bool) → has s x c ≡ true → A
empty_has s e x c h =
    let b = and_parts (eqb s.plain 0) (eqb s.copyable 0) e in
    let n : s ≡ none = ap₂ (λ (p q : ℕ). record { plain = p; copyable = q }) (eqb-true s.plain 0 b.0) (eqb-true s.copyable 0 b.1) in
    none_has x c (subst (λ (v : Tickets). has v x c ≡ true) n h)

has_join : (s t : Tickets) (x : ℕ) (c : Bool) → has (join s t) x c ≡ (has s x c || has t x c)
has_join s t x true = bit-bit_or x s.copyable t.copyable
has_join s t x false = bit-bit_or x s.plain t.plain

pub join_cases : (s t : Tickets) (x : ℕ) (c : Bool) → has (join s t) x c ≡ true → (has s x c ≡ true) ⊎ (has t x c ≡ true)
join_cases s t x c e = or_cases (has s x c) (has t x c) (sym (has_join s t x c) ∙ e)

pub join_left : (s t : Tickets) → Within s (join s t)
join_left s t x c e = has_join s t x c ∙ or_left (has s x c) (has t x c) e

pub join_right : (s t : Tickets) → Within t (join s t)
join_right s t x c e = has_join s t x c ∙ or_right (has s x c) (has t x c) e

-- sets that have the same tickets are the same
pub same_tickets : (s t : Tickets) → Within s t → Within t s → s ≡ t
same_tickets s t f g =
    ap₂ (λ (p q : ℕ). record { plain = p; copyable = q })
    (same_bits s.plain t.plain (λ x. both_or_none (bit x s.plain) (bit x t.plain) (f x false) (g x false)))
    (same_bits s.copyable t.copyable (λ x. both_or_none (bit x s.copyable) (bit x t.copyable) (f x true) (g x true)))
  where
    both_or_none : (a b : Bool) → (a ≡ true → b ≡ true) → (b ≡ true → a ≡ true) → a ≡ b
    both_or_none true b p q = sym (p refl)
    both_or_none false true p q = q refl
    both_or_none false false p q = refl

has_less : (s : Tickets) (x y : ℕ) (c : Bool) → has (without_right s x) y c ≡ (has s y c && not (eqb y x))
has_less s x y true = bit_less s.copyable x y
has_less s x y false = bit_less s.plain x y

less_parts : (s : Tickets) (x y : ℕ) (c : Bool) → has (without_right s x) y c ≡ true → (has s y c ≡ true) × (not (eqb y x) ≡ true)
less_parts s x y c e = and_parts (has s y c) (not (eqb y x)) (sym (has_less s x y c) ∙ e)

pub less_within : (s : Tickets) (x : ℕ) → Within (without_right s x) s
less_within s x y c e = (less_parts s x y c e).0

pub ticket_right : (x : ℕ) (f : Bool) (y : ℕ) (c : Bool) → has (ticket_of x f) y c ≡ true → y ≡ x
ticket_right x true y true h = eqb-true y x (sym (bit_pow y x) ∙ h)
ticket_right x true y false h = eqb-true y x (sym (bit_pow y x) ∙ h)
ticket_right x false y true h = none_has y true h
ticket_right x false y false h = eqb-true y x (sym (bit_pow y x) ∙ h)

ticket_nested : (x : ℕ) (f : Bool) (y : ℕ) → has (ticket_of x f) y true ≡ true → has (ticket_of x f) y false ≡ true
ticket_nested x true y h = h
ticket_nested x false y h = none_has y true h

-- what tickets of the scheme keep
pub proper_none : (S : Scheme) → Proper S none
proper_none S = record { known = λ x c e. none_has x c e; nested = λ x e. none_has x true e }

pub proper_join : (S : Scheme) (s t : Tickets) → Proper S s → Proper S t → Proper S (join s t)
proper_join S s t f g = record {
  known = λ x c e. elim (join_cases s t x c e) [ inl l ↦ f.known x c l | inr r ↦ g.known x c r ];
  nested = λ x e. elim (join_cases s t x true e) [ inl l ↦ join_left s t x false (f.nested x l) | inr r ↦ join_right s t x false (g.nested x r) ];
}

pub proper_less : (S : Scheme) (s : Tickets) (x : ℕ) → Proper S s → Proper S (without_right s x)
proper_less S s x f = record {
  known = λ y c e. f.known y c (less_within s x y c e);
  nested = λ y e. has_less s x y false ∙ and_from (has s y false) (not (eqb y x)) (f.nested y (less_within s x y true e)) (less_parts s x y true e).1;
}

pub proper_ticket : (S : Scheme) (x : ℕ) (c : Bool) → x < S.rights → Proper S (ticket_of x c)
proper_ticket S x c l = record {
  known = λ y d e. subst (λ (z : ℕ). z < S.rights) (sym (ticket_right x c y d e)) l;
  nested = ticket_nested x c;
}

-- two pairs are the same
same_pair : (a b h y : ℕ) → (eqb a h && eqb b y) ≡ true → (a ≡ h) × (b ≡ y)
same_pair a b h y e = let p = and_parts (eqb a h) (eqb b y) e in (eqb-true a h p.0, eqb-true b y p.1)

-- what a gain leaves: what there was, and the set that is gained
module _ (t : Table) (h y : ℕ) (s : Tickets) where
  pub gain_cases : (a b x : ℕ) (c : Bool) → has (gain t h y s a b) x c ≡ true → (has (t a b) x c ≡ true) ⊎ ((a ≡ h) × (b ≡ y) × (has s x c ≡ true))
  gain_cases a b x c =
      cond_both (eqb a h && eqb b y) (join (t h y) s) (t a b) (λ v. has v x c ≡ true → (has (t a b) x c ≡ true) ⊎ ((a ≡ h) × (b ≡ y) × (has s x c ≡ true)))
      (λ e k. let p = same_pair a b h y e in elim (join_cases (t h y) s x c k) [ inl l ↦ inl (rw (p.0, p.1) l) | inr r ↦ inr (p.0, p.1, r) ])
      (λ e k. inl k)

  pub gain_keeps : Contains (gain t h y s) t
  gain_keeps a b x c k =
      cond_both (eqb a h && eqb b y) (join (t h y) s) (t a b) (λ v. has v x c ≡ true)
      (λ e. let p = same_pair a b h y e in join_left (t h y) s x c (rw (← p.0, ← p.1) k))
      (λ e. k)

  pub gain_at : Within s (gain t h y s h y)
  gain_at x c k =
      let here = cond-true (eqb h h && eqb y y) (join (t h y) s) (t h y) (and_from (eqb h h) (eqb y y) (eq-eqb h h refl) (eq-eqb y y refl)) in
      subst (λ (v : Tickets). has v x c ≡ true) (sym here) (join_right (t h y) s x c k)

-- what is asked of a set at a holder and a target: it lasts where sets are joined, and holds of none
abbrev pub Place : Type 1
Place = ℕ → ℕ → Tickets → Type 0

pub record Joins (Q : Place) : Type 0 where
  pub of_none : (h y : ℕ) → Q h y none
  pub of_join : (h y : ℕ) (s t : Tickets) → Q h y s → Q h y t → Q h y (join s t)

-- at every place of the table
abbrev pub Fine : Place → Table → Type 0
Fine Q t = (h y : ℕ) → Q h y (t h y)

-- the same of the sets that a creation gives, where it puts them
pub record GivenPart (Q : Place) (p : Part) (a n : ℕ) : Type 0 where
  pub for_child : Q a n p.for_child
  pub for_self : Q a a p.for_self
  pub to_child : Q n a p.to_child

abbrev pub GivenSecond : Place → Option Part → Option ℕ → ℕ → Type 0
GivenSecond Q (Some p) (Some b) n = GivenPart Q p b n
GivenSecond Q (Some p) None n = Unit {0}
GivenSecond Q None (Some b) n = Unit {0}
GivenSecond Q None None n = Unit {0}

pub record Given (Q : Place) (r : Rule) (a : ℕ) (b : Option ℕ) (n : ℕ) : Type 0 where
  pub first : GivenPart Q r.first a n
  pub second : GivenSecond Q r.second b n
  pub own : Q n n r.own

-- the table after a creation
abbrev pub after_birth : Table → Rule → ℕ → Option ℕ → ℕ → Table
after_birth t r a b n = gain (give_second (give t r.first a n) r.second b n) n n r.own

module _ (Q : Place) where
  pub fine_put : (t : Table) (h y : ℕ) (s : Tickets) → Fine Q t → Q h y s → Fine Q (put t h y s)
  fine_put t h y s f g a b =
      cond_both (eqb a h && eqb b y) s (t a b) (λ u. Q a b u)
      (λ e. let p = same_pair a b h y e in subst₂ (λ (m n : ℕ). Q m n s) (sym p.0) (sym p.1) g)
      (λ e. f a b)

  module _ (laws : Joins Q) where
    pub fine_gain : (t : Table) (h y : ℕ) (s : Tickets) → Fine Q t → Q h y s → Fine Q (gain t h y s)
    fine_gain t h y s f g = fine_put t h y (join (t h y) s) f (laws.of_join h y (t h y) s (f h y) g)

    fine_give : (t : Table) (p : Part) (a n : ℕ) → Fine Q t → GivenPart Q p a n → Fine Q (give t p a n)
    fine_give t p a n f w =
        let t1 : Table = gain t a n p.for_child in
        let t2 : Table = gain t1 a a p.for_self in
        fine_gain t2 n a p.to_child (fine_gain t1 a a p.for_self (fine_gain t a n p.for_child f w.for_child) w.for_self) w.to_child

    fine_second : (t : Table) (p : Option Part) (b : Option ℕ) (n : ℕ) → Fine Q t → GivenSecond Q p b n → Fine Q (give_second t p b n)
    fine_second t (Some p) (Some b) n f g = fine_give t p b n f g
    fine_second t (Some p) None n f g = f
    fine_second t None (Some b) n f g = f
    fine_second t None None n f g = f

    pub fine_birth : (t : Table) (r : Rule) (a : ℕ) (b : Option ℕ) (n : ℕ) → Fine Q t → Given Q r a b n → Fine Q (after_birth t r a b n)
    fine_birth t r a b n f g =
        fine_gain (give_second (give t r.first a n) r.second b n) n n r.own
        (fine_second (give t r.first a n) r.second b n (fine_give t r.first a n f g.first) g.second) g.own

    pub fine_without : (O : Place) (t : Table) (e : ℕ) → Fine O t → ((h y : ℕ) → eqb h e ≡ false → eqb y e ≡ false → O h y (t h y) → Q h y (t h y))
        → Fine Q (without t e)
    fine_without O t e f i a b =
        cond_both (eqb a e || eqb b e) none (t a b) (λ u. Q a b u)
        (λ _. laws.of_none a b)
        (λ z. let p = or_parts (eqb a e) (eqb b e) z in i a b p.0 p.1 (f a b))

-- what is asked of each ticket of a set
abbrev pub Fact : Type 1
Fact = ℕ → ℕ → ℕ → Bool → Type 0

abbrev pub Each : Fact → Place
Each P h y s = (x : ℕ) (c : Bool) → has s x c ≡ true → P h y x c

-- that a table has it
abbrev pub Held : Table → Fact
Held t h y x c = has (t h y) x c ≡ true

pub each_joins : (P : Fact) → Joins (Each P)
each_joins P = record {
  of_none = λ h y x c e. none_has x c e;
  of_join = λ h y s t f g x c e. elim (join_cases s t x c e) [ inl l ↦ f x c l | inr r ↦ g x c r ];
}

-- what is left without an entity was there before
pub without_within : (t : Table) (e : ℕ) → Contains t (without t e)
without_within t e = fine_without (Each (Held t)) (each_joins (Held t)) (Each (Held t)) t e (λ h y x c k. k) (λ h y p q f. f)

-- a table that contains u, and has the set s in its place, contains what u gains
pub contains_gain : (t u : Table) (h y : ℕ) (s : Tickets) → Contains t u → Within s (t h y) → Contains t (gain u h y s)
contains_gain t u h y s p q = fine_gain (Each (Held t)) (each_joins (Held t)) u h y s p q

pub contains_trans : (t u v : Table) → Contains t u → Contains u v → Contains t v
contains_trans t u v p q h y x c e = p h y x c (q h y x c e)

-- a creation takes nothing away, and every set that it gives is then in its place
module _ (n : ℕ) where
  give_keeps : (t : Table) (p : Part) (a : ℕ) → Contains (give t p a n) t
  give_keeps t p a h y x c e =
      let t1 : Table = gain t a n p.for_child in
      let t2 : Table = gain t1 a a p.for_self in
      gain_keeps t2 n a p.to_child h y x c (gain_keeps t1 a a p.for_self h y x c (gain_keeps t a n p.for_child h y x c e))

  give_gives : (t : Table) (p : Part) (a : ℕ) (u : Table) → Contains u (give t p a n) → GivenPart (λ h y s. Within s (u h y)) p a n
  give_gives t p a u f =
      let t1 : Table = gain t a n p.for_child in
      let t2 : Table = gain t1 a a p.for_self in
      record {
        for_child = λ x c e.
            f a n x c (gain_keeps t2 n a p.to_child a n x c (gain_keeps t1 a a p.for_self a n x c (gain_at t a n p.for_child x c e)));
        for_self = λ x c e. f a a x c (gain_keeps t2 n a p.to_child a a x c (gain_at t1 a a p.for_self x c e));
        to_child = λ x c e. f n a x c (gain_at t2 n a p.to_child x c e);
      }

  second_keeps : (t : Table) (p : Option Part) (b : Option ℕ) → Contains (give_second t p b n) t
  second_keeps t (Some p) (Some b) h y x c e = give_keeps t p b h y x c e
  second_keeps t (Some p) None h y x c e = e
  second_keeps t None (Some b) h y x c e = e
  second_keeps t None None h y x c e = e

  second_gives : (t : Table) (p : Option Part) (b : Option ℕ) (u : Table) → Contains u (give_second t p b n) → GivenSecond (λ h y s. Within s (u h y)) p b n
  second_gives t (Some p) (Some b) u f = give_gives t p b u f
  second_gives t (Some p) None u f = tt
  second_gives t None (Some b) u f = tt
  second_gives t None None u f = tt

  module _ (t : Table) (r : Rule) (a : ℕ) (b : Option ℕ) where
    abbrev by_first : Table
    by_first = give t r.first a n

    abbrev by_both : Table
    by_both = give_second by_first r.second b n

    both_kept : Contains (after_birth t r a b n) by_both
    both_kept = gain_keeps by_both n n r.own

    first_kept : Contains (after_birth t r a b n) by_first
    first_kept h y x c e = both_kept h y x c (second_keeps by_first r.second b h y x c e)

    pub birth_keeps : Contains (after_birth t r a b n) t
    birth_keeps h y x c e = first_kept h y x c (give_keeps t r.first a h y x c e)

    pub birth_gives : Given (λ h y s. Within s (after_birth t r a b n h y)) r a b n
    birth_gives = record {
      first = give_gives t r.first a (after_birth t r a b n) first_kept;
      second = second_gives by_first r.second b (after_birth t r a b n) both_kept;
      own = gain_at by_both n n r.own;
    }
