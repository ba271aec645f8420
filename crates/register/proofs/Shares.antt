-- The shares of a birth: what they fill, that there is always a pair for each set while there is one for all, and that one entity
-- that is both parents has one share.
use Rattle.std.proofs.Common.{◌≡◌, ℕ, ◌+◌, ◌<◌, ◌≤◌, Bool, true, false, not, ◌&&◌, eqb, leb, ◌≢◌, [], ◌∷◌, is_some, IfSome, Some, None, Option, sym, ap, ◌∙◌, inl, inr, arith}
use Rattle.std.proofs.lemmas.Bool.{cases_Bool, cond-true, cond-false, ne_eqb, and_left, and_right, not_from_false, leb-true}
use Rattle.model.specs.declared.refusal.Refusal.TheVariants.{PairsTaken}
use Rattle.model.specs.Refusals.{granted, refused}
use Rattle.model.specs.Tickets.{Tickets, tickets_of, empty, join}
use Rattle.model.specs.Scheme.{Part, part_of}
use Rattle.model.specs.State.{State, Table, Room, standing, gain, added, holding, filled, stores, takes, takes_beside}
use Rattle.model.specs.Calls.{check, passed, store_answer, give}
use Rattle.model.specs.Laws.{Rising, Orderly}
use Rattle.model.proofs.Entities.{free, push_new, pushed_kind, rising_push, stands_below}
use Rattle.model.proofs.Gains.{give_twice}
use Rattle.model.proofs.Filling.{put_off, takes_join, filled_gain, filled_added, none_for_next, none_by_next}
use Rattle.register.specs.declared.births.Share.{Share}
use Rattle.register.specs.declared.births.Birth.{Birth}
use Rattle.register.specs.Births.{join_parts, give_share, give_other, birth_table, brought, share_pairs, ParentsStand}

takes_none : (s : Tickets) → takes s ≡ 0 → empty s ≡ true
takes_none s z = elim (cases_Bool (empty s)) [ inl e ↦ e | inr f ↦ absurd (omega (arith, z, cond-false {A = ℕ} (empty s) 0 1 f)) ]

-- a set that is gained is stored where what is filled afterwards is within the room
pub gain_stored : (R : Room) (st : State) → Rising 1 st.entities st.next → (h y : ℕ) (s : Tickets) → standing st h ≡ true → standing st y ≡ true
    → filled (holding st (gain st.tickets h y s)) ≤ R.pairs → store_answer R st h y (join (st.tickets h y) s) ≡ granted tt
gain_stored R st r h y s i j l =
    cond-true (standing st h && standing st y) (passed (check PairsTaken (stores R st h y set) ∷ [])) (refused 1) both ∙ cond-true (stores R st h y set) (granted tt) (refused 11) stored
  where
    set : Tickets
    set = join (st.tickets h y) s

    both : (standing st h && standing st y) ≡ true
    both = ap (λ (b : Bool). b && standing st y) i ∙ j

    stored : stores R st h y set ≡ true
    stored = elim (cases_Bool (leb R.pairs (filled st))) [
      | inl full ↦
          let none : takes_beside (st.tickets h y) s ≡ 0 = omega (arith, filled_gain st r st.tickets h y s i j, leb-true R.pairs (filled st) full) in
          elim (cases_Bool (empty (st.tickets h y))) [
            | inl e ↦
                let z : takes set ≡ 0 = omega (arith, takes_join (st.tickets h y) s, cond-true {A = ℕ} (empty (st.tickets h y)) 0 1 e) in
                not_from_false _ (and_left (empty (st.tickets h y) && not (empty set)) (leb R.pairs (filled st)) (and_right (empty (st.tickets h y)) (not (empty set)) (ap not (takes_none set z))))
            | inr f ↦ not_from_false _ (and_left (empty (st.tickets h y) && not (empty set)) (leb R.pairs (filled st)) (and_left (empty (st.tickets h y)) (not (empty set)) f))
          ]
      | inr left ↦ not_from_false _ (and_right (empty (st.tickets h y) && not (empty set)) (leb R.pairs (filled st)) left)
    ]

-- how many pairs the other share fills, where there is one
abbrev pub other_pairs : Table → Option Share → ℕ
other_pairs t (Some s) = share_pairs t s
other_pairs t None = 0

-- in a state where the child stands
module _ (st : State) (r : Rising 1 st.entities st.next) (n : ℕ) (child : standing st n ≡ true) where
  pub gain_grows : (t : Table) (h y : ℕ) (s : Tickets) → standing st h ≡ true → standing st y ≡ true → filled (holding st t) ≤ filled (holding st (gain t h y s))
  gain_grows t h y s i j = omega (arith, filled_gain st r t h y s i j)

  pub own_grows : (t : Table) (s : Tickets) → filled (holding st t) ≤ filled (holding st (gain t n n s))
  own_grows t s = gain_grows t n n s child child

  pub share_grows : (t : Table) (s : Share) → standing st s.parent ≡ true → filled (holding st t) ≤ filled (holding st (give_share t s n))
  share_grows t s i =
      let a : ℕ = s.parent in
      let p : Part = part_of s.part in
      let t1 : Table = gain t a n p.for_child in
      let t2 : Table = gain t1 a a p.for_self in
      omega (arith, gain_grows t a n p.for_child i child, gain_grows t1 a a p.for_self i i, gain_grows t2 n a p.to_child child i)

  pub other_grows : (t : Table) (o : Option Share) → IfSome o (λ s. standing st s.parent ≡ true) → filled (holding st t) ≤ filled (holding st (give_other t o n))
  other_grows t (Some s) i = share_grows t s i
  other_grows t None i = omega arith

  -- a share is given one set after another
  module _ (t : Table) (s : Share) (i : standing st s.parent ≡ true) (most : ℕ) (fits : filled (holding st (give_share t s n)) ≤ most) where
    abbrev a : ℕ
    a = s.parent

    abbrev p : Part
    p = part_of s.part

    abbrev t1 : Table
    t1 = gain t a n p.for_child

    abbrev t2 : Table
    t2 = gain t1 a a p.for_self

    pub self_fits : filled (holding st t2) ≤ most
    self_fits = omega (arith, fits, gain_grows t2 n a p.to_child child i)

    pub child_fits : filled (holding st t1) ≤ most
    child_fits = omega (arith, self_fits, gain_grows t1 a a p.for_self i i)

  -- and a birth one share after another
  module _ (t : Table) (v : Birth) (i : IfSome v.second (λ s. standing st s.parent ≡ true)) (most : ℕ) (fits : filled (holding st (birth_table t v n)) ≤ most) where
    abbrev by_first : Table
    by_first = give_share t v.first n

    pub other_fits : filled (holding st (give_other by_first v.second n)) ≤ most
    other_fits = omega (arith, fits, own_grows (give_other by_first v.second n) (tickets_of v.own))

    pub first_fits : filled (holding st by_first) ≤ most
    first_fits = omega (arith, other_fits, other_grows by_first v.second i)

  -- the pairs of a share are those of the parent and the child, and of the parent with itself
  share_off : (t : Table) (s : Share) (x y : ℕ) → eqb x s.parent ≡ false → (eqb x n && eqb y s.parent) ≡ false → give_share t s n x y ≡ t x y
  share_off t s x y f g =
      let a : ℕ = s.parent in
      let t1 : Table = gain t a n (part_of s.part).for_child in
      let t2 : Table = gain t1 a a (part_of s.part).for_self in
      put_off t2 n a _ x y g ∙ put_off t1 a a _ x y (and_left (eqb x a) (eqb y a) f) ∙ put_off t a n _ x y (and_left (eqb x a) (eqb y n) f)

  -- a set beside nothing takes what it takes alone
  beside_none : (v s : Tickets) → empty v ≡ true → takes_beside v s ≡ takes s
  beside_none v s e = cond-true (empty v) (takes s) 0 e

  share_filled : (t : Table) (s : Share) → standing st s.parent ≡ true → s.parent ≢ n → empty (t s.parent n) ≡ true → empty (t n s.parent) ≡ true
      → filled (holding st (give_share t s n)) ≡ filled (holding st t) + share_pairs t s
  share_filled t s i ne e f =
      let a : ℕ = s.parent in
      let p : Part = part_of s.part in
      let t1 : Table = gain t a n p.for_child in
      let t2 : Table = gain t1 a a p.for_self in
      let an : eqb a n ≡ false = ne_eqb a n ne in
      let na : eqb n a ≡ false = ne_eqb n a (λ q. ne (sym q)) in
      let at_self : t1 a a ≡ t a a = put_off t a n _ a a (and_right (eqb a a) (eqb a n) an) in
      let at_child : t2 n a ≡ t n a = put_off t1 a a _ n a (and_left (eqb n a) (eqb a a) na) ∙ put_off t a n _ n a (and_left (eqb n a) (eqb a n) na) in
      omega (
        arith,
        filled_gain st r t a n p.for_child i child,
        beside_none (t a n) p.for_child e,
        filled_gain st r t1 a a p.for_self i i,
        ap (λ (v : Tickets). takes_beside v p.for_self) at_self,
        filled_gain st r t2 n a p.to_child child i,
        beside_none (t2 n a) p.to_child (ap empty at_child ∙ f),
      )

  -- of a table without tickets for the child or by it
  module _ (t : Table) (to : (h : ℕ) → empty (t h n) ≡ true) (by : (y : ℕ) → empty (t n y) ≡ true) (first : Share) (i : standing st first.parent ≡ true) (ne : first.parent ≢ n) where
    abbrev u : Table
    u = give_share t first n

    na : eqb n first.parent ≡ false
    na = ne_eqb n first.parent (λ q. ne (sym q))

    first_own : u n n ≡ t n n
    first_own = share_off t first n n na (and_right (eqb n n) (eqb n first.parent) na)

    first_filled : filled (holding st u) ≡ filled (holding st t) + share_pairs t first
    first_filled = share_filled t first i ne (to first.parent) (by first.parent)

    abbrev Fine : Option Share → Type 0
    Fine o = IfSome o (λ s. (standing st s.parent ≡ true) × (s.parent ≢ first.parent) × (s.parent ≢ n))

    other_filled : (o : Option Share) → Fine o → (filled (holding st (give_other u o n)) ≡ filled (holding st u) + other_pairs t o) × (give_other u o n n n ≡ t n n)
    other_filled (Some s) h =
        let b : ℕ = s.parent in
        let ba : eqb b first.parent ≡ false = ne_eqb b first.parent h.1 in
        let bn : eqb b n ≡ false = ne_eqb b n h.2 in
        let nb : eqb n b ≡ false = ne_eqb n b (λ q. h.2 (sym q)) in
        let to_off : u b n ≡ t b n = share_off t first b n ba (and_left (eqb b n) (eqb n first.parent) bn) in
        let self_off : u b b ≡ t b b = share_off t first b b ba (and_left (eqb b n) (eqb b first.parent) bn) in
        let by_off : u n b ≡ t n b = share_off t first n b na (and_right (eqb n n) (eqb b first.parent) ba) in
        let self : share_pairs u s ≡ share_pairs t s =
        ap (λ (v : Tickets). takes (tickets_of s.part.for_child) + takes_beside v (tickets_of s.part.for_self) + takes (tickets_of s.part.to_child)) self_off in (
          share_filled u s h.0 h.2 (ap empty to_off ∙ to b) (ap empty by_off ∙ by b) ∙ ap (λ (k : ℕ). filled (holding st u) + k) self,
          share_off u s n n nb (and_right (eqb n n) (eqb n b) nb) ∙ first_own,
        )
    other_filled None h = (omega arith, first_own)

    pub all_filled : (o : Option Share) (own : Tickets) → Fine o
        → filled (holding st (gain (give_other u o n) n n own)) ≡ filled (holding st t) + (share_pairs t first + other_pairs t o + takes own)
    all_filled o own h =
        let w : Table = give_other u o n in
        let q = other_filled o h in
        omega (arith, filled_gain st r w n n own child child, beside_none (w n n) own (ap empty q.1 ∙ by n), q.0, first_filled)

-- the child stands beside all that stood
module _ (st : State) (o : Orderly st) (k : ℕ) where
  pub child_stands : standing (added st k) st.next ≡ true
  child_stands = ap is_some (push_new st.entities (record { number = st.next; kind = k }) (free st.entities st.next o.rising))

  pub still_stands : (e : ℕ) → standing st e ≡ true → standing (added st k) e ≡ true
  still_stands e h = ap is_some (pushed_kind st.entities (record { number = st.next; kind = k }) e h) ∙ h

  pub risen : Rising 1 (added st k).entities (added st k).next
  risen = rising_push 1 st.entities st.next k o.rising

  pub not_next : (e : ℕ) → standing st e ≡ true → e ≢ st.next
  not_next e h q = omega (arith, stands_below st.entities st.next o.rising e h)

-- a birth fills what its shares and the child's own tickets do
pub birth_filled : (st : State) → Orderly st → (v : Birth) → ParentsStand st v
    → filled st + (share_pairs st.tickets v.first + other_pairs st.tickets v.second + takes (tickets_of v.own)) ≡ filled (brought st v)
birth_filled st o v p =
    let k : ℕ = v.child in
    let all = all_filled (added st k) (risen st o k) st.next (child_stands st o k) st.tickets (none_for_next st o) (none_by_next st o) v.first
    (still_stands st o k v.first.parent p.first) (not_next st o k v.first.parent p.first) v.second (tickets_of v.own) (fine v.second p.second) in
    omega (arith, all, filled_added st o k)
  where
    fine : (q : Option Share) → IfSome q (λ s. (standing st s.parent ≡ true) × (s.parent ≢ v.first.parent))
        → IfSome q (λ s. (standing (added st v.child) s.parent ≡ true) × (s.parent ≢ v.first.parent) × (s.parent ≢ st.next))
    fine (Some s) h = (still_stands st o v.child s.parent h.0, h.1, not_next st o v.child s.parent h.0)
    fine None h = tt

-- one entity that is both parents
pub one_share : (st : State) (p q j : Part) (a k : ℕ) (own : Tickets) → a < st.next → j ≡ join_parts p q
    → holding (added st k) (gain (give st.tickets j a st.next) st.next st.next own)
    ≡ holding (added st k) (gain (give (give st.tickets p a st.next) q a st.next) st.next st.next own)
one_share st p q j a k own l e =
    let n : ℕ = st.next in
    ap (λ (t : Table). holding (added st k) (gain t n n own)) (give_twice st.tickets p q j a n (ne_eqb a n (λ z. omega arith)) (ne_eqb n a (λ z. omega arith))
    (ap (λ (x : Part). x.for_child) e) (ap (λ (x : Part). x.for_self) e) (ap (λ (x : Part). x.to_child) e))
