-- In ample room every authorised copy and demand is granted. So calls bring about whatever authorised copies and demands reach, one ticket
-- after another.
use Rattle.std.proofs.Common.{◌≡◌, ℕ, zero, suc, ◌*◌, ◌<◌, ◌≤◌, Bool, true, false, not, ◌&&◌, leb, ◌⊎◌, List, [], ◌∷◌, ◌++◌, length, sym, refl, ap, ◌∙◌, inl, inr, arith}
use Rattle.std.proofs.lemmas.Nat.{mul-le}
use Rattle.std.proofs.lemmas.Bool.{and_left, and_right, cases_Bool, cases_eq, both_ways, cond-true, cond-false, lt-leb, not_from_false, not_from_true}
use Rattle.model.specs.Tickets.{Tickets, has, ticket_of, empty}
use Rattle.model.specs.Scheme.{Scheme, Monotone}
use Rattle.model.specs.State.{State, Room, Table, standing, gain, holding, stored, stores, filled, takes}
use Rattle.model.specs.Calls.{Call, copy, demand, gained}
use Rattle.model.specs.Runs.{run}
use Rattle.model.specs.Laws.{Rising}
use Rattle.model.specs.Grants.{MayCopy, MayDemand}
use Rattle.model.specs.Spread.{Contains, Grows, start, copies, demanded}
use Rattle.model.proofs.Tables.{gain_keeps, gain_at, contains_trans, contains_gain}
use Rattle.model.proofs.Filling.{pairs_le, filled_stored}
use Rattle.model.proofs.Links.{still_may_copy, still_may_demand}
use Rattle.model.proofs.Grants.{copy_exact, demand_exact, step_granted}
use Rattle.model.proofs.Runs.{run_append}

-- rows for all entities, and a pair for every two rows: a set can be stored wherever holder and target stand
pub never_full : (R : Room) → R.rows * R.rows ≤ R.pairs → (st : State) → Rising 1 st.entities st.next → length st.entities ≤ R.rows
    → (h y : ℕ) (s : Tickets) → standing st h ≡ true → standing st y ≡ true → stores R st h y s ≡ true
never_full R room st r fits h y s a b = go (cases_Bool (empty (st.tickets h y))) (cases_Bool (empty s))
  where
    go : (empty (st.tickets h y) ≡ true) ⊎ (empty (st.tickets h y) ≡ false) → (empty s ≡ true) ⊎ (empty s ≡ false) → stores R st h y s ≡ true
    go (inr e) q =
        not_from_false _ (and_left (empty (st.tickets h y) && not (empty s)) (leb R.pairs (filled st)) (and_left (empty (st.tickets h y)) (not (empty s)) e))
    go (inl e) (inl q) =
        not_from_false _
        (and_left (empty (st.tickets h y) && not (empty s)) (leb R.pairs (filled st)) (and_right (empty (st.tickets h y)) (not (empty s)) (not_from_true (empty s) q)))
    go (inl e) (inr q) =
        let z : ◌≡◌ {A = ℕ} (takes (st.tickets h y)) 0 = cond-true (empty (st.tickets h y)) 0 1 e in
        let o : ◌≡◌ {A = ℕ} (takes s) 1 = cond-false (empty s) 0 1 q in
        let n : State = stored st h y s in
        let fewer : filled st < R.pairs =
        omega (
          arith,
          filled_stored st r h y s a b,
          pairs_le n.tickets st.entities st.entities,
          mul-le (length st.entities) (length st.entities) R.rows R.rows fits fits,
        ) in
        not_from_false _ (and_right (empty (st.tickets h y) && not (empty s)) (leb R.pairs (filled st)) (lt-leb R.pairs (filled st) fewer))

-- calls that leave the entities as they are, and enlarge the table
pub record Moves (S : Scheme) (R : Room) (st : State) (u : Table) : Type 0 where
  pub calls : List Call
  pub table : Table
  pub ran : run S R (holding st u) calls ≡ holding st table
  pub more : Contains table u

module _ (S : Scheme) (R : Room) (room : R.rows * R.rows ≤ R.pairs) (st : State) (r : Rising 1 st.entities st.next) (fits : length st.entities ≤ R.rows) where
  unfoldable copy_moves : (u : Table) (a b y x : ℕ) (c : Bool) → MayCopy S (holding st u) a b y x c → Moves S R st u
  copy_moves u a b y x c k =
      let z : State = holding st u in
      let g = (copy_exact S R z a b y x c).whenever (k, never_full R room z r fits b y (gained z b y x c) k.taker k.target) in
      record {
        calls = copy a b y x c ∷ [];
        table = gain u b y (ticket_of x c);
        ran = sym (step_granted S R z (copy a b y x c) g.0 g.1);
        more = gain_keeps u b y (ticket_of x c);
      }

  unfoldable demand_moves : (u : Table) (b y x : ℕ) (c : Bool) → MayDemand S (holding st u) b y x c → Moves S R st u
  demand_moves u b y x c k =
      let z : State = holding st u in
      let g = (demand_exact S R z b y x c).whenever (k, never_full R room z r fits b y (gained z b y x c) k.demander k.target) in
      record {
        calls = demand b y x c ∷ [];
        table = gain u b y (ticket_of x c);
        ran = sym (step_granted S R z (demand b y x c) g.0 g.1);
        more = gain_keeps u b y (ticket_of x c);
      }

  unfoldable stay : (u : Table) → Moves S R st u
  stay u = record { calls = []; table = u; ran = refl; more = λ h y x c e. e }

  unfoldable and_then : (u : Table) (m : Moves S R st u) → Moves S R st m.table → Moves S R st u
  and_then u m n = record {
    calls = m.calls ++ n.calls;
    table = n.table;
    ran = run_append S R m.calls n.calls (holding st u) ∙ (ap (λ (z : State). run S R z n.calls) m.ran ∙ n.ran);
    more = contains_trans n.table m.table u n.more m.more;
  }

  -- a whole set for b and y, where from every larger table than t each ticket of it can be had
  module _ (s : Tickets) (b y : ℕ) (t : Table)
      (gets : (x : ℕ) (d : Bool) → has s x d ≡ true → (u : Table) → Contains u t → (m : Moves S R st u) × (has (m.table b y) x d ≡ true))
    where
      -- from u on, calls give b all tickets for y of s that pass
      abbrev Gets : (ℕ → Bool → Type 0) → Table → Type 0
      Gets P u = (m : Moves S R st u) × ((x : ℕ) (d : Bool) → P x d → has s x d ≡ true → has (m.table b y) x d ≡ true)

      one : (x : ℕ) (d : Bool) (u : Table) → Contains u t → (m : Moves S R st u) × (has s x d ≡ true → has (m.table b y) x d ≡ true)
      one x d u p = go (cases_Bool (has s x d))
        where
          go : (has s x d ≡ true) ⊎ (has s x d ≡ false) → (m : Moves S R st u) × (has s x d ≡ true → has (m.table b y) x d ≡ true)
          go (inl e) = let g : (m : Moves S R st u) × (has (m.table b y) x d ≡ true) = gets x d e u p in (g.0, λ _. g.1)
          go (inr e) = (stay u, λ f. absurd (both_ways (has s x d) e f))

      all : (n : ℕ) (u : Table) → Contains u t → Gets (λ x d. x < n) u
      unfolding and_then
      all zero u p = (stay u, λ x d l e. absurd (omega arith))
      all (suc n) u p = go (all n u p)
        where
          last : (m : Moves S R st u) → ((x : ℕ) (d : Bool) → x < n → has s x d ≡ true → has (m.table b y) x d ≡ true)
              → (k : Moves S R st m.table) → (has s n true ≡ true → has (k.table b y) n true ≡ true)
              → (l : Moves S R st k.table) → (has s n false ≡ true → has (l.table b y) n false ≡ true)
              → Gets (λ x d. x < suc n) u
          last m before k flagged l plain = (and_then u m (and_then m.table k l), λ x d h e. at x d h e (cases_eq x n))
            where
              here : (d : Bool) → has s n d ≡ true → has (l.table b y) n d ≡ true
              here true e = l.more b y n true (flagged e)
              here false e = plain e

              at : (x : ℕ) (d : Bool) → x < suc n → has s x d ≡ true → (x ≡ n) ⊎ (x ≡ n → ⊥) → has (l.table b y) x d ≡ true
              at x d h e (inl q) = rw q (here d (rw q at e))
              at x d h e (inr q) = l.more b y x d (k.more b y x d (before x d (omega arith) e))

          next : (m : Moves S R st u) → ((x : ℕ) (d : Bool) → x < n → has s x d ≡ true → has (m.table b y) x d ≡ true) → Contains m.table t
              → ((k : Moves S R st m.table) × (has s n true ≡ true → has (k.table b y) n true ≡ true)) → Gets (λ x d. x < suc n) u
          next m before pm k =
              let l = one n false k.0.table (contains_trans k.0.table m.table t k.0.more pm) in
              last m before k.0 k.1 l.0 l.1

          go : Gets (λ x d. x < n) u → Gets (λ x d. x < suc n) u
          go a =
              let pm : Contains a.0.table t = contains_trans a.0.table u t a.0.more p in
              next a.0 a.1 pm (one n true a.0.table pm)

      whole : ((x : ℕ) (d : Bool) → has s x d ≡ true → x < S.rights) → (u : Table) → Contains u t → (m : Moves S R st u) × Contains m.table (gain t b y s)
      whole known u p =
          let a = all S.rights u p in
          (a.0, contains_gain a.0.table t b y s (contains_trans a.0.table u t a.0.more p) (λ x c e. a.1 x c (known x c e) e))

  module _ (mono : Monotone S) where
    by_copies : (t : Table) (a b y : ℕ) (s : Tickets)
        → ((x : ℕ) (d : Bool) → has s x d ≡ true → (c : Bool) × (has (ticket_of x c) x d ≡ true) × MayCopy S (holding st t) a b y x c)
        → (x : ℕ) (d : Bool) → has s x d ≡ true → (u : Table) → Contains u t → (m : Moves S R st u) × (has (m.table b y) x d ≡ true)
    unfolding copy_moves
    by_copies t a b y s f x d e u p =
        let g = f x d e in
        (copy_moves u a b y x g.0 (still_may_copy S st t u mono p a b y x g.0 g.2), gain_at u b y (ticket_of x g.0) x d g.1)

    by_demands : (t : Table) (b y : ℕ) (s : Tickets)
        → ((x : ℕ) (d : Bool) → has s x d ≡ true → (c : Bool) × (has (ticket_of x c) x d ≡ true) × MayDemand S (holding st t) b y x c)
        → (x : ℕ) (d : Bool) → has s x d ≡ true → (u : Table) → Contains u t → (m : Moves S R st u) × (has (m.table b y) x d ≡ true)
    unfolding demand_moves
    by_demands t b y s f x d e u p =
        let g = f x d e in
        (demand_moves u b y x g.0 (still_may_demand S st t u b y x g.0 g.2), gain_at u b y (ticket_of x g.0) x d g.1)

    -- what was reached, calls bring about
    pub replayed : (t : Table) → Grows S st t → (m : Moves S R st st.tickets) × Contains m.table t
    unfolding stay and_then
    replayed t start = (stay st.tickets, λ h y x c e. e)
    replayed t (copies u a b y s g f) = go (replayed u g)
      where
        go : ((m : Moves S R st st.tickets) × Contains m.table u) → (m : Moves S R st st.tickets) × Contains m.table (gain u b y s)
        go v =
            let k = whole s b y u (by_copies u a b y s f) (λ x d e. (f x d e).2.known) v.0.table v.1 in
            (and_then st.tickets v.0 k.0, k.1)
    replayed t (demanded u b y s g f) = go (replayed u g)
      where
        go : ((m : Moves S R st st.tickets) × Contains m.table u) → (m : Moves S R st st.tickets) × Contains m.table (gain u b y s)
        go v =
            let k = whole s b y u (by_demands u b y s f) (λ x d e. (f x d e).2.known) v.0.table v.1 in
            (and_then st.tickets v.0 k.0, k.1)
