-- Every call and every entry of a set-up keeps to the room.
use Rattle.std.proofs.Common.{◌≡◌, ℕ, ◌<◌, ◌≤◌, true, false, not, ◌&&◌, leb, length, Some, None, Option, ap, inl, inr, arith}
use Rattle.std.proofs.lemmas.List.{length_push}
use Rattle.std.proofs.lemmas.Bool.{ltb-true, leb-true, leb-false, and_parts, and_from, and_cases, both_ways, not-true, cases_Bool}
use Rattle.model.specs.Tickets.{Tickets, empty}
use Rattle.model.specs.Scheme.{Scheme, Rule}
use Rattle.model.specs.State.{State, Room, new, standing, stored, stores, filled}
use Rattle.model.specs.Calls.{Call, copy, demand, create, drop, retire, checks, reply, effect, after, step, gained, without_right, born_by, child_state, rule_found, rule_for}
use Rattle.model.specs.SetUp.{Entry, enter, place, entry_checks, entry_reply, entry_effect, entry_step}
use Rattle.model.specs.Laws.{Orderly, WithinRoom}
use Rattle.model.proofs.Tables.{empty_has, less_within}
use Rattle.model.proofs.Filling.{takes_le, empty_by, filled_added, filled_stored, takes_less, pairs_removed}
use Rattle.model.proofs.Checks.{AllHold, by_decide}
use Rattle.model.proofs.Entities.{length_removed}

module _ (S : Scheme) (R : Room) (st : State) (o : Orderly st) (w : WithinRoom R st) where
  -- there is a pair for a set that may be stored
  within_stored : (h y : ℕ) (s : Tickets) → standing st h ≡ true → standing st y ≡ true → stores R st h y s ≡ true → WithinRoom R (stored st h y s)
  within_stored h y s a b e = record {
    rows = w.rows;
    pairs = elim (and_cases (empty (st.tickets h y) && not (empty s)) (leb R.pairs (filled st)) (not-true _ e)) [
      | inl f ↦ omega (arith, w.pairs, filled_stored st o.rising h y s a b, takes_less s (st.tickets h y) (λ p. filled_too p f))
      | inr f ↦ omega (arith, leb-false R.pairs (filled st) f, filled_stored st o.rising h y s a b, takes_le s)
    ];
  }
    where
      filled_too : empty (st.tickets h y) ≡ true → (empty (st.tickets h y) && not (empty s)) ≡ false → empty s ≡ true
      filled_too p f = elim (cases_Bool (empty s)) [
        | inl q ↦ q
        | inr q ↦ absurd (both_ways _ f (and_from (empty (st.tickets h y)) (not (empty s)) p (ap not q)))
      ]

  within_born : (q : Option Rule) (a : ℕ) (b : Option ℕ) → length st.entities < R.rows → filled (born_by st q a b) ≤ R.pairs → WithinRoom R (born_by st q a b)
  within_born (Some r) a b l f = record { rows = omega (arith, length_push st.entities (record { number = st.next; kind = r.child })); pairs = f }
  within_born None a b l f = w

  within_effect : (k : Call) → AllHold (checks S R st k) → WithinRoom R (effect S st k)
  within_effect (copy a b y x c) h =
      let aby = and_parts (standing st a && standing st b) (standing st y) h.0 in
      within_stored b y (gained st b y x c) (and_parts (standing st a) (standing st b) aby.0).1 aby.1 h.1.1.1.1.1.1.0
  within_effect (demand b y x c) h =
      let by = and_parts (standing st b) (standing st y) h.0 in
      within_stored b y (gained st b y x c) by.0 by.1 h.1.1.1.1.0
  within_effect (create a b k) h =
      within_born (rule_found S (rule_for S st a b k)) a b (ltb-true (length st.entities) R.rows h.1.1.1.1.0)
      (leb-true (filled (child_state S st a b k)) R.pairs h.1.1.1.1.1.1.0)
  within_effect (drop a y x) h =
      let ay = and_parts (standing st a) (standing st y) h.0 in
      let s : Tickets = without_right (st.tickets a y) x in
      record {
        rows = w.rows;
        pairs = omega (
          arith,
          w.pairs,
          filled_stored st o.rising a y s ay.0 ay.1,
          takes_less s (st.tickets a y) (λ p. empty_by s (λ z c q. empty_has (st.tickets a y) p z c (less_within (st.tickets a y) x z c q))),
        );
      }
  within_effect (retire y) h = record {
    rows = omega (arith, length_removed st.entities y, w.rows);
    pairs = omega (arith, pairs_removed st.tickets y st.entities st.entities, w.pairs);
  }

  pub within_step : (k : Call) → WithinRoom R (step S R st k)
  within_step k = by_decide (λ r. WithinRoom R (after r (effect S st k) st)) (checks S R st k) (reply S st k) (λ _. w) (within_effect k)

  within_entry : (e : Entry) → AllHold (entry_checks S R st e) → WithinRoom R (entry_effect st e)
  within_entry (enter k) h = record {
    rows = omega (arith, ltb-true (length st.entities) R.rows h.1.0, length_push st.entities (record { number = st.next; kind = k }));
    pairs = omega (arith, w.pairs, filled_added st o k);
  }
  within_entry (place a y x c) h =
      let ay = and_parts (standing st a) (standing st y) h.0 in
      within_stored a y (gained st a y x c) ay.0 ay.1 h.1.1.1.0

  pub within_entry_step : (e : Entry) → WithinRoom R (entry_step S R st e)
  within_entry_step e = by_decide (λ r. WithinRoom R (after r (entry_effect st e) st)) (entry_checks S R st e) (entry_reply st e) (λ _. w) (within_entry e)

pub within_new : (R : Room) → WithinRoom R new
within_new R = record { rows = omega arith; pairs = omega arith }
