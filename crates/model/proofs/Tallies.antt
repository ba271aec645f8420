-- The tally of a register: a number was given as often as it stands or was retired, and at most once.
use Rattle.std.proofs.Common.{◌≡◌, ℕ, suc, ◌+◌, ◌≤◌, Bool, true, false, cond, eqb, List, [], ◌∷◌, ◌++◌, is_some, Some, None, Option, sym, refl, ap, ◌∙◌, subst, arith}
use Rattle.std.proofs.lemmas.Bool.{eqb-true, both_ways, cond_both}
use Rattle.model.specs.declared.tickets.Entity.{Entity}
use Rattle.model.specs.Refusals.{granted, refused}
use Rattle.model.specs.Scheme.{Scheme, Rule, WellFormed}
use Rattle.model.specs.State.{State, Room, new, kind_in, remove}
use Rattle.model.specs.Calls.{Call, copy, demand, create, drop, retire, checks, reply, answer, effect, after, step, born_by, rule_found, rule_for}
use Rattle.model.specs.SetUp.{Entry, enter, place, entry_checks, entry_reply, entry_answer, entry_effect, entry_step}
use Rattle.model.specs.Runs.{run, set_up, Moment, register_at, Event, given, ended, event_of, events, entry_event, entry_events}
use Rattle.model.specs.Laws.{Sound}
use Rattle.model.specs.Lives.{history, times_given, times_ended}
use Rattle.model.proofs.Entities.{free, push_stands, remove_stands}
use Rattle.model.proofs.Checks.{AllHold, by_decide}
use Rattle.model.proofs.RuleNumbers.{rule_there}
use Rattle.model.proofs.Soundness.{sound_new, sound_step, sound_entry_step}
use Rattle.model.proofs.Runs.{set_up_keeps}

-- The tally of a register, with the next number and the entities: how often each number was given and how often it was retired. It was
-- given as often as it stands or was retired, at most once, and not from the next number on.
pub record Tally (next : ℕ) (es : List Entity) (gave took : ℕ → ℕ) : Type 0 where
  pub balance : (n : ℕ) → gave n ≡ cond (is_some (kind_in es n)) 1 0 + took n
  pub once : (n : ℕ) → gave n ≤ 1
  pub unborn : (n : ℕ) → next ≤ n → gave n ≡ 0

tally_as : (next : ℕ) (es : List Entity) (g h t u : ℕ → ℕ) → ((n : ℕ) → h n ≡ g n) → ((n : ℕ) → u n ≡ t n) → Tally next es g t → Tally next es h u
tally_as next es g h t u p q a = record {
  balance = λ n. omega (arith, p n, q n, a.balance n);
  once = λ n. omega (arith, p n, a.once n);
  unborn = λ n l. p n ∙ a.unborn n l;
}

module _ (next : ℕ) (es : List Entity) (g t : ℕ → ℕ) (a : Tally next es g t) where
  gives_one : (b s : Bool) (m l : ℕ) → (b ≡ true → s ≡ false) → m ≡ cond s 1 0 + l → m + cond b 1 0 ≡ cond (cond b true s) 1 0 + l
  gives_one true true m l f e = absurd (both_ways true (f refl) refl)
  gives_one true false m l f e = omega arith
  gives_one false true m l f e = omega arith
  gives_one false false m l f e = omega arith

  takes_one : (b s : Bool) (m l : ℕ) → (b ≡ true → s ≡ true) → m ≡ cond s 1 0 + l → m ≡ cond (cond b false s) 1 0 + (l + cond b 1 0)
  takes_one true true m l f e = omega arith
  takes_one true false m l f e = absurd (both_ways false refl (f refl))
  takes_one false true m l f e = omega arith
  takes_one false false m l f e = omega arith

  -- the next number is given
  tally_given : (k : ℕ) → kind_in es next ≡ None → Tally (suc next) (es ++ record { number = next; kind = k } ∷ []) (λ n. g n + cond (eqb next n) 1 0) t
  tally_given k f = record {
    balance = λ n. gives_one (eqb next n) (is_some (kind_in es n)) (g n) (t n)
        (λ e. subst (λ (m : ℕ). is_some (kind_in es m) ≡ false) (eqb-true next n e) (ap is_some f)) (a.balance n)
        ∙ ap (λ (b : Bool). cond b 1 0 + t n) (sym (push_stands es next k n));
    once = λ n. cond_both (eqb next n) 1 0 (λ (i : ℕ). g n + i ≤ 1) (λ e. omega (arith, eqb-true next n e, a.unborn n)) (λ e. omega (arith, a.once n));
    unborn = λ n l. cond_both (eqb next n) 1 0 (λ (i : ℕ). g n + i ≡ 0) (λ e. omega (arith, eqb-true next n e)) (λ e. omega (arith, a.unborn n));
  }

  -- an entity that stands is retired
  tally_ended : (y : ℕ) → is_some (kind_in es y) ≡ true → Tally next (remove es y) g (λ n. t n + cond (eqb y n) 1 0)
  tally_ended y h = record {
    balance = λ n. takes_one (eqb y n) (is_some (kind_in es n)) (g n) (t n)
        (λ e. subst (λ (m : ℕ). is_some (kind_in es m) ≡ true) (eqb-true y n e) h) (a.balance n)
        ∙ ap (λ (b : Bool). cond b 1 0 + (t n + cond (eqb y n) 1 0)) (sym (remove_stands es y n));
    once = a.once;
    unborn = a.unborn;
  }

pub given_append : (xs ys : List Event) (n : ℕ) → times_given (xs ++ ys) n ≡ times_given xs n + times_given ys n
given_append [] ys n = omega arith
given_append (given m ∷ xs) ys n = omega (arith, given_append xs ys n)
given_append (ended m ∷ xs) ys n = given_append xs ys n

pub ended_append : (xs ys : List Event) (n : ℕ) → times_ended (xs ++ ys) n ≡ times_ended xs n + times_ended ys n
ended_append [] ys n = omega arith
ended_append (given m ∷ xs) ys n = ended_append xs ys n
ended_append (ended m ∷ xs) ys n = omega (arith, ended_append xs ys n)

-- the tally after some events more
abbrev Tallied : State → (ℕ → ℕ) → (ℕ → ℕ) → List Event → Type 0
Tallied st g t es = Tally st.next st.entities (λ n. g n + times_given es n) (λ n. t n + times_ended es n)

module _ (st : State) (g t : ℕ → ℕ) where
  none_told : Tally st.next st.entities g t → Tallied st g t []
  none_told a = tally_as st.next st.entities g (λ n. g n + 0) t (λ n. t n + 0) (λ n. omega arith) (λ n. omega arith) a

  more_told : (xs ys : List Event) → Tallied st (λ n. g n + times_given xs n) (λ n. t n + times_ended xs n) ys → Tallied st g t (xs ++ ys)
  more_told xs ys a =
      tally_as st.next st.entities (λ n. (g n + times_given xs n) + times_given ys n) (λ n. g n + times_given (xs ++ ys) n)
      (λ n. (t n + times_ended xs n) + times_ended ys n) (λ n. t n + times_ended (xs ++ ys) n)
      (λ n. omega (arith, given_append xs ys n)) (λ n. omega (arith, ended_append xs ys n)) a

-- a refused call tells nothing
quiet : (k : Call) (m : ℕ) → event_of k (refused m) ≡ []
quiet (copy a b y x c) m = refl
quiet (demand b y x c) m = refl
quiet (create a b k) m = refl
quiet (drop a y x) m = refl
quiet (retire y) m = refl

entry_quiet : (e : Entry) (m : ℕ) → entry_event e (refused m) ≡ []
entry_quiet (enter k) m = refl
entry_quiet (place a y x c) m = refl

module _ (S : Scheme) (R : Room) (st : State) (s : Sound S st) (g t : ℕ → ℕ) (p : Tally st.next st.entities g t) where
  one_given : (k : ℕ) → Tally (suc st.next) (st.entities ++ record { number = st.next; kind = k } ∷ []) (λ n. g n + times_given (given st.next ∷ []) n) (λ n. t n + 0)
  one_given k =
      tally_as (suc st.next) (st.entities ++ record { number = st.next; kind = k } ∷ [])
      (λ n. g n + cond (eqb st.next n) 1 0) (λ n. g n + times_given (given st.next ∷ []) n) t (λ n. t n + 0) (λ n. omega arith) (λ n. omega arith)
      (tally_given st.next st.entities g t p k (free st.entities st.next s.orderly.rising))

  tally_born : (q : Option Rule) (r : Rule) → q ≡ Some r → (a : ℕ) (b : Option ℕ) → Tallied (born_by st q a b) g t (given st.next ∷ [])
  tally_born (Some q) r e a b = one_given q.child
  tally_born None r e a b = let z : ◌≡◌ {A = ℕ} 0 1 = cc in absurd (omega arith)

  tally_effect : (k : Call) → AllHold (checks S R st k) → Tallied (effect S st k) g t (event_of k (granted (reply S st k)))
  tally_effect (copy a b y x c) h = none_told st g t p
  tally_effect (demand b y x c) h = none_told st g t p
  tally_effect (create a b k) h =
      let r = rule_there S st a b k h.1.1.1.0 in
      tally_born (rule_found S (rule_for S st a b k)) r.0 r.1 a b
  tally_effect (drop a y x) h = none_told st g t p
  tally_effect (retire y) h =
      tally_as st.next (remove st.entities y) g (λ n. g n + 0) (λ n. t n + cond (eqb y n) 1 0) (λ n. t n + times_ended (ended y ∷ []) n) (λ n. omega arith) (λ n. omega arith)
      (tally_ended st.next st.entities g t p y h.0)

  tally_step : (k : Call) → Tallied (step S R st k) g t (event_of k (answer S R st k))
  tally_step k = by_decide (λ r. Tallied (after r (effect S st k) st) g t (event_of k r)) (checks S R st k) (reply S st k)
      (λ m. subst (λ (l : List Event). Tallied st g t l) (sym (quiet k m)) (none_told st g t p)) (tally_effect k)

  tally_entry : (e : Entry) → Tallied (entry_effect st e) g t (entry_event e (granted (entry_reply st e)))
  tally_entry (enter k) = one_given k
  tally_entry (place a y x c) = none_told st g t p

  tally_entry_step : (e : Entry) → Tallied (entry_step S R st e) g t (entry_event e (entry_answer S R st e))
  tally_entry_step e = by_decide (λ r. Tallied (after r (entry_effect st e) st) g t (entry_event e r)) (entry_checks S R st e) (entry_reply st e)
      (λ m. subst (λ (l : List Event). Tallied st g t l) (sym (entry_quiet e m)) (none_told st g t p)) (λ _. tally_entry e)

module _ (S : Scheme) (w : WellFormed S) (R : Room) where
  tally_run : (ks : List Call) (st : State) → Sound S st → (g t : ℕ → ℕ) → Tally st.next st.entities g t → Tallied (run S R st ks) g t (events S R st ks)
  tally_run [] st s g t p = none_told st g t p
  tally_run (k ∷ ks) st s g t p =
      let now : List Event = event_of k (answer S R st k) in
      let st' : State = step S R st k in
      more_told (run S R st' ks) g t now (events S R st' ks)
      (tally_run ks st' (sound_step S w R st s k) (λ n. g n + times_given now n) (λ n. t n + times_ended now n) (tally_step S R st s g t p k))

  tally_set_up : (es : List Entry) (st : State) → Sound S st → (g t : ℕ → ℕ) → Tally st.next st.entities g t → Tallied (set_up S R st es) g t (entry_events S R st es)
  tally_set_up [] st s g t p = none_told st g t p
  tally_set_up (e ∷ es) st s g t p =
      let now : List Event = entry_event e (entry_answer S R st e) in
      let st' : State = entry_step S R st e in
      more_told (set_up S R st' es) g t now (entry_events S R st' es)
      (tally_set_up es st' (sound_entry_step S w R st s e) (λ n. g n + times_given now n) (λ n. t n + times_ended now n) (tally_entry_step S R st s g t p e))

  pub tally_always : (m : Moment) → Tally (register_at S R m).next (register_at S R m).entities (times_given (history S R m)) (times_ended (history S R m))
  tally_always m =
      let none : ℕ → ℕ = λ n. 0 in
      let st : State = set_up S R new m.entries in
      let at : State = register_at S R m in
      let first : List Event = entry_events S R new m.entries in
      let then : List Event = events S R st m.calls in
      tally_as at.next at.entities (λ n. 0 + times_given (first ++ then) n) (times_given (first ++ then)) (λ n. 0 + times_ended (first ++ then) n) (times_ended (first ++ then))
      (λ n. omega arith) (λ n. omega arith)
      (more_told at none none first then
      (tally_run m.calls st (set_up_keeps S R (Sound S) (sound_entry_step S w R) m.entries new (sound_new S)) (λ n. 0 + times_given first n) (λ n. 0 + times_ended first n)
      (tally_set_up m.entries new (sound_new S) none none (record { balance = λ n. refl; once = λ n. omega arith; unborn = λ n l. refl }))))
