-- Of every moment: what is held lives, and no number was given twice. Of a moment and a later one: what was retired is gone for good.
use Rattle.std.proofs.Common.{◌≡◌, ℕ, suc, ◌+◌, ◌<◌, ◌≤◌, Bool, true, false, cond, eqb, ◌⊎◌, List, [], ◌∷◌, ◌++◌, is_some, Some, None, Option, sym, refl, ap, ◌∙◌, subst, inl, inr, append_assoc, append-nil, arith}
use Rattle.std.proofs.lemmas.Bool.{ne_eqb, both_ways, cases_Bool, cond-false, cond_both}
use Rattle.model.specs.declared.tickets.Entity.{Entity}
use Rattle.model.specs.Scheme.{Scheme, Rule, WellFormed}
use Rattle.model.specs.State.{State, Room, new, kind_in, kind_of, standing, holds, remove}
use Rattle.model.specs.Calls.{Call, copy, demand, create, drop, retire, checks, reply, answer, effect, after, step, born_by, rule_found, rule_for}
use Rattle.model.specs.SetUp.{Entry, enter, place, entry_checks, entry_reply, entry_answer, entry_effect, entry_step}
use Rattle.model.specs.Runs.{run, set_up, Moment, register_at, Event, event_of, events, entry_event, entry_events}
use Rattle.model.specs.Lives.{history, times_given, times_ended, Living, Ticketless, HeldInLife, Later, while_set_up, once_open, NeverAgain, Lived}
use Rattle.model.proofs.Entities.{or_else, push_kind, kind_removed, stands_below}
use Rattle.model.proofs.Checks.{by_decide}
use Rattle.model.proofs.Runs.{sound_always, lasts}
use Rattle.model.proofs.Tallies.{Tally, given_append, ended_append, tally_always}

-- of one moment
living_one : (b : Bool) (g t : ℕ) → g ≡ cond b 1 0 + t → g ≤ 1 → b ≡ true → (g ≡ 1) × (t ≡ 0)
living_one true g t e l h = omega arith
living_one false g t e l h = absurd (both_ways false refl h)

one_living : (b : Bool) (g t : ℕ) → g ≡ cond b 1 0 + t → g ≡ 1 → t ≡ 0 → b ≡ true
one_living true g t e p q = refl
one_living false g t e p q = absurd (omega arith)

module _ (S : Scheme) (w : WellFormed S) (R : Room) (m : Moment) where
  abbrev at : State
  at = register_at S R m

  tally : Tally at.next at.entities (times_given (history S R m)) (times_ended (history S R m))
  tally = tally_always S w R m

  living : (n : ℕ) → standing at n ≡ true → Living (history S R m) n
  living n h =
      let o = living_one (standing at n) (times_given (history S R m) n) (times_ended (history S R m) n) (tally.balance n) (tally.once n) h in
      record { came = o.0; stays = o.1 }

  pub held_in_life : HeldInLife S R m
  held_in_life = record {
    held = λ h y x c e. let b = (sound_always S w R m).orderly.only_standing h y x c e in (living h b.0, living y b.1);
    stands = λ n. record {
      only = living n;
      whenever = λ l. one_living (standing at n) (times_given (history S R m) n) (times_ended (history S R m) n) (tally.balance n) l.came l.stays;
    };
    once = tally.once;
    ended_once = λ n. omega (arith, tally.balance n);
  }

  -- who does not live has no ticket
  pub ticketless : (n : ℕ) → (Living (history S R m) n → ⊥) → Ticketless at n
  ticketless n f e x c = (
    off (holds at n e x c) (λ h. f (held_in_life.held n e x c h).0),
    off (holds at e n x c) (λ h. f (held_in_life.held e n x c h).1),
  )
    where
      off : (b : Bool) → (b ≡ true → ⊥) → b ≡ false
      off b g = elim (cases_Bool b) [ inl t ↦ absurd (g t) | inr t ↦ t ]

-- a later moment has the same history first
module _ (S : Scheme) (R : Room) where
  events_append : (ks ls : List Call) (st : State) → events S R st (ks ++ ls) ≡ events S R st ks ++ events S R (run S R st ks) ls
  events_append [] ls st = refl
  events_append (k ∷ ks) ls st =
      let now : List Event = event_of k (answer S R st k) in
      let st' : State = step S R st k in
      ap (λ (l : List Event). now ++ l) (events_append ks ls st') ∙ sym (append_assoc now (events S R st' ks) (events S R (run S R st' ks) ls))

  entry_events_append : (es fs : List Entry) (st : State) → entry_events S R st (es ++ fs) ≡ entry_events S R st es ++ entry_events S R (set_up S R st es) fs
  entry_events_append [] fs st = refl
  entry_events_append (e ∷ es) fs st =
      let now : List Event = entry_event e (entry_answer S R st e) in
      let st' : State = entry_step S R st e in
      ap (λ (l : List Event). now ++ l) (entry_events_append es fs st') ∙ sym (append_assoc now (entry_events S R st' es) (entry_events S R (set_up S R st' es) fs))

  later_history : {m l : Moment} → Later m l → (rest : List Event) × (history S R l ≡ history S R m ++ rest)
  later_history (while_set_up es fs ks) =
      let a : List Event = entry_events S R new es in
      let b : List Event = entry_events S R (set_up S R new es) fs in
      let c : List Event = events S R (set_up S R new (es ++ fs)) ks in
      (b ++ c, ap (λ (l : List Event). l ++ c) (entry_events_append es fs new) ∙ append_assoc a b c ∙ sym (ap (λ (l : List Event). l ++ (b ++ c)) (append-nil a)))
  later_history (once_open es ks ls) =
      let a : List Event = entry_events S R new es in
      let st : State = set_up S R new es in
      let b : List Event = events S R (run S R st ks) ls in
      (b, ap (λ (l : List Event). a ++ l) (events_append ks ls st) ∙ sym (append_assoc a (events S R st ks) b))

-- n lies below the next number, and it is of kind k or stands no more
record Fate (n k : ℕ) (next : ℕ) (es : List Entity) : Type 0 where
  pub past : n < next
  pub still : (kind_in es n ≡ Some k) ⊎ (kind_in es n ≡ None)

module _ (n k : ℕ) where
  fate_push : (next : ℕ) (es : List Entity) (j : ℕ) → Fate n k next es → Fate n k (suc next) (es ++ record { number = next; kind = j } ∷ [])
  fate_push next es j f =
      let e : kind_in (es ++ record { number = next; kind = j } ∷ []) n ≡ or_else (kind_in es n) None =
      push_kind es (record { number = next; kind = j }) n
      ∙ ap (λ (o : Option ℕ). or_else (kind_in es n) o) (cond-false (eqb next n) (Some j) None (ne_eqb next n (λ q. omega (arith, f.past)))) in
      record {
        past = omega (arith, f.past);
        still = elim f.still [
          | inl h ↦ inl (e ∙ ap (λ (o : Option ℕ). or_else o None) h)
          | inr h ↦ inr (e ∙ ap (λ (o : Option ℕ). or_else o None) h)
        ];
      }

  fate_remove : (next : ℕ) (es : List Entity) (y : ℕ) → Fate n k next es → Fate n k next (remove es y)
  fate_remove next es y f = record {
    past = f.past;
    still = subst (λ (o : Option ℕ). (o ≡ Some k) ⊎ (o ≡ None)) (sym (kind_removed es y n))
        (cond_both (eqb y n) None (kind_in es n) (λ o. (o ≡ Some k) ⊎ (o ≡ None)) (λ _. inr refl) (λ _. f.still));
  }

  module _ (S : Scheme) (R : Room) where
    abbrev Fated : State → Type 0
    Fated st = Fate n k st.next st.entities

    fate_born : (st : State) → Fated st → (q : Option Rule) (a : ℕ) (b : Option ℕ) → Fated (born_by st q a b)
    fate_born st f (Some r) a b = fate_push st.next st.entities r.child f
    fate_born st f None a b = f

    fate_effect : (st : State) → Fated st → (c : Call) → Fated (effect S st c)
    fate_effect st f (copy a b y x c) = f
    fate_effect st f (demand b y x c) = f
    fate_effect st f (create a b j) = fate_born st f (rule_found S (rule_for S st a b j)) a b
    fate_effect st f (drop a y x) = f
    fate_effect st f (retire y) = fate_remove st.next st.entities y f

    fate_step : (st : State) → Fated st → (c : Call) → Fated (step S R st c)
    fate_step st f c = by_decide (λ r. Fated (after r (effect S st c) st)) (checks S R st c) (reply S st c) (λ _. f) (λ _. fate_effect st f c)

    fate_entry : (st : State) → Fated st → (e : Entry) → Fated (entry_effect st e)
    fate_entry st f (enter j) = fate_push st.next st.entities j f
    fate_entry st f (place a y x c) = f

    fate_entry_step : (st : State) → Fated st → (e : Entry) → Fated (entry_step S R st e)
    fate_entry_step st f e = by_decide (λ r. Fated (after r (entry_effect st e) st)) (entry_checks S R st e) (entry_reply st e) (λ _. f) (λ _. fate_entry st f e)

fated_kind : (o : Option ℕ) (k : ℕ) → (o ≡ Some k) ⊎ (o ≡ None) → is_some o ≡ true → o ≡ Some k
fated_kind o k (inl e) h = e
fated_kind o k (inr e) h = absurd (both_ways (is_some o) (ap is_some e) h)

-- of two moments
module _ (S : Scheme) (w : WellFormed S) (R : Room) {m l : Moment} (t : Later m l) where
  abbrev rest : List Event
  rest = (later_history S R t).0

  more_ended : (n : ℕ) → times_ended (history S R m) n ≤ times_ended (history S R l) n
  more_ended n = omega (arith, ended_append (history S R m) rest n, ap (λ (e : List Event). times_ended e n) (later_history S R t).1)

  more_given : (n : ℕ) → times_given (history S R m) n ≤ times_given (history S R l) n
  more_given n = omega (arith, given_append (history S R m) rest n, ap (λ (e : List Event). times_given e n) (later_history S R t).1)

  pub never_again : NeverAgain S R m l
  never_again =
      let a = held_in_life S w R m in
      let b = held_in_life S w R l in
      record {
        gone = λ n e. ticketless S w R l n (λ v. omega (arith, more_ended n, v.stays));
        unborn = λ n e. ticketless S w R m n (λ v. omega (arith, b.once n, v.came));
        once = λ n e. omega (arith, more_given n, b.once n);
        same = λ n k e h.
            let z : State = register_at S R m in
            let below : n < z.next = stands_below z.entities z.next (sound_always S w R m).orderly.rising n (ap is_some e) in
            fated_kind (kind_of (register_at S R l) n) k
            (lasts S R (Fated n k S R) (fate_step n k S R) (fate_entry_step n k S R) t (record { past = below; still = inl e })).still h;
      }

pub lived : (S : Scheme) → WellFormed S → Lived S
lived S w = record { in_life = λ R m. held_in_life S w R m; never_again = λ R m l t. never_again S w R t }
