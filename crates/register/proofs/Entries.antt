-- What entering comes to, once the holdings have answered, and that every entry leaves a sound set-up sound.
use Rattle.std.proofs.Common.{◌≡◌, ℕ, ◌<◌, ltb, sym, ap, subst}
use Rattle.std.proofs.lemmas.Bool.{cond-true, lt-ltb}
use Rattle.model.specs.Refusals.{Answer, refused}
use Rattle.model.specs.Scheme.{Scheme, WellFormed}
use Rattle.model.specs.State.{State, Room, added}
use Rattle.model.specs.Calls.{after, add_answer}
use Rattle.model.specs.SetUp.{Entry, enter, entry_answer, entry_step}
use Rattle.model.specs.Laws.{Sound}
use Rattle.model.proofs.Soundness.{sound_entry_step}

module _ (S : Scheme) (R : Room) (st : State) where
  -- an entry leaves a sound set-up sound
  pub entry_sound : WellFormed S → Sound S st → (e : Entry) (st' : State) → st' ≡ entry_step S R st e → Sound S st'
  entry_sound w s e st' is = subst (Sound S) (sym is) (sound_entry_step S w R st s e)

  -- a declared kind: adding decides
  pub enter_answer : (k : ℕ) → k < S.kinds → add_answer R st ≡ entry_answer S R st (enter k)
  enter_answer k l = sym (cond-true (ltb k S.kinds) (add_answer R st) (refused 12) (lt-ltb k S.kinds l))

  pub enter_state : (k : ℕ) (r : Answer ℕ) → r ≡ entry_answer S R st (enter k) → after r (added st k) st ≡ entry_step S R st (enter k)
  enter_state k r e = ap (λ (a : Answer ℕ). after a (added st k) st) e
