-- Lists of calls and of entries: one list after another, and what every call and entry keeps, they keep.
use Rattle.std.proofs.Common.{◌≡◌, List, [], ◌∷◌, ◌++◌, sym, refl, subst}
use Rattle.model.specs.Scheme.{Scheme, WellFormed}
use Rattle.model.specs.State.{State, Room, new}
use Rattle.model.specs.Calls.{Call, step}
use Rattle.model.specs.SetUp.{Entry, entry_step}
use Rattle.model.specs.Runs.{run, set_up, Moment, register_at}
use Rattle.model.specs.Laws.{Sound}
use Rattle.model.specs.Lives.{Later, while_set_up, once_open}
use Rattle.model.proofs.Soundness.{sound_new, sound_step, sound_entry_step}

module _ (S : Scheme) (R : Room) where
  pub run_append : (ks ls : List Call) (st : State) → run S R st (ks ++ ls) ≡ run S R (run S R st ks) ls
  run_append [] ls st = refl
  run_append (k ∷ ks) ls st = run_append ks ls (step S R st k)

  pub set_up_append : (es fs : List Entry) (st : State) → set_up S R st (es ++ fs) ≡ set_up S R (set_up S R st es) fs
  set_up_append [] fs st = refl
  set_up_append (e ∷ es) fs st = set_up_append es fs (entry_step S R st e)

  module _ (Q : State → Type 0) where
    pub run_keeps : ((st : State) → Q st → (k : Call) → Q (step S R st k)) → (ks : List Call) (st : State) → Q st → Q (run S R st ks)
    run_keeps f [] st q = q
    run_keeps f (k ∷ ks) st q = run_keeps f ks (step S R st k) (f st q k)

    pub set_up_keeps : ((st : State) → Q st → (e : Entry) → Q (entry_step S R st e)) → (es : List Entry) (st : State) → Q st → Q (set_up S R st es)
    set_up_keeps f [] st q = q
    set_up_keeps f (e ∷ es) st q = set_up_keeps f es (entry_step S R st e) (f st q e)

    module _ (calls : (st : State) → Q st → (k : Call) → Q (step S R st k)) (entries : (st : State) → Q st → (e : Entry) → Q (entry_step S R st e)) where
      -- from new, empty holdings on
      pub always : Q new → (m : Moment) → Q (register_at S R m)
      always q m = run_keeps calls m.calls (set_up S R new m.entries) (set_up_keeps entries m.entries new q)

      -- from a moment to a later one
      pub lasts : {m l : Moment} → Later m l → Q (register_at S R m) → Q (register_at S R l)
      lasts (while_set_up es fs ks) q =
          run_keeps calls ks (set_up S R new (es ++ fs)) (subst Q (sym (set_up_append es fs new)) (set_up_keeps entries fs (set_up S R new es) q))
      lasts (once_open es ks ls) q = subst Q (sym (run_append ks ls (set_up S R new es))) (run_keeps calls ls (run S R (set_up S R new es) ks) q)

module _ (S : Scheme) (w : WellFormed S) (R : Room) where
  pub sound_always : (m : Moment) → Sound S (register_at S R m)
  sound_always = always S R (Sound S) (sound_step S w R) (sound_entry_step S w R) (sound_new S)
