-- Calls whose checks are a front that the code has gone through, and a rest: what a refusal of the front comes to, and that
-- storing decides the rest.
use Rattle.std.proofs.Common.{◌≡◌, ℕ, Bool, true, ◌&&◌, List, [], ◌∷◌, ◌++◌, sym, ap, ◌∙◌, subst, arith}
use Rattle.std.proofs.lemmas.Bool.{cond-true}
use Rattle.model.specs.declared.refusal.Refusal.TheVariants.{PairsTaken}
use Rattle.model.specs.Refusals.{Answer, granted, refused, bare}
use Rattle.model.specs.Tickets.{Tickets}
use Rattle.model.specs.Scheme.{Scheme, WellFormed}
use Rattle.model.specs.State.{State, Room, standing, stored, stores}
use Rattle.model.specs.Calls.{Check, check, decide, passed, after, party_checks, gained, store_answer, Call, step}
use Rattle.model.specs.Laws.{Sound}
use Rattle.model.proofs.Checks.{AllHold, passed_all, all_granted, decide_passed, decide_refused, bare_decide, after_bare}
use Rattle.model.proofs.Soundness.{sound_step}

-- a call leaves a sound register sound
pub call_sound : (S : Scheme) (R : Room) (st : State) → WellFormed S → Sound S st → (k : Call) (st' : State) → st' ≡ step S R st k → Sound S st'
call_sound S R st w s k st' is = subst (Sound S) (sym is) (sound_step S w R st s k)

-- the checks in front refuse
module _ (front rest : List Check) (a n : ℕ) (no : refused n ≡ passed front) where
  pub front_refused : refused n ≡ decide (front ++ rest) a
  front_refused = sym (decide_refused front rest a n (sym no))

  pub front_unchanged : (changed st : State) → st ≡ after (decide (front ++ rest) a) changed st
  front_unchanged changed st = ap (λ (r : Answer ℕ). after r changed st) front_refused

-- the next check is passed too
pub next_passed : (front : List Check) (c : Check) → granted tt ≡ passed front → granted tt ≡ passed (c ∷ []) → granted tt ≡ passed (front ++ c ∷ [])
next_passed front c p e = e ∙ sym (decide_passed front (c ∷ []) tt (sym p))

-- what is left hangs on the answer alone
pub left_by : (r : Answer (Unit {0})) (k : Answer ℕ) (changed st : State) → r ≡ bare k → after r changed st ≡ after k changed st
left_by r k changed st e = ap (λ (b : Answer (Unit {0})). after b changed st) e ∙ after_bare k changed st

-- A ticket is gained by holdings of any kind X that are as they were at the start: the checks in front are passed, and holder and
-- target stand, so that storing decides.
module _ {X : Type 0} (room : X → Room) (meaning : X → State) (h asked left : X) (same : asked ≡ h) (a y x : ℕ) (c : Bool) (r : Answer (Unit {0}))
    (stays : room left ≡ room asked)
    (answers : r ≡ store_answer (room asked) (meaning asked) a y (gained (meaning asked) a y x c))
    (leaves : meaning left ≡ after r (stored (meaning asked) a y (gained (meaning asked) a y x c)) (meaning asked))
    (front : List Check) (p : granted tt ≡ passed front) (both : (standing (meaning h) a && standing (meaning h) y) ≡ true) (n : ℕ) where
  abbrev set : Tickets
  set = gained (meaning h) a y x c

  abbrev last : List Check
  last = check PairsTaken (stores (room h) (meaning h) a y set) ∷ []

  pub gain_answer : r ≡ bare (decide (front ++ last) n)
  gain_answer =
      answers ∙ ap (λ (z : X). store_answer (room z) (meaning z) a y (gained (meaning z) a y x c)) same
      ∙ cond-true (standing (meaning h) a && standing (meaning h) y) (passed last) (refused 1) both
      ∙ sym (bare_decide (front ++ last) n ∙ decide_passed front last tt (sym p))

  pub gain_state : meaning left ≡ after (decide (front ++ last) n) (stored (meaning h) a y set) (meaning h)
  gain_state =
      leaves ∙ ap (λ (z : X). after r (stored (meaning z) a y (gained (meaning z) a y x c)) (meaning z)) same
      ∙ left_by r (decide (front ++ last) n) (stored (meaning h) a y set) (meaning h) gain_answer

-- the parties' checks that were passed
module _ (S : Scheme) (st : State) (h y x : ℕ) (p : granted tt ≡ passed (party_checks S st h y x)) where
  held_all : AllHold (party_checks S st h y x)
  held_all = passed_all (party_checks S st h y x) (sym p)

  pub both_stand : (standing st h && standing st y) ≡ true
  both_stand = held_all.0

-- an answer without its value tells the refusal
pub bare_refused : (k : Answer ℕ) (m : ℕ) → refused m ≡ bare k → refused m ≡ k
bare_refused (granted a) m e = let z : ◌≡◌ {A = ℕ} 0 1 = cc in absurd (omega arith)
bare_refused (refused n) m e = let q : m ≡ n = cc in ap refused q

-- and where it tells a grant, the value is granted
pub bare_granted : (cs : List Check) (a : ℕ) → granted tt ≡ bare (decide cs a) → granted a ≡ decide cs a
bare_granted cs a e = sym (all_granted cs a (passed_all cs (sym (e ∙ bare_decide cs a))))
