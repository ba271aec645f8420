-- What a granted call passed, and what the tests of its checks tell.
use Rattle.std.proofs.Common.{◌≡◌, ℕ, Bool, true, false, cond, List, [], ◌∷◌, ◌++◌, Some, None, Option, sym, refl, ap, ◌∙◌, subst, arith}
use Rattle.std.proofs.lemmas.Bool.{and_parts, cond-true, cond_both}
use Rattle.model.specs.Refusals.{Answer, granted, refused, bare, refusal_number}
use Rattle.model.specs.State.{State}
use Rattle.model.specs.Calls.{Check, decide, passed, after, each}

-- every check of a list holds
abbrev pub AllHold : List Check → Type 0
AllHold [] = Unit {0}
AllHold (c ∷ cs) = (c.holds ≡ true) × AllHold cs

-- what holds of a refusal, and of a grant where every check holds, holds of the answer
pub by_decide : {A : Type 0} (P : Answer A → Type 0) (cs : List Check) (a : A) → ((m : ℕ) → P (refused m)) → (AllHold cs → P (granted a)) → P (decide cs a)
by_decide P [] a left made = made tt
by_decide P (c ∷ cs) a left made =
    cond_both c.holds (decide cs a) (refused (refusal_number c.refusal)) P (λ e. by_decide P cs a left (λ h. made (e, h)))
    (λ _. left (refusal_number c.refusal))

-- where every check holds the call is granted
pub all_granted : {A : Type 0} (cs : List Check) (a : A) → AllHold cs → decide cs a ≡ granted a
all_granted [] a h = refl
all_granted (c ∷ cs) a h = cond-true c.holds (decide cs a) (refused (refusal_number c.refusal)) h.0 ∙ all_granted cs a h.1

-- and where it is granted every check holds
pub decided : {A : Type 0} (cs : List Check) (a b : A) → decide cs a ≡ granted b → AllHold cs × (a ≡ b)
decided {A} cs a b = by_decide (λ r. r ≡ granted b → AllHold cs × (a ≡ b)) cs a (λ m h. absurd (clash m h)) (λ h e. (h, same e))
  where
    clash : (m : ℕ) → ◌≡◌ {A = Answer A} (refused m) (granted b) → ⊥
    clash m h = let z : ◌≡◌ {A = ℕ} 0 1 = cc in omega arith

    same : ◌≡◌ {A = Answer A} (granted a) (granted b) → a ≡ b
    same h = cc

-- checks that are passed hold
pub passed_all : (cs : List Check) → passed cs ≡ granted tt → AllHold cs
passed_all cs e = (decided cs tt tt e).0

-- where the checks in front are passed, those behind decide
pub decide_passed : {A : Type 0} (cs ds : List Check) (a : A) → passed cs ≡ granted tt → decide (cs ++ ds) a ≡ decide ds a
decide_passed [] ds a e = refl
decide_passed (c ∷ cs) ds a e = go c.holds (decide_passed cs ds a) e
  where
    go : (b : Bool) → (passed cs ≡ granted tt → decide (cs ++ ds) a ≡ decide ds a)
        → cond b (passed cs) (refused (refusal_number c.refusal)) ≡ granted tt
        → cond b (decide (cs ++ ds) a) (refused (refusal_number c.refusal)) ≡ decide ds a
    go true f h = f h
    go false f h = let z : ◌≡◌ {A = ℕ} 0 1 = cc in absurd (omega arith)

-- where one of the checks in front fails, it names the refusal
pub decide_refused : {A : Type 0} (cs ds : List Check) (a : A) (n : ℕ) → passed cs ≡ refused n → decide (cs ++ ds) a ≡ refused n
decide_refused [] ds a n e = let z : ◌≡◌ {A = ℕ} 0 1 = cc in absurd (omega arith)
decide_refused (c ∷ cs) ds a n e = go c.holds (decide_refused cs ds a n) e
  where
    go : (b : Bool) → (passed cs ≡ refused n → decide (cs ++ ds) a ≡ refused n) → cond b (passed cs) (refused (refusal_number c.refusal)) ≡ refused n
        → cond b (decide (cs ++ ds) a) (refused (refusal_number c.refusal)) ≡ refused n
    go true f h = f h
    go false f h = let z : refusal_number c.refusal ≡ n = cc in ap refused z

-- what is decided does not hang on the value that is granted
pub bare_decide : {A : Type 0} (cs : List Check) (a : A) → bare (decide cs a) ≡ passed cs
bare_decide [] a = refl
bare_decide (c ∷ cs) a =
    cond_both c.holds (decide cs a) (refused (refusal_number c.refusal)) (λ r. bare r ≡ cond c.holds (passed cs) (refused (refusal_number c.refusal)))
    (λ h. bare_decide cs a ∙ ap (λ (b : Bool). cond b (passed cs) (refused (refusal_number c.refusal))) (sym h))
    (λ h. ap (λ (b : Bool). cond b (passed cs) (refused (refusal_number c.refusal))) (sym h))

-- nor does what is left
pub after_bare : {A : Type 0} (r : Answer A) (changed st : State) → after (bare r) changed st ≡ after r changed st
after_bare (granted a) changed st = refl
after_bare (refused n) changed st = refl

-- a test of both parents passed: for the first, and for the second where there is one
pub each_first : (p : ℕ → Bool) (a : ℕ) (b : Option ℕ) → each p a b ≡ true → p a ≡ true
each_first p a (Some b) h = (and_parts (p a) (p b) h).0
each_first p a None h = h

pub each_second : (p : ℕ → Bool) (a : ℕ) (b : Option ℕ) → each p a b ≡ true → (e : ℕ) → b ≡ Some e → p e ≡ true
each_second p a (Some b) h e i = subst (λ n. p n ≡ true) (inside b e i) (and_parts (p a) (p b) h).1
  where
    inside : (m n : ℕ) → Some m ≡ Some n → m ≡ n
    inside m n q = cc
each_second p a None h e i = let z : ◌≡◌ {A = ℕ} 0 1 = cc in absurd (omega arith)
