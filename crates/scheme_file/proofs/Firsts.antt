-- The first test that fails, over lists of tests one after another.
use Rattle.std.proofs.Common.{◌≡◌, ℕ, zero, suc, ◌+◌, ◌<◌, ◌≤◌, Bool, true, false, cond, List, [], ◌∷◌, ◌++◌, Some, None, Option, Ok, Err, Result, sym, refl, ap, ◌∙◌, subst, inl, inr, arith}
use Rattle.std.specs.declared.ops.Range.{Range}
use Rattle.std.proofs.iter.Yields.{nat_range_steps}
use Rattle.std.specs.Iterator.{Yields}
use Rattle.std.specs.Option.{MatchOption}
use Rattle.std.specs.List.{FoldsTo}
use Rattle.std.proofs.lemmas.Bool.{cases_lt}
use Rattle.scheme_records.specs.Listed.{in_turn}
use Rattle.scheme_records.proofs.Listing.{in_turn_more}
use Rattle.scheme_file.specs.Faults.{Fault, Test, first_fault, Verdict}

pub fault_past : (xs ys : List Test) → first_fault xs ≡ None → first_fault (xs ++ ys) ≡ first_fault ys
fault_past [] ys h = refl
fault_past (x ∷ xs) ys h = go x.passes (fault_past xs ys) h
  where
    go : (t : Bool) → (first_fault xs ≡ None → first_fault (xs ++ ys) ≡ first_fault ys)
        → cond t (first_fault xs) (Some x.fault) ≡ None → cond t (first_fault (xs ++ ys)) (Some x.fault) ≡ first_fault ys
    go true f e = f e
    go false f e = let z : ◌≡◌ {A = ℕ} 0 1 = cc in absurd (omega arith)

pub fault_stays : (xs ys : List Test) (f : Fault) → first_fault xs ≡ Some f → first_fault (xs ++ ys) ≡ Some f
fault_stays [] ys f h = let z : ◌≡◌ {A = ℕ} 0 1 = cc in absurd (omega arith)
fault_stays (x ∷ xs) ys f h = go x.passes (fault_stays xs ys f) h
  where
    go : (t : Bool) → (first_fault xs ≡ Some f → first_fault (xs ++ ys) ≡ Some f)
        → cond t (first_fault xs) (Some x.fault) ≡ Some f → cond t (first_fault (xs ++ ys)) (Some x.fault) ≡ Some f
    go true k e = k e
    go false k e = e

-- lists of tests in turn
module _ (f : ℕ → List Test) where
  pub turn_passes : (n : ℕ) → first_fault (in_turn f n) ≡ None → first_fault (f n) ≡ None → first_fault (in_turn f (n + 1)) ≡ None
  turn_passes n h k = rw (in_turn_more f n) (fault_past (in_turn f n) (f n) h ∙ k)

  turn_fails : (n : ℕ) (e : Fault) → first_fault (in_turn f n) ≡ None → first_fault (f n) ≡ Some e → first_fault (in_turn f (n + 1)) ≡ Some e
  turn_fails n e h k = rw (in_turn_more f n) (fault_past (in_turn f n) (f n) h ∙ k)

  fault_lasts : (p n : ℕ) (e : Fault) → p ≤ n → first_fault (in_turn f p) ≡ Some e → first_fault (in_turn f n) ≡ Some e
  fault_lasts p zero e h k = let z : p ≡ 0 = omega arith in rw z at k
  fault_lasts p (suc n) e h k = elim (cases_lt p (suc n)) [
    | inl l ↦ fault_stays (in_turn f n) (f n) e (fault_lasts p n e (omega arith) k)
    | inr g ↦ let z : p ≡ suc n = omega arith in rw z at k
  ]

  -- the first list that fails decides, however many follow
  pub turn_decides : (p n : ℕ) (e : Fault) → p < n → first_fault (in_turn f p) ≡ None → first_fault (f p) ≡ Some e → first_fault (in_turn f n) ≡ Some e
  turn_decides p n e l h k = fault_lasts (p + 1) n e (omega arith) (turn_fails p e h k)

-- the first fault, as a relation
more : (t : Test) (ts : List Test) (o : Option Fault) → t.passes ≡ true → Verdict ts o → Verdict (t ∷ ts) o
more t ts None p v = (p, v)
more t ts (Some f) p v = record {
  front = t ∷ v.front;
  here = v.here;
  rest = v.rest;
  whole = ap (λ (xs : List Test). t ∷ xs) v.whole;
  before = (p, v.before);
  fails = v.fails;
  told = v.told;
}

by_test : (t : Test) (ts : List Test) (b : Bool) → t.passes ≡ b → Verdict ts (first_fault ts) → Verdict (t ∷ ts) (cond b (first_fault ts) (Some t.fault))
by_test t ts true p v = more t ts (first_fault ts) p v
by_test t ts false p v = record { front = []; here = t; rest = ts; whole = refl; before = tt; fails = p; told = refl }

pub verdict : (ts : List Test) → Verdict ts (first_fault ts)
verdict [] = tt
verdict (t ∷ ts) = by_test t ts t.passes refl (verdict ts)

pub judged : (ts : List Test) (o : Option Fault) → o ≡ first_fault ts → Verdict ts o
judged ts o e = subst (λ (x : Option Fault). Verdict ts x) (sym e) (verdict ts)

-- a test that must pass passed, or it failed with its fault
pub passed : {F : Type 0} (b : Bool) (f : F) (u : Unit {0}) → ◌≡◌ {A = Result (Unit {0}) F} (Ok u) (cond b (Ok tt) (Err f)) → b ≡ true
passed true f u h = refl
passed false f u h = cc

pub failed : {F : Type 0} (b : Bool) (f g : F) → ◌≡◌ {A = Result (Unit {0}) F} (Err g) (cond b (Ok tt) (Err f)) → (b ≡ false) × (g ≡ f)
failed true f g h = cc
failed false f g h = (refl, cc)

-- tests in turn, each by a call that goes on or breaks off: what the last one tells decides
module _ {F : Type 0} (f : ℕ → List Test) (turn : F → ℕ → F → Type 0) (k : F) (passes : (x : ℕ) (q : F) → turn k x q → (q ≡ k) × (first_fault (f x) ≡ None)) where
  -- so far every call went on
  record GoneOn (s t : Range ℕ) (q : F) : Type 0 where
    none : first_fault (in_turn f (t.start)) ≡ None
    same : q ≡ k
    end : t.end ≡ s.end
    within : t.start ≤ t.end

  gone_on : (xs : List ℕ) (s t : Range ℕ) (p q : F) → first_fault (in_turn f (s.start)) ≡ None → s.start ≤ s.end → p ≡ k → Yields nat_range_steps s xs t → FoldsTo turn p xs q → GoneOn s t q
  gone_on [] s t p q h l e y r = record {
    none = subst (λ (u : Range ℕ). first_fault (in_turn f (u.start)) ≡ None) y h;
    same = sym r ∙ e;
    end = ap (λ (u : Range ℕ). u.end) (sym y);
    within = subst (λ (u : Range ℕ). u.start ≤ u.end) y l;
  }
  gone_on (x ∷ xs) s t p q h l e y r =
      let g = y.1 in
      let here = passes x r.0 (subst (λ (a : F). turn a x r.0) e r.1) in
      let at : first_fault (f (s.start)) ≡ None = ap (λ (i : ℕ). first_fault (f i)) (sym g.1.1) ∙ here.1 in
      let next : first_fault (in_turn f (y.0.start)) ≡ None = ap (λ (i : ℕ). first_fault (in_turn f i)) g.1.2 ∙ turn_passes f (s.start) h at in
      let d = gone_on xs y.0 t r.0 q next (omega (arith, g.0, g.1.0, g.1.2)) here.0 y.2 r.2 in
      record { none = d.none; same = d.same; end = d.end ∙ g.0; within = d.within }

  pub each_decides : {Done : Type 0} {Fails : ℕ → Type 0} (n : ℕ) (s t u : Range ℕ) (xs : List ℕ) (o : Option ℕ) (q : F) (v : Option Fault)
      → s.start ≡ 0 → s.end ≡ n → Yields nat_range_steps s xs t → nat_range_steps t o u → FoldsTo turn k xs q → MatchOption o Done Fails
      → (Done → v ≡ None) → ((x : ℕ) → Fails x → q ≡ k → (v ≡ first_fault (f x)) × ((e : Fault) × (v ≡ Some e))) → v ≡ first_fault (in_turn f n)
  each_decides n s t u xs None q v a b y z r m done fails =
      let empty : first_fault (in_turn f s.start) ≡ None = rw a refl in
      let d = gone_on xs s t k q empty (omega (arith, a, b)) refl y r in
      let end : t.start ≡ n = omega (arith, d.within, d.end, b, z.1.0) in
      done m ∙ sym (ap (λ (i : ℕ). first_fault (in_turn f i)) (sym end) ∙ d.none)
  each_decides n s t u xs (Some x) q v a b y z r m done fails =
      let empty : first_fault (in_turn f s.start) ≡ None = rw a refl in
      let d = gone_on xs s t k q empty (omega (arith, a, b)) refl y r in
      let w = fails x m d.same in
      let bad : first_fault (f t.start) ≡ Some w.1.0 = ap (λ (i : ℕ). first_fault (f i)) (sym z.1.1) ∙ sym w.0 ∙ w.1.1 in
      w.1.1 ∙ sym (turn_decides f t.start n w.1.0 (omega (arith, z.1.0, d.end, b)) d.none bad)
