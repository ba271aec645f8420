-- How the checks of a creation go on from one to the next, and what is left of it once all are passed.
use Rattle.std.proofs.Common.{◌≡◌, ℕ, ◌+◌, ◌≤◌, Bool, true, cond, leb, ◌≢◌, List, [], ◌∷◌, ◌++◌, IfSome, Some, None, Option, sym, ap, ◌∙◌, subst, ap₂}
use Rattle.std.proofs.lemmas.Bool.{leb-true}
use Rattle.model.specs.declared.refusal.Refusal.TheVariants.{PairsTaken}
use Rattle.model.specs.Refusals.{Answer, granted, refused}
use Rattle.model.specs.Scheme.{Scheme, Rule}
use Rattle.model.specs.State.{State, Room, standing, added, holding, filled}
use Rattle.model.specs.Calls.{Check, check, passed, after, row_checks, add_answer, rule_for, rule_found, born_by, child_state, checks, answer, step, create}
use Rattle.model.specs.Laws.{Orderly}
use Rattle.model.proofs.Checks.{AllHold, passed_all, all_granted, decide_passed, each_first, each_second}
use Rattle.model.proofs.Entities.{stands_below}
use Rattle.register.specs.declared.births.Share.{Share}
use Rattle.register.specs.declared.births.Birth.{Birth}
use Rattle.register.specs.Births.{rule_checks, birth_table, brought, ByRule, ParentsStand}
use Rattle.register.proofs.Shares.{child_stands, still_stands}

module _ (S : Scheme) (R : Room) (st : State) (a : ℕ) (b : Option ℕ) (k : ℕ) where
  -- the check on pairs
  abbrev last : List Check
  last = check PairsTaken (leb (filled (child_state S st a b k)) R.pairs) ∷ []

  -- a rule is found, and is that of a birth
  module _ (p : granted tt ≡ passed (rule_checks S st a b k)) (o : Orderly st) (r : Rule) (found : rule_found S (rule_for S st a b k) ≡ Some r) (v : Birth) (by : ByRule r a b v) where
    stand : AllHold (rule_checks S st a b k)
    stand = passed_all (rule_checks S st a b k) (sym p)

    parent_stands : standing st a ≡ true
    parent_stands = each_first (standing st) a b stand.0

    others : (q : Option Share) → IfSome q (λ s. (b ≡ Some s.parent) × (s.parent ≢ a))
        → IfSome q (λ s. (standing st s.parent ≡ true) × (s.parent ≢ v.first.parent))
    others (Some s) h = (each_second (standing st) a b stand.0 s.parent h.0, (λ e. h.1 (e ∙ by.first)))
    others None h = tt

    pub parents_stand : ParentsStand st v
    parents_stand = record { first = ap (standing st) by.first ∙ parent_stands; second = others v.second by.second }

    pub brought_is : brought st v ≡ child_state S st a b k
    brought_is = by.leaves st (stands_below st.entities st.next o.rising a parent_stands) ∙ ap (λ (q : Option Rule). born_by st q a b) (sym found)

    -- there is a row, so the pairs decide
    pub pairs_decide : granted tt ≡ passed (row_checks R st) → (more : ℕ) → filled st + more ≡ filled (brought st v)
        → (t : Bool) → t ≡ leb (filled st + more) R.pairs → cond t (granted tt) (refused 11) ≡ passed (checks S R st (create a b k))
    pairs_decide row more fills t is =
        ap (λ (u : Bool). cond u (granted tt) (refused 11)) (is ∙ ap (λ (n : ℕ). leb n R.pairs) (fills ∙ ap filled brought_is))
        ∙ sym (decide_passed (rule_checks S st a b k) (row_checks R st ++ last) tt (sym p) ∙ decide_passed (row_checks R st) last tt (sym row))

-- all checks are passed
module _ (S : Scheme) (R : Room) (st : State) (o : Orderly st) (a : ℕ) (b : Option ℕ) (k : ℕ) (v : Birth)
    (p : granted tt ≡ passed (checks S R st (create a b k))) (parents : ParentsStand st v) (is : brought st v ≡ child_state S st a b k) where
  all : AllHold (checks S R st (create a b k))
  all = passed_all (checks S R st (create a b k)) (sym p)

  pub add_granted : add_answer R st ≡ granted st.next
  add_granted = all_granted (row_checks R st) st.next (all.1.1.1.1.0, (all.1.1.1.1.1.0, tt))

  pub create_granted : granted st.next ≡ answer S R st (create a b k)
  create_granted = sym (all_granted (checks S R st (create a b k)) st.next all)

  -- the child is added, and takes the next number
  module _ (m : State) (now_is : m ≡ added st v.child) (n : ℕ) (next : n ≡ st.next) where
    pub first_there : standing m v.first.parent ≡ true
    first_there = subst (λ (z : State). standing z v.first.parent ≡ true) (sym now_is) (still_stands st o v.child v.first.parent parents.first)

    pub second_there : IfSome v.second (λ s. standing m s.parent ≡ true)
    second_there = go v.second parents.second
      where
        go : (q : Option Share) → IfSome q (λ s. (standing st s.parent ≡ true) × (s.parent ≢ v.first.parent)) → IfSome q (λ s. standing m s.parent ≡ true)
        go (Some s) h = subst (λ (z : State). standing z s.parent ≡ true) (sym now_is) (still_stands st o v.child s.parent h.0)
        go None h = tt

    pub child_there : standing m n ≡ true
    child_there = ap₂ standing now_is next ∙ child_stands st o v.child

    born_is : holding m (birth_table m.tickets v n) ≡ child_state S st a b k
    born_is = ap₂ (λ (z : State) (i : ℕ). holding z (birth_table z.tickets v i)) now_is next ∙ is

    pub birth_fits : filled (holding m (birth_table m.tickets v n)) ≤ R.pairs
    birth_fits = subst (λ (z : State). filled z ≤ R.pairs) (sym born_is) (leb-true (filled (child_state S st a b k)) R.pairs all.1.1.1.1.1.1.0)

    pub birth_state : holding m (birth_table m.tickets v n) ≡ step S R st (create a b k)
    birth_state = born_is ∙ ap (λ (r : Answer ℕ). after r (child_state S st a b k) st) create_granted
