-- No two rules of sound records have the same key: each rule's own types find that rule.
use Rattle.std.specs.Prelude.{◌≡◌, ℕ, zero, suc, ◌+◌, ◌<◌, ◌≤◌, Bool, true, false, cond, ◌&&◌, ◌⊎◌, List, [], ◌∷◌, ◌++◌, length, Some, None, Option, ◌==◌, refl}
use Rattle.std.proofs.Common.{inl, inr, sym, ap, subst, ◌∙◌, arith}
use Rattle.std.specs.Option.{option_map, option_to_list}
use Rattle.std.specs.List.{slice_get, list_any as any}
use Rattle.std.proofs.lemmas.Bool.{cases_lt, eq-eqb, and_from, or_parts, cond-false}
use Rattle.model.specs.Scheme.{Rule as Creation, Part, same_second, is_for, rule_number}
use Rattle.scheme_records.specs.declared.record.ParentSets.{ParentSets}
use Rattle.scheme_records.specs.declared.record.RuleKey.{RuleKey}
use Rattle.scheme_records.specs.declared.record.RuleSets.{RuleSets}
use Rattle.scheme_records.specs.declared.record.Record.{Record}
use Rattle.scheme_records.specs.declared.record.Record.TheVariants.{Kind, Right, Alternative, Filter, Demand, Rule}
use Rattle.scheme_records.specs.Said.{same_parent, rule_for, part_said, creation, rule_of, rules_of, repeats}
use Rattle.scheme_records.proofs.Saying.{nth_front}
use Rattle.scheme_file.specs.Sound.{Sound, none, more}
use Rattle.scheme_file.specs.Growing.{rules_more}

-- the second parent's type of a rule, if it has one
abbrev second_kind : Option Part → Option ℕ
second_kind o = option_map (λ p. p.kind) o

-- the number of the rule that a rule's own types find
abbrev found : List Creation → Creation → Option ℕ
found qs q = rule_number qs 0 q.first.kind (second_kind q.second) q.child

-- over lists of rules: found in the first, or in the second
module _ (a : ℕ) (b : Option ℕ) (k : ℕ) where
  number_stays : (xs ys : List Creation) (j i : ℕ) → rule_number xs j a b k ≡ Some i → rule_number (xs ++ ys) j a b k ≡ Some i
  number_stays [] ys j i h = let z : ◌≡◌ {A = ℕ} 0 1 = cc in absurd (omega arith)
  number_stays (x ∷ xs) ys j i h = go (is_for x a b k) (number_stays xs ys (suc j) i) h
    where
      go : (t : Bool) → (rule_number xs (suc j) a b k ≡ Some i → rule_number (xs ++ ys) (suc j) a b k ≡ Some i)
          → cond t (Some j) (rule_number xs (suc j) a b k) ≡ Some i → cond t (Some j) (rule_number (xs ++ ys) (suc j) a b k) ≡ Some i
      go true f e = e
      go false f e = f e

  number_past : (xs ys : List Creation) (j : ℕ) → rule_number xs j a b k ≡ None → rule_number (xs ++ ys) j a b k ≡ rule_number ys (j + length xs) a b k
  number_past [] ys j h = ap (λ (n : ℕ). rule_number ys n a b k) (omega arith)
  number_past (x ∷ xs) ys j h = go (is_for x a b k) (number_past xs ys (suc j)) h
    where
      go : (t : Bool) → (rule_number xs (suc j) a b k ≡ None → rule_number (xs ++ ys) (suc j) a b k ≡ rule_number ys (suc j + length xs) a b k)
          → cond t (Some j) (rule_number xs (suc j) a b k) ≡ None
          → cond t (Some j) (rule_number (xs ++ ys) (suc j) a b k) ≡ rule_number ys (j + length (x ∷ xs)) a b k
      go true f e = let z : ◌≡◌ {A = ℕ} 0 1 = cc in absurd (omega arith)
      go false f e = f e ∙ ap (λ (n : ℕ). rule_number ys n a b k) (omega arith)

-- a rule record is for what its rule is for
same_seconds : (q b : Option ℕ) (s : ParentSets) → same_second (option_map (λ x. part_said x s) q) b ≡ same_parent q b
same_seconds (Some x) (Some y) s = refl
same_seconds (Some x) None s = refl
same_seconds None (Some y) s = refl
same_seconds None None s = refl

and_and : (x y z : Bool) → ((x && y) && z) ≡ (x && (y && z))
and_and true y z = refl
and_and false y z = refl

is_for_rule : (q : RuleKey) (s : RuleSets) (a : ℕ) (b : Option ℕ) (k : ℕ) → is_for (creation q s) a b k ≡ rule_for a b k (Rule q s)
is_for_rule q s a b k =
    ap (λ (t : Bool). (q.first == a && t) && q.child == k) (same_seconds q.second b s.second) ∙ and_and (q.first == a) (same_parent q.second b) (q.child == k)

-- no record has the key, so no rule is found for it
none_found : (a : ℕ) (b : Option ℕ) (k : ℕ) (rs : List Record) (j : ℕ) → any (rule_for a b k) rs ≡ false → rule_number (rules_of rs) j a b k ≡ None
none_found a b k [] j h = refl
none_found a b k (r ∷ rs) j h =
    let e = or_parts (rule_for a b k r) (any (rule_for a b k) rs) h in
    go r e.0 (λ i. none_found a b k rs i e.1)
  where
    go : (r : Record) → rule_for a b k r ≡ false → ((i : ℕ) → rule_number (rules_of rs) i a b k ≡ None)
        → rule_number (option_to_list (rule_of r) ++ rules_of rs) j a b k ≡ None
    go (Kind n s) e f = f j
    go (Right n c) e f = f j
    go (Alternative l m) e f = f j
    go (Filter q s) e f = f j
    go (Demand q s) e f = f j
    go (Rule q s) e f =
        cond-false (is_for (creation q s) a b k) (Some j) (rule_number (rules_of rs) (suc j) a b k) (is_for_rule q s a b k ∙ e) ∙ f (suc j)

same_self : (q : Option ℕ) → same_parent q q ≡ true
same_self (Some x) = eq-eqb x x refl
same_self None = refl

own_second : (q : Option ℕ) (s : ParentSets) → second_kind (option_map (λ x. part_said x s) q) ≡ q
own_second (Some x) s = refl
own_second None s = refl

-- a new rule is found under its number
module _ (rs : List Record) (q : RuleKey) (s : RuleSets) (new : any (rule_for q.first q.second q.child) rs ≡ false) where
  new_found : rule_number (rules_of rs ++ creation q s ∷ []) 0 q.first q.second q.child ≡ Some (length (rules_of rs))
  new_found =
      let self : is_for (creation q s) q.first q.second q.child ≡ true =
      is_for_rule q s q.first q.second q.child
      ∙ and_from (q.first == q.first) (same_parent q.second q.second && q.child == q.child) (eq-eqb q.first q.first refl)
      (and_from (same_parent q.second q.second) (q.child == q.child) (same_self q.second) (eq-eqb q.child q.child refl)) in
      number_past q.first q.second q.child (rules_of rs) (creation q s ∷ []) 0 (none_found q.first q.second q.child rs 0 new)
      ∙ ap (λ (t : Bool). cond t (Some (0 + length (rules_of rs))) None) self ∙ ap Some (omega arith)

  new_own : found (rules_of rs ++ creation q s ∷ []) (creation q s) ≡ Some (length (rules_of rs))
  new_own =
      ap (λ (o : Option ℕ). rule_number (rules_of rs ++ creation q s ∷ []) 0 q.first o q.child) (own_second q.second s.second) ∙ new_found

-- the last rule, if the record is one
last_found : (rs : List Record) (r : Record) → repeats rs r ≡ false → (x : Creation) → rule_of r ≡ Some x
    → found (rules_of rs ++ option_to_list (rule_of r)) x ≡ Some (length (rules_of rs))
last_found rs (Kind n s) h x e = let z : ◌≡◌ {A = ℕ} 0 1 = cc in absurd (omega arith)
last_found rs (Right n c) h x e = let z : ◌≡◌ {A = ℕ} 0 1 = cc in absurd (omega arith)
last_found rs (Alternative l m) h x e = let z : ◌≡◌ {A = ℕ} 0 1 = cc in absurd (omega arith)
last_found rs (Filter q s) h x e = let z : ◌≡◌ {A = ℕ} 0 1 = cc in absurd (omega arith)
last_found rs (Demand q s) h x e = let z : ◌≡◌ {A = ℕ} 0 1 = cc in absurd (omega arith)
last_found rs (Rule q s) h x e =
    let is : creation q s ≡ x = cc in
    subst (λ (y : Creation). found (rules_of rs ++ creation q s ∷ []) y ≡ Some (length (rules_of rs))) is (new_own rs q s h)

nth_at_end : {X : Type 0} (xs : List X) (o : Option X) (i : ℕ) (x : X) → length xs ≤ i → slice_get (xs ++ option_to_list o) i ≡ Some x → (i ≡ length xs) × (o ≡ Some x)
nth_at_end [] None i x l h = let z : ◌≡◌ {A = ℕ} 0 1 = cc in absurd (omega arith)
nth_at_end [] (Some y) zero x l h = (refl, h)
nth_at_end [] (Some y) (suc i) x l h = let z : ◌≡◌ {A = ℕ} 0 1 = cc in absurd (omega arith)
nth_at_end (y ∷ xs) o zero x l h = absurd (omega arith)
nth_at_end (y ∷ xs) o (suc i) x l h = let e = nth_at_end xs o i x (omega arith) h in (ap suc e.0, e.1)

pub rules_distinct : (rs : List Record) → Sound rs → (i : ℕ) (x : Creation) → slice_get (rules_of rs) i ≡ Some x → found (rules_of rs) x ≡ Some i
rules_distinct _ none i x h = let z : ◌≡◌ {A = ℕ} 0 1 = cc in absurd (omega arith)
rules_distinct _ (more rs r s p) i x h =
    ap (λ (qs : List Creation). found qs x) (rules_more rs r) ∙ go (cases_lt i (length (rules_of rs))) (rules_distinct rs s i x)
  where
    at : slice_get (rules_of rs ++ option_to_list (rule_of r)) i ≡ Some x
    at = ap (λ (qs : List Creation). slice_get qs i) (sym (rules_more rs r)) ∙ h

    go : (i < length (rules_of rs)) ⊎ (length (rules_of rs) ≤ i) → (slice_get (rules_of rs) i ≡ Some x → found (rules_of rs) x ≡ Some i)
        → found (rules_of rs ++ option_to_list (rule_of r)) x ≡ Some i
    go (inl l) f =
        number_stays x.first.kind (second_kind x.second) x.child (rules_of rs) (option_to_list (rule_of r)) 0 i
        (f (sym (nth_front (rules_of rs) (option_to_list (rule_of r)) i l) ∙ at))
    go (inr g) f =
        let e = nth_at_end (rules_of rs) (rule_of r) i x g at in last_found rs r p.key x e.1 ∙ ap Some (sym e.0)
