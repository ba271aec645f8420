-- The rule that is found for parents' kinds and a child's kind is one of the rules, and it is for them.
use Rattle.std.proofs.Common.{◌≡◌, ℕ, suc, ◌+◌, ◌<◌, true, List, [], ◌∷◌, length, is_some, Some, None, Option, sym, refl, ap, ◌∙◌, inl, inr, add-zero, zero-add, arith}
use Rattle.std.specs.Option.{option_map}
use Rattle.std.specs.List.{slice_get}
use Rattle.std.proofs.lemmas.Bool.{cases_Bool, cond-true, cond-false, cases_lt, both_ways}
use Rattle.model.specs.Scheme.{Scheme, Rule, is_for, rule_number}
use Rattle.model.specs.State.{State, kind}
use Rattle.model.specs.Calls.{rule_for, rule_found}
use Rattle.model.proofs.Entities.{Some≢None, same_inside, some_inside}
use Rattle.std.proofs.lemmas.Option.{slice_get_past}

module _ (k1 : ℕ) (k2 : Option ℕ) (k : ℕ) where
  found_from : (rs : List Rule) (i j : ℕ) → rule_number rs i k1 k2 k ≡ Some j
      → (m : ℕ) × (j ≡ i + m) × ((r : Rule) × (slice_get rs m ≡ Some r) × (is_for r k1 k2 k ≡ true))
  found_from [] i j h = absurd (Some≢None None j h refl)
  found_from (r ∷ rs) i j h = elim (cases_Bool (is_for r k1 k2 k)) [
    | inl t ↦
        (0, sym (same_inside (Some i) i j refl (sym (cond-true (is_for r k1 k2 k) (Some i) (rule_number rs (suc i) k1 k2 k) t) ∙ h)) ∙ sym (add-zero i), (r, refl, t))
    | inr t ↦ let u = found_from rs (suc i) j (sym (cond-false (is_for r k1 k2 k) (Some i) (rule_number rs (suc i) k1 k2 k) t) ∙ h) in
        (suc u.0, omega (arith, u.1), u.2)
  ]

  pub found_rule : (rs : List Rule) (j : ℕ) → rule_number rs 0 k1 k2 k ≡ Some j → (r : Rule) × (slice_get rs j ≡ Some r) × (is_for r k1 k2 k ≡ true)
  found_rule rs j h = let u = found_from rs 0 j h in (u.2.0, ap (λ (m : ℕ). slice_get rs m) (u.1 ∙ zero-add u.0) ∙ u.2.1, u.2.2)

-- where a rule's number is found for a creation, so is the rule
pub rule_there : (S : Scheme) (st : State) (a : ℕ) (b : Option ℕ) (k : ℕ) → is_some (rule_for S st a b k) ≡ true
    → (r : Rule) × (rule_found S (rule_for S st a b k) ≡ Some r)
rule_there S st a b k h =
    let j = some_inside (rule_for S st a b k) h in
    let u = found_rule (kind st a) (option_map (kind st) b) k S.rules j.0 j.1 in
    (u.0, ap (λ (o : Option ℕ). rule_found S o) j.1 ∙ u.1)

-- a rule's number is below how many there are
pub rule_below : (rs : List Rule) (i : ℕ) (r : Rule) → slice_get rs i ≡ Some r → i < length rs
rule_below rs i r e = elim (cases_lt i (length rs)) [
  | inl l ↦ l
  | inr l ↦ absurd (both_ways (is_some (slice_get rs i)) (ap is_some (slice_get_past rs i l)) (ap is_some e))
]
