-- Going through the rules of a scheme, in order, until one is for the parents and the child; and what the rule that is found decides.
use Rattle.std.proofs.Common.{◌≡◌, ℕ, zero, suc, ◌+◌, ◌<◌, Bool, true, false, ltb, List, [], ◌∷◌, length, get_or, drop, is_some, IfSome, IfOk, Some, None, Option, sym, refl, ap, ◌∙◌, subst, ap₂, add-one, arith}
use Rattle.std.specs.Option.{option_map, ok_or}
use Rattle.std.specs.List.{slice_get}
use Rattle.std.proofs.lemmas.List.{drop_more}
use Rattle.std.proofs.lemmas.Option.{slice_get-get_or}
use Rattle.std.proofs.lemmas.Bool.{cond-true, cond-false, lt-ltb}
use Rattle.model.specs.declared.refusal.Refusal.TheVariants.{NoRule}
use Rattle.model.specs.declared.rules.Rule.{Rule as RuleStruct}
use Rattle.model.specs.Refusals.{told, bare, refused}
use Rattle.model.specs.Scheme.{Scheme, Rule, is_for, rule_number, rule_of}
use Rattle.model.specs.State.{State, kind, standing, subject}
use Rattle.model.specs.Calls.{check, each, passed, rule_for, rule_found}
use Rattle.model.proofs.Entities.{same_inside, Some≢None}
use Rattle.model.proofs.RuleNumbers.{found_rule}
use Rattle.register.specs.declared.parents.Parents.{Parents}
use Rattle.register.specs.Births.{rule_checks}

module _ (S : Scheme) (k1 : ℕ) (k2 : Option ℕ) (k i : ℕ) where
  abbrev from : ℕ → Option ℕ
  from j = rule_number (drop j S.rules) j k1 k2 k

  module _ (r : Rule) (l : i < length S.rules) (at : slice_get S.rules i ≡ Some r) where
    from_here : from i ≡ rule_number (r ∷ drop (i + 1) S.rules) i k1 k2 k
    from_here =
        ap (λ (rs : List Rule). rule_number rs i k1 k2 k) (drop_more S.rules i r l
        ∙ ap (λ (q : Rule). q ∷ drop (i + 1) S.rules) (same_inside (slice_get S.rules i) (get_or S.rules i r) r (slice_get-get_or S.rules i r l) at))

    -- this rule is for them, and none before it
    pub rule_here : rule_number S.rules 0 k1 k2 k ≡ from i → is_for r k1 k2 k ≡ true → Some r ≡ rule_found S (rule_number S.rules 0 k1 k2 k)
    rule_here e t =
        sym (ap (rule_found S) (e ∙ from_here ∙ cond-true (is_for r k1 k2 k) (Some i) (rule_number (drop (i + 1) S.rules) (suc i) k1 k2 k) t) ∙ at)

    -- it is not
    pub rule_past : rule_number S.rules 0 k1 k2 k ≡ from i → is_for r k1 k2 k ≡ false → rule_number S.rules 0 k1 k2 k ≡ from (i + 1)
    rule_past e f =
        e ∙ from_here ∙ cond-false (is_for r k1 k2 k) (Some i) (rule_number (drop (i + 1) S.rules) (suc i) k1 k2 k) f
        ∙ ap (λ (j : ℕ). rule_number (drop (i + 1) S.rules) j k1 k2 k) (sym (add-one i))

  -- there is a rule under every number below their count
  pub some_rule : i < length S.rules → slice_get S.rules i ≡ None → ⊥
  some_rule l e = within S.rules i l e
    where
      within : (rs : List Rule) (j : ℕ) → j < length rs → slice_get rs j ≡ None → ⊥
      within [] j l e = omega arith
      within (r ∷ rs) zero l e = Some≢None (Some r) r refl e
      within (r ∷ rs) (suc j) l e = within rs j (omega arith) e

-- the parents are subjects exactly where their kinds are those of subjects
each_kind : (S : Scheme) (st : State) (a : ℕ) (b : Option ℕ) → each (subject S st) a b ≡ each S.subject (kind st a) (option_map (kind st) b)
each_kind S st a (Some b) = refl
each_kind S st a None = refl

-- a rule that is found is the code's
ok_or_rule : (o : Option RuleStruct) (found : Option Rule) → option_map rule_of o ≡ found
    → (bare (told (ok_or o NoRule)) ≡ passed (check NoRule (is_some found) ∷ [])) × IfOk (ok_or o NoRule) (λ v. found ≡ Some (rule_of v))
ok_or_rule (Some v) found e = (ap (λ (q : Option Rule). passed (check NoRule (is_some q) ∷ [])) e, sym e)
ok_or_rule None found e = (ap (λ (q : Option Rule). passed (check NoRule (is_some q) ∷ [])) e, tt)

-- a rule stands under the number that is found
some_found : (S : Scheme) (k1 : ℕ) (k2 : Option ℕ) (k : ℕ) (o : Option ℕ) → rule_number S.rules 0 k1 k2 k ≡ o → is_some (rule_found S o) ≡ is_some o
some_found S k1 k2 k (Some j) e = ap is_some (found_rule k1 k2 k S.rules j e).1
some_found S k1 k2 k None e = refl

-- where the parents' kinds were found, they are subjects, and the child's kind is declared, the rule decides
module _ (S : Scheme) (st : State) (a : ℕ) (b : Option ℕ) (k : ℕ) (p : Option (Parents ℕ)) (v : Parents ℕ) (o : Option RuleStruct)
    (is : p ≡ Some v) (stand : is_some p ≡ each (standing st) a b) (kinds : IfSome p (λ w. (w.first ≡ kind st a) × (w.second ≡ option_map (kind st) b)))
    (subjects : each S.subject v.first v.second ≡ true) (declared : k < S.kinds)
    (found : option_map rule_of o ≡ rule_found S (rule_number S.rules 0 v.first v.second k)) where
  are : (v.first ≡ kind st a) × (v.second ≡ option_map (kind st) b)
  are = subst (λ (q : Option (Parents ℕ)). IfSome q (λ w. (w.first ≡ kind st a) × (w.second ≡ option_map (kind st) b))) is kinds

  same_rule : option_map rule_of o ≡ rule_found S (rule_for S st a b k)
  same_rule = found ∙ ap₂ (λ (i : ℕ) (j : Option ℕ). rule_found S (rule_number S.rules 0 i j k)) are.0 are.1

  pub rule_decides : bare (told (ok_or o NoRule)) ≡ passed (rule_checks S st a b k)
  rule_decides =
      (ok_or_rule o _ same_rule).0
      ∙ ap (λ (t : Bool). passed (check NoRule t ∷ [])) (some_found S (kind st a) (option_map (kind st) b) k (rule_for S st a b k) refl)
      ∙ sym (cond-true (each (standing st) a b) _ (refused 1) (sym stand ∙ ap is_some is)
      ∙ cond-true (each (subject S st) a b) _ (refused 2) (each_kind S st a b ∙ sym (ap₂ (each S.subject) are.0 are.1) ∙ subjects)
      ∙ cond-true (ltb k S.kinds) _ (refused 12) (lt-ltb k S.kinds declared))

  pub rule_is : IfOk (ok_or o NoRule) (λ w. rule_found S (rule_for S st a b k) ≡ Some (rule_of w))
  rule_is = (ok_or_rule o _ same_rule).1
