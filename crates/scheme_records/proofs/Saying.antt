-- What the questions go by: the set of the record that was found, and the rules.
use Rattle.std.proofs.Common.{◌≡◌, ℕ, zero, suc, ◌<◌, Bool, true, false, cond, List, [], ◌∷◌, ◌++◌, length, map, Some, None, Option, sym, refl, ap, ◌∙◌, append_assoc, arith, length-append}
use Rattle.std.specs.Option.{option_map, option_to_list}
use Rattle.std.specs.List.{slice_get, find, count_by as count, filter_map, cons_option}
use Rattle.std.proofs.lemmas.List.Sums.{sum_by-cons}
use Rattle.std.proofs.lemmas.Option.{slice_get-map}
use Rattle.model.specs.Scheme.{Rule as Creation}
use Rattle.scheme.specs.Tables.{looked_up}
use Rattle.scheme_records.specs.declared.record.RuleKey.{RuleKey}
use Rattle.scheme_records.specs.declared.record.RuleSets.{RuleSets}
use Rattle.scheme_records.specs.declared.record.Record.{Record}
use Rattle.scheme_records.specs.declared.record.Record.TheVariants.{Kind, Right, Alternative, Filter, Demand, Rule}
use Rattle.scheme_records.specs.Said.{tagged, set_of, set_found, creation_said, rule_of, rules_of}

-- a set that is looked up is that of the first record
pub looked_first : (w : Record → Bool) (rs : List Record) → set_found (find w rs) ≡ looked_up w set_of rs
looked_first w [] = refl
looked_first w (r ∷ rs) = elim (w r) as (λ t. set_found (cond t (Some r) (find w rs)) ≡ cond t (set_of r) (looked_up w set_of rs)) [ true ↦ refl | false ↦ looked_first w rs ]

-- a record with tag 6 has a rule, and no other has
rule_counts : (r : Record) → cond (tagged 6 r) 1 0 ≡ length (option_to_list (rule_of r))
rule_counts (Kind n s) = refl
rule_counts (Right n c) = refl
rule_counts (Alternative l m) = refl
rule_counts (Filter q s) = refl
rule_counts (Demand q s) = refl
rule_counts (Rule q s) = refl

pub rules_count : (rs : List Record) → count (tagged 6) rs ≡ length (rules_of rs)
rules_count [] = refl
rules_count (r ∷ rs) = omega (arith, sum_by-cons (λ x. cond (tagged 6 x) 1 0) r rs, rules_count rs, rule_counts r, length-append (option_to_list (rule_of r)) (rules_of rs))

pub rules_joined : (xs ys : List Record) → rules_of (xs ++ ys) ≡ rules_of xs ++ rules_of ys
rules_joined [] ys = refl
rules_joined (x ∷ xs) ys = ap (λ (qs : List Creation). option_to_list (rule_of x) ++ qs) (rules_joined xs ys) ∙ sym (append_assoc (option_to_list (rule_of x)) (rules_of xs) (rules_of ys))

pub nth_front : {X : Type 0} (xs ys : List X) (i : ℕ) → i < length xs → slice_get (xs ++ ys) i ≡ slice_get xs i
nth_front [] ys i h = absurd (omega arith)
nth_front (x ∷ xs) ys zero h = refl
nth_front (x ∷ xs) ys (suc i) h = nth_front xs ys i (omega arith)

-- the key and the sets of a rule record
abbrev pub rule_parts : Record → Option (RuleKey × RuleSets)
rule_parts (Kind n s) = None
rule_parts (Right n c) = None
rule_parts (Alternative l m) = None
rule_parts (Filter q s) = None
rule_parts (Demand q s) = None
rule_parts (Rule q s) = Some (q, s)

parts_said : (r : Record) (qs : List (RuleKey × RuleSets)) → option_to_list (rule_of r) ++ map creation_said qs ≡ map creation_said (cons_option (rule_parts r) qs)
parts_said (Kind n s) qs = refl
parts_said (Right n c) qs = refl
parts_said (Alternative l m) qs = refl
parts_said (Filter q s) qs = refl
parts_said (Demand q s) qs = refl
parts_said (Rule q s) qs = refl

rules_said : (rs : List Record) → rules_of rs ≡ map creation_said (filter_map rule_parts rs)
rules_said [] = refl
rules_said (r ∷ rs) = ap (λ (qs : List Creation). option_to_list (rule_of r) ++ qs) (rules_said rs) ∙ parts_said r (filter_map rule_parts rs)

pub rule_said : (rs : List Record) (i : ℕ) (o : Option (RuleKey × RuleSets)) → o ≡ slice_get (filter_map rule_parts rs) i → option_map creation_said o ≡ slice_get (rules_of rs) i
rule_said rs i o e = ap (option_map creation_said) e ∙ sym (slice_get-map creation_said (filter_map rule_parts rs) i) ∙ ap (λ (qs : List Creation). slice_get qs i) (sym (rules_said rs))
