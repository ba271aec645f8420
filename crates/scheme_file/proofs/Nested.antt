-- A stored set that is proper has its copyable mask within the plain one: the sets of filters, demands and rules.
use Rattle.std.proofs.Common.{◌≡◌, ℕ, Bool, true, false, ◌||◌, Some, None, Option, sym, refl, ap, ◌∙◌, subst, inl, inr}
use lib.Bits.{bit_or}
use Rattle.std.specs.Option.{option_map, MatchOption, IsSomeAnd}
use Rattle.std.specs.List.{slice_get}
use Rattle.std.proofs.lemmas.Bool.{eq-eqb, eqb-true, cases_Bool, or_left}
use Rattle.model.specs.Tickets.{Tickets, bit, with_plain, tickets_of}
use Rattle.model.specs.declared.rules.Part.{Part as PartStruct}
use Rattle.model.specs.declared.rules.Rule.{Rule as RuleStruct}
use Rattle.model.specs.Scheme.{Scheme, Proper, WellFormed, part_of, rule_of}
use Rattle.scheme_records.specs.declared.record.ParentSets.{ParentSets}
use Rattle.model.proofs.Bits.{bit-bit_or, same_bits}
use Rattle.model.specs.declared.tickets.StoredSet.{StoredSet}
use Rattle.scheme_records.specs.declared.record.RuleKey.{RuleKey}
use Rattle.scheme_records.specs.declared.record.RuleSets.{RuleSets}
use Rattle.scheme_records.specs.Said.{set_said, part_said, creation}
use Rattle.scheme_file.specs.Checks.{nested, ParentNested}

or_false : (b : Bool) → (b || false) ≡ b
or_false true = refl
or_false false = refl

pub proper_nested : (S : Scheme) (s : StoredSet) → Proper S (set_said s) → nested s ≡ true
proper_nested S s p = eq-eqb (bit_or s.plain s.copyable) s.plain (same_bits (bit_or s.plain s.copyable) s.plain (λ x.
    bit-bit_or x s.plain s.copyable ∙ elim (cases_Bool (bit x s.copyable)) [
      | inl on ↦ let held = p.nested x on in or_left (bit x s.plain) (bit x s.copyable) held ∙ sym held
      | inr off ↦ ap (λ (b : Bool). bit x s.plain || b) off ∙ or_false (bit x s.plain)
    ]))

-- it is made a ticket set as it stands
pub stands : (s : StoredSet) → nested s ≡ true → with_plain s.plain s.copyable ≡ set_said s
stands s n = ap (λ (m : ℕ). record { plain = m; copyable = s.copyable }) (eqb-true (bit_or s.plain s.copyable) s.plain n)

pub found_nested : (S : Scheme) (s : StoredSet) (t : Tickets) → set_said s ≡ t → Proper S t → nested s ≡ true
found_nested S s t e p = proper_nested S s (subst (λ (u : Tickets). Proper S u) (sym e) p)

-- the sets of a rule of a well-formed scheme
module _ (S : Scheme) (w : WellFormed S) (i : ℕ) (q : RuleKey) (u : RuleSets) (e : Some (creation q u) ≡ slice_get S.rules i) where
  pub first_nested : ParentNested u.first
  first_nested =
      let f = w.firsts i (creation q u) (sym e) in
      (proper_nested S u.first.for_child f.for_child, (proper_nested S u.first.for_self f.for_self, proper_nested S u.first.to_child f.to_child))

  pub second_nested : (k : ℕ) → q.second ≡ Some k → ParentNested u.second
  second_nested k h =
      let f = w.seconds i (creation q u) (part_said k u.second) (sym e) (ap (option_map (λ x. part_said x u.second)) h) in
      (proper_nested S u.second.for_child f.for_child, (proper_nested S u.second.for_self f.for_self, proper_nested S u.second.to_child f.to_child))

  pub own_nested : nested u.own ≡ true
  own_nested = proper_nested S u.own (w.children i (creation q u) (sym e)).own

-- a rule that is made of a record's parts means what the record says
pub second_made : {P : ℕ → PartStruct → Type 0} (o : Option ℕ) (r : Option PartStruct) (s : ParentSets) → MatchOption o (r ≡ None) (λ k. IsSomeAnd r (P k))
    → ((k : ℕ) (p : PartStruct) → P k p → part_of p ≡ part_said k s) → option_map part_of r ≡ option_map (λ k. part_said k s) o
second_made None r s m f = ap (option_map part_of) m
second_made (Some k) (Some p) s m f = ap Some (f k p m)
second_made (Some k) None s m f = absurd m

pub rule_made : (r : RuleStruct) (q : RuleKey) (u : RuleSets) → part_of r.first ≡ part_said q.first u.first
    → option_map part_of r.second ≡ option_map (λ k. part_said k u.second) q.second → r.child ≡ q.child → tickets_of r.own ≡ set_said u.own → rule_of r ≡ creation q u
rule_made r q u f s c o = cc
