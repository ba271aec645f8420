-- Tests that compute, and that show a scheme well formed: of a mask, a ticket set, a table of ticket sets, and the creation rules.
use Rattle.std.specs.Prelude.{◌≡◌, ℕ, zero, suc, ◌+◌, ◌^◌, ◌<◌, Bool, true, false, cond, ◌&&◌, ◌||◌, List, [], ◌∷◌, Some, None, Option, ◌==◌, bit_or, nat_lt, refl}
use Rattle.std.proofs.Common.{inl, inr, sym, ap, ap₂, subst, ◌∙◌, arith}
use Rattle.std.specs.Option.{option_map}
use Rattle.std.specs.List.{slice_get}
use Rattle.std.proofs.lemmas.Bool.{eqb-true, ltb-true, both_ways, and_parts, or_cases, or_left, or_right, cond_both}
use Rattle.model.specs.Tickets.{Tickets, bit, has, none, empty}
use Rattle.model.specs.Scheme.{Scheme, Rule, Part, Proper, ProperPart, ProperChild, rule_number}
use Rattle.model.proofs.Bits.{bit_below, bit_within, bit_zero}
use Rattle.scheme.specs.Tables.{looked_up}

-- a ticket set is proper: its rights are the scheme's, and the copyable ones are plain ones
abbrev pub proper_test : Scheme → Tickets → Bool
proper_test S s = nat_lt s.plain (2 ^ S.rights) && bit_or s.plain s.copyable == s.plain

pub proper_by : (S : Scheme) (s : Tickets) → proper_test S s ≡ true → Proper S s
proper_by S s t =
    let b = and_parts (nat_lt s.plain (2 ^ S.rights)) (bit_or s.plain s.copyable == s.plain) t in
    let within : (x : ℕ) → bit x s.copyable ≡ true → bit x s.plain ≡ true =
    λ x. bit_within s.plain s.copyable x (eqb-true (bit_or s.plain s.copyable) s.plain b.1) in
    let known : (x : ℕ) → bit x s.plain ≡ true → x < S.rights =
    λ x. bit_below S.rights s.plain x (ltb-true s.plain (2 ^ S.rights) b.0) in
    record {
      known = λ x c. elim c as (λ d. has s x d ≡ true → x < S.rights) [ true ↦ (λ h. known x (within x h)) | false ↦ known x ];
      nested = within;
    }

-- no ticket at all is proper in every scheme
proper_none : (S : Scheme) → Proper S none
proper_none S = record { known = λ x c h. absurd (both_ways (bit x 0) (bit_zero x) (has_zero x c h)); nested = λ x h. h }
  where
    has_zero : (x : ℕ) (c : Bool) → has none x c ≡ true → bit x 0 ≡ true
    has_zero x true h = h
    has_zero x false h = h

-- every ticket set of a table is proper: then what is looked up in it is proper too
abbrev pub table_test : {E : Type 0} → Scheme → (E → Tickets) → List E → Bool
table_test S value [] = true
table_test S value (e ∷ es) = proper_test S (value e) && table_test S value es

pub looked_up_proper : {E : Type 0} (S : Scheme) (here : E → Bool) (value : E → Tickets) (es : List E) → table_test S value es ≡ true
    → Proper S (looked_up here value es)
looked_up_proper S here value [] t = proper_none S
looked_up_proper S here value (e ∷ es) t =
    let b = and_parts (proper_test S (value e)) (table_test S value es) t in
    cond_both (here e) (value e) (looked_up here value es) (λ s. Proper S s) (λ _. proper_by S (value e) b.0) (λ _. looked_up_proper S here value es b.1)

-- a set that goes to an entity of kind k is empty if k is an object
abbrev gets_test : Scheme → ℕ → Tickets → Bool
gets_test S k s = S.subject k || empty s

gets_by : (S : Scheme) (k : ℕ) (s : Tickets) → gets_test S k s ≡ true → S.subject k ≡ false → s ≡ none
gets_by S k s t f = elim (or_cases (S.subject k) (empty s) t) [
  | inl h ↦ absurd (both_ways (S.subject k) f h)
  | inr h ↦ let b = and_parts (s.plain == 0) (s.copyable == 0) h in
      ap₂ (λ (p c : ℕ). record { plain = p; copyable = c }) (eqb-true s.plain 0 b.0) (eqb-true s.copyable 0 b.1)
]

-- a parent's part in a rule for a child of kind k is proper
abbrev pub part_test : Scheme → Part → ℕ → Bool
part_test S p k =
    nat_lt p.kind S.kinds
    && (S.subject p.kind
    && (proper_test S p.for_child && (proper_test S p.for_self && (proper_test S p.to_child && gets_test S k p.to_child))))

pub part_by : (S : Scheme) (p : Part) (k : ℕ) → part_test S p k ≡ true → ProperPart S p k
part_by S p k t =
    let b0 = and_parts (nat_lt p.kind S.kinds) _ t in
    let b1 = and_parts (S.subject p.kind) _ b0.1 in
    let b2 = and_parts (proper_test S p.for_child) _ b1.1 in
    let b3 = and_parts (proper_test S p.for_self) _ b2.1 in
    let b4 = and_parts (proper_test S p.to_child) _ b3.1 in
    record {
      declared = ltb-true p.kind S.kinds b0.0;
      subject = b1.0;
      for_child = proper_by S p.for_child b2.0;
      for_self = proper_by S p.for_self b3.0;
      to_child = proper_by S p.to_child b4.0;
      object_gets_none = gets_by S k p.to_child b4.1;
    }

abbrev pub second_test : Scheme → Option Part → ℕ → Bool
second_test S (Some p) k = part_test S p k
second_test S None k = true

-- the child of a rule is proper
abbrev pub child_test : Scheme → Rule → Bool
child_test S r = nat_lt r.child S.kinds && (proper_test S r.own && gets_test S r.child r.own)

-- every rule of a list has a proper child and proper parts
abbrev pub rules_test : Scheme → List Rule → Bool
rules_test S [] = true
rules_test S (r ∷ rs) = child_test S r && (part_test S r.first r.child && (second_test S r.second r.child && rules_test S rs))

-- what the test of the rules says of one of them
record Tested (S : Scheme) (r : Rule) : Type 0 where
  child : child_test S r ≡ true
  first : part_test S r.first r.child ≡ true
  second : second_test S r.second r.child ≡ true

tested : (S : Scheme) (rs : List Rule) → rules_test S rs ≡ true → (i : ℕ) (r : Rule) → slice_get rs i ≡ Some r → Tested S r
tested S [] t i r e = let z : ◌≡◌ {A = ℕ} 0 1 = cc in absurd (omega arith)
tested S (q ∷ rs) t zero r e =
    let b0 = and_parts (child_test S q) _ t in
    let b1 = and_parts (part_test S q.first q.child) _ b0.1 in
    let same : q ≡ r = cc in
    subst (λ (x : Rule). Tested S x) same
    (record { child = b0.0; first = b1.0; second = (and_parts (second_test S q.second q.child) (rules_test S rs) b1.1).0 })
tested S (q ∷ rs) t (suc i) r e =
    let b0 = and_parts (child_test S q) _ t in
    let b1 = and_parts (part_test S q.first q.child) _ b0.1 in
    tested S rs (and_parts (second_test S q.second q.child) (rules_test S rs) b1.1).1 i r e

module _ (S : Scheme) (t : rules_test S S.rules ≡ true) (i : ℕ) (r : Rule) (e : slice_get S.rules i ≡ Some r) where
  pub child_by : ProperChild S r
  child_by =
      let b0 = and_parts (nat_lt r.child S.kinds) _ (tested S S.rules t i r e).child in
      let b1 = and_parts (proper_test S r.own) _ b0.1 in
      record { declared = ltb-true r.child S.kinds b0.0; own = proper_by S r.own b1.0; object_gets_none = gets_by S r.child r.own b1.1 }

  pub first_by : ProperPart S r.first r.child
  first_by = part_by S r.first r.child (tested S S.rules t i r e).first

  pub second_by : (p : Part) → r.second ≡ Some p → ProperPart S p r.child
  second_by p q = part_by S p r.child (sym (ap (λ (o : Option Part). second_test S o r.child) q) ∙ (tested S S.rules t i r e).second)

-- the number of the rule that a rule's own kinds find
abbrev found : List Rule → Rule → Option ℕ
found rs r = rule_number rs 0 r.first.kind (option_map (λ p. p.kind) r.second) r.child

abbrev is_number : Option ℕ → ℕ → Bool
is_number (Some j) i = j == i
is_number None i = false

is_number_by : (o : Option ℕ) (i : ℕ) → is_number o i ≡ true → o ≡ Some i
is_number_by (Some j) i t = ap Some (eqb-true j i t)
is_number_by None i t = absurd (both_ways false refl t)

-- each rule's own kinds find that rule, the rules from number i on
abbrev pub distinct_test : List Rule → ℕ → List Rule → Bool
distinct_test all i [] = true
distinct_test all i (r ∷ rs) = is_number (found all r) i && distinct_test all (suc i) rs

distinct_from : (all : List Rule) (i : ℕ) (rs : List Rule) → distinct_test all i rs ≡ true → (j : ℕ) (r : Rule) → slice_get rs j ≡ Some r
    → found all r ≡ Some (i + j)
distinct_from all i [] t j r e = let z : ◌≡◌ {A = ℕ} 0 1 = cc in absurd (omega arith)
distinct_from all i (q ∷ rs) t zero r e =
    let same : q ≡ r = cc in
    subst (λ (x : Rule). found all x ≡ Some (i + 0)) same
    (is_number_by (found all q) i (and_parts (is_number (found all q) i) (distinct_test all (suc i) rs) t).0 ∙ ap Some (omega arith))
distinct_from all i (q ∷ rs) t (suc j) r e =
    distinct_from all (suc i) rs (and_parts (is_number (found all q) i) (distinct_test all (suc i) rs) t).1 j r e ∙ ap Some (omega arith)

pub distinct_by : (S : Scheme) → distinct_test S.rules 0 S.rules ≡ true → (i : ℕ) (r : Rule) → slice_get S.rules i ≡ Some r
    → found S.rules r ≡ Some i
distinct_by S t i r e = distinct_from S.rules 0 S.rules t i r e ∙ ap Some (omega arith)

-- more to see, more that holds: of either of two tests, and of a choice by a test that stays
pub or_more : (a b c d : Bool) → (a ≡ true → c ≡ true) → (b ≡ true → d ≡ true) → (a || b) ≡ true → (c || d) ≡ true
or_more a b c d f g h = elim (or_cases a b h) [ inl x ↦ or_left c d (f x) | inr x ↦ or_right c d (g x) ]

pub cond_more : (t a b c d : Bool) → (a ≡ true → c ≡ true) → (b ≡ true → d ≡ true) → cond t a b ≡ true → cond t c d ≡ true
cond_more true a b c d f g h = f h
cond_more false a b c d f g h = g h
