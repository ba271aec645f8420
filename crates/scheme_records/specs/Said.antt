-- The scheme that records say.
use Rattle.std.specs.Prelude.{ℕ, zero, suc, ◌^◌, Bool, false, cond, ◌&&◌, List, [], ◌∷◌, Some, None, Option, ◌==◌, bit_or, nat_lt}
use Rattle.std.specs.List.{flat_map, list_any as any, count_by as count}
use Rattle.std.specs.Option.{option_eq, option_map, option_to_list}
use Rattle.model.specs.declared.rules.Sight.{Sight}
use Rattle.model.specs.Tickets.{Tickets, none}
use Rattle.model.specs.Scheme.{Scheme, Rule as Creation, Part}
use Rattle.scheme.specs.Tables.{looked_up}
use Rattle.model.specs.declared.tickets.StoredSet.{StoredSet}
use Rattle.scheme_records.specs.declared.record.RuleKey.{RuleKey}
use Rattle.scheme_records.specs.declared.record.ParentSets.{ParentSets}
use Rattle.scheme_records.specs.declared.record.RuleSets.{RuleSets}
use Rattle.scheme_records.specs.declared.record.Record.{Record}
use Rattle.scheme_records.specs.declared.record.Record.TheVariants.{Kind, Right, Alternative, Filter, Demand, Rule}
use Rattle.scheme_records.specs.declared.record.Tag.{Tag}
use Rattle.scheme_records.specs.declared.record.Tag.TheVariants as tag

-- the number of a tag, and that of a record
abbrev pub tag_number : Tag → ℕ
tag_number tag.Kind = 1
tag_number tag.Right = 2
tag_number tag.Alternative = 3
tag_number tag.Filter = 4
tag_number tag.Demand = 5
tag_number tag.Rule = 6

abbrev pub tag_of : Record → ℕ
tag_of (Kind n s) = 1
tag_of (Right n c) = 2
tag_of (Alternative l m) = 3
tag_of (Filter q s) = 4
tag_of (Demand q s) = 5
tag_of (Rule q s) = 6

abbrev pub tagged : ℕ → Record → Bool
tagged t r = tag_of r == t

abbrev pub tag_above : ℕ → Record → Bool
tag_above t r = nat_lt t (tag_of r)

-- the record declares type k as a subject
abbrev pub subject_kind : ℕ → Record → Bool
subject_kind k (Kind n s) = n == k && s
subject_kind k (Right n c) = false
subject_kind k (Alternative l m) = false
subject_kind k (Filter q s) = false
subject_kind k (Demand q s) = false
subject_kind k (Rule q s) = false

-- the record declares right x as a control right
abbrev pub control_right : ℕ → Record → Bool
control_right x (Kind n s) = false
control_right x (Right n c) = n == x && c
control_right x (Alternative l m) = false
control_right x (Filter q s) = false
control_right x (Demand q s) = false
control_right x (Rule q s) = false

-- the record is an alternative of link i
abbrev pub of_link : ℕ → Record → Bool
of_link i (Kind n s) = false
of_link i (Right n c) = false
of_link i (Alternative l m) = l == i
of_link i (Filter q s) = false
of_link i (Demand q s) = false
of_link i (Rule q s) = false

-- every right of the mask m is in n
abbrev pub within : ℕ → ℕ → Bool
within m n = bit_or n m == n

-- every right of the four masks m is in those of n
abbrev pub all_within : Sight → Sight → Bool
all_within m n = within m.xx n.xx && (within m.xy n.xy && (within m.yx n.yx && within m.yy n.yy))

-- the record is an alternative of link i, and all its rights are seen
abbrev pub present : ℕ → Sight → Record → Bool
present i s (Kind n u) = false
present i s (Right n c) = false
present i s (Alternative l m) = l == i && all_within m s
present i s (Filter q u) = false
present i s (Demand q u) = false
present i s (Rule q u) = false

-- the record is the filter's for a link and the types of giver, taker and target
abbrev pub filter_for : ℕ → ℕ → ℕ → ℕ → Record → Bool
filter_for i a b k (Kind n s) = false
filter_for i a b k (Right n c) = false
filter_for i a b k (Alternative l m) = false
filter_for i a b k (Filter q s) = q.link == i && (q.giver == a && (q.taker == b && q.target == k))
filter_for i a b k (Demand q s) = false
filter_for i a b k (Rule q s) = false

-- the record is the demand for the types of demander and target
abbrev pub demand_for : ℕ → ℕ → Record → Bool
demand_for b k (Kind n s) = false
demand_for b k (Right n c) = false
demand_for b k (Alternative l m) = false
demand_for b k (Filter q s) = false
demand_for b k (Demand q s) = q.demander == b && q.target == k
demand_for b k (Rule q s) = false

abbrev pub same_parent : Option ℕ → Option ℕ → Bool
same_parent = option_eq (λ a b. a == b)

-- the record is the rule for the types of the parents, in order, and the child
abbrev pub rule_for : ℕ → Option ℕ → ℕ → Record → Bool
rule_for a b k (Kind n s) = false
rule_for a b k (Right n c) = false
rule_for a b k (Alternative l m) = false
rule_for a b k (Filter q s) = false
rule_for a b k (Demand q s) = false
rule_for a b k (Rule q s) = q.first == a && (same_parent q.second b && q.child == k)

-- a stored ticket set as it stands
abbrev pub set_said : StoredSet → Tickets
set_said s = record { plain = s.plain; copyable = s.copyable }

-- the ticket set of a filter or demand record
abbrev pub set_of : Record → Tickets
set_of (Kind n s) = none
set_of (Right n c) = none
set_of (Alternative l m) = none
set_of (Filter q s) = set_said s
set_of (Demand q s) = set_said s
set_of (Rule q s) = none

-- the ticket set of a record that was found
abbrev pub set_found : Option Record → Tickets
set_found None = none
set_found (Some r) = set_of r

-- the sets of one parent, all sets of a rule, and those that go to the child
abbrev pub parent_sets : ParentSets → List StoredSet
parent_sets s = s.for_child ∷ s.for_self ∷ s.to_child ∷ []

abbrev pub all_sets : RuleSets → List StoredSet
all_sets s =
    s.first.for_child ∷ s.second.for_child ∷ s.first.for_self ∷ s.second.for_self ∷ s.own ∷ s.first.to_child ∷ s.second.to_child ∷ []

abbrev pub child_sets : RuleSets → List StoredSet
child_sets s = s.own ∷ s.first.to_child ∷ s.second.to_child ∷ []

-- one parent's part as its kind and its sets say
abbrev pub part_said : ℕ → ParentSets → Part
part_said k s = record { kind = k; for_child = set_said s.for_child; for_self = set_said s.for_self; to_child = set_said s.to_child }

-- the creation rule of a rule record
abbrev pub creation : RuleKey → RuleSets → Creation
creation q s = record {
  first = part_said q.first s.first;
  second = option_map (λ k. part_said k s.second) q.second;
  child = q.child;
  own = set_said s.own;
}

abbrev pub creation_said : RuleKey × RuleSets → Creation
creation_said r = creation r.0 r.1

abbrev pub rule_of : Record → Option Creation
rule_of (Kind n s) = None
rule_of (Right n c) = None
rule_of (Alternative l m) = None
rule_of (Filter q s) = None
rule_of (Demand q s) = None
rule_of (Rule q s) = Some (creation q s)

-- the rules in the records' order
abbrev pub rules_of : List Record → List Creation
rules_of rs = flat_map (λ r. option_to_list (rule_of r)) rs

-- the mask of the rights below n that pass a test
abbrev pub mask_of : (ℕ → Bool) → ℕ → ℕ
mask_of p zero = 0
mask_of p (suc n) = cond (p n) (bit_or (mask_of p n) (2 ^ n)) (mask_of p n)

-- one above the highest number below n that passes a test
abbrev pub above : (ℕ → Bool) → ℕ → ℕ
above p zero = 0
above p (suc n) = cond (p n) (suc n) (above p n)

-- one above the highest link that has an alternative
unfoldable pub links_of : List Record → ℕ
links_of rs = above (λ i. any (of_link i) rs) 8

-- the mask of the control rights
unfoldable pub control_of : List Record → ℕ
control_of rs = mask_of (λ x. any (control_right x) rs) 16

-- As many types and rights as are declared; links up to the highest that has an alternative. A link holds exactly when some
-- alternative of it is present. Under the key of each filter and demand record stands its set, and all else is empty.
abbrev pub said : List Record → Scheme
said rs = record {
  kinds = count (tagged 1) rs;
  rights = count (tagged 2) rs;
  links = links_of rs;
  subject = λ k. any (subject_kind k) rs;
  control = control_of rs;
  link = λ i s. any (present i s) rs;
  filter = λ i a b y. looked_up (filter_for i a b y) set_of rs;
  demand = λ b y. looked_up (demand_for b y) set_of rs;
  rules = rules_of rs;
}

-- some record has the key of a filter, demand or rule record
abbrev pub repeats : List Record → Record → Bool
repeats rs (Kind n s) = false
repeats rs (Right n c) = false
repeats rs (Alternative l m) = false
repeats rs (Filter q s) = any (filter_for q.link q.giver q.taker q.target) rs
repeats rs (Demand q s) = any (demand_for q.demander q.target) rs
repeats rs (Rule q s) = any (rule_for q.first q.second q.child) rs
