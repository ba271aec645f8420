-- A protection scheme: its types (here kinds), rights, links, filter, demands and creation rules, and when it is well formed.
use Rattle.std.specs.Prelude.{◌≡◌, ℕ, suc, ◌<◌, ◌≤◌, Bool, true, false, cond, ◌&&◌, List, [], ◌∷◌, Some, None, Option, ◌==◌}
use Rattle.std.specs.Option.{option_map}
use Rattle.std.specs.List.{slice_get}
use Rattle.model.specs.declared.rules.Sight.{Sight}
use Rattle.model.specs.declared.rules.Part.{Part as PartStruct}
use Rattle.model.specs.declared.rules.Rule.{Rule as RuleStruct}
use Rattle.model.specs.Tickets.{Tickets, bit, has, none, tickets_of}

-- one parent's part in a creation rule: its kind, and the tickets that go to the parent for the child (C), to the parent for
-- itself (S), and to the child for the parent (G)
pub record Part : Type 0 where
  pub kind : ℕ
  pub for_child : Tickets
  pub for_self : Tickets
  pub to_child : Tickets

-- a creation rule: one or two parents, the child's kind, and the child's tickets for itself (H)
pub record Rule : Type 0 where
  pub first : Part
  pub second : Option Part
  pub child : ℕ
  pub own : Tickets

-- what a part and a rule of the code mean
abbrev pub part_of : PartStruct → Part
part_of p = record {
  kind = p.kind;
  for_child = tickets_of p.for_child;
  for_self = tickets_of p.for_self;
  to_child = tickets_of p.to_child;
}

abbrev pub rule_of : RuleStruct → Rule
rule_of r = record { first = part_of r.first; second = option_map part_of r.second; child = r.child; own = tickets_of r.own }

pub record Scheme : Type 0 where
  -- how many kinds, rights and links there are; each is numbered from 0
  pub kinds : ℕ
  pub rights : ℕ
  pub links : ℕ
  -- which kinds are subjects, and the mask of the control rights
  pub subject : ℕ → Bool
  pub control : ℕ
  -- by link
  pub link : ℕ → Sight → Bool
  -- by link and the kinds of giver, taker and ticket
  pub filter : ℕ → ℕ → ℕ → ℕ → Tickets
  -- by the kinds of demander and ticket
  pub demand : ℕ → ℕ → Tickets
  -- in order: the first has number 0
  pub rules : List Rule

-- a rule asks for a second parent of this kind, or for none
abbrev pub same_second : Option Part → Option ℕ → Bool
same_second (Some p) (Some k) = p.kind == k
same_second (Some p) None = false
same_second None (Some k) = false
same_second None None = true

-- a rule is for parents of these kinds, in this order, and a child of this kind
abbrev pub is_for : Rule → ℕ → Option ℕ → ℕ → Bool
is_for r k1 k2 k = r.first.kind == k1 && same_second r.second k2 && r.child == k

-- the number of the rule for these parents' kinds and this child's kind, counted from i
abbrev pub rule_number : List Rule → ℕ → ℕ → Option ℕ → ℕ → Option ℕ
rule_number [] i k1 k2 k = None
rule_number (r ∷ rs) i k1 k2 k = cond (is_for r k1 k2 k) (Some i) (rule_number rs (suc i) k1 k2 k)

-- every right of the mask m is in n
abbrev pub Among : ℕ → ℕ → Type 0
Among m n = (x : ℕ) → bit x m ≡ true → bit x n ≡ true

-- t sees at least what s sees
pub record SeesMore (s t : Sight) : Type 0 where
  pub xx : Among s.xx t.xx
  pub xy : Among s.xy t.xy
  pub yx : Among s.yx t.yx
  pub yy : Among s.yy t.yy

-- the law of links: more rights never turn a yes into a no
abbrev pub Monotone : Scheme → Type 0
Monotone S = (i : ℕ) (s t : Sight) → SeesMore s t → S.link i s ≡ true → S.link i t ≡ true

-- a ticket set has only rights of the scheme, and copyable ones only among the plain
pub record Proper (S : Scheme) (s : Tickets) : Type 0 where
  pub known : (x : ℕ) (c : Bool) → has s x c ≡ true → x < S.rights
  pub nested : (x : ℕ) → has s x true ≡ true → has s x false ≡ true

-- a parent's part in a rule for a child of kind k: parents are subjects, and an object gets no tickets
pub record ProperPart (S : Scheme) (p : Part) (k : ℕ) : Type 0 where
  pub declared : p.kind < S.kinds
  pub subject : S.subject p.kind ≡ true
  pub for_child : Proper S p.for_child
  pub for_self : Proper S p.for_self
  pub to_child : Proper S p.to_child
  pub object_gets_none : S.subject k ≡ false → p.to_child ≡ none

-- a child of a declared kind, which gets no tickets if it is an object
pub record ProperChild (S : Scheme) (r : Rule) : Type 0 where
  pub declared : r.child < S.kinds
  pub own : Proper S r.own
  pub object_gets_none : S.subject r.child ≡ false → r.own ≡ none

-- what every scheme has to show
pub record WellFormed (S : Scheme) : Type 0 where
  pub few_kinds : S.kinds ≤ 16
  pub few_rights : S.rights ≤ 16
  pub few_links : S.links ≤ 8
  pub control_known : (x : ℕ) → bit x S.control ≡ true → x < S.rights
  pub monotone : Monotone S
  pub filters : (i a b y : ℕ) → Proper S (S.filter i a b y)
  pub demands : (b y : ℕ) → Proper S (S.demand b y)
  pub children : (i : ℕ) (r : Rule) → slice_get S.rules i ≡ Some r → ProperChild S r
  pub firsts : (i : ℕ) (r : Rule) → slice_get S.rules i ≡ Some r → ProperPart S r.first r.child
  pub seconds : (i : ℕ) (r : Rule) (p : Part) → slice_get S.rules i ≡ Some r → r.second ≡ Some p → ProperPart S p r.child
  -- no two rules have the same parents' kinds in order and the same child's kind: a rule's own kinds find that rule
  pub distinct : (i : ℕ) (r : Rule) → slice_get S.rules i ≡ Some r
      → rule_number S.rules 0 r.first.kind (option_map (λ p. p.kind) r.second) r.child ≡ Some i
