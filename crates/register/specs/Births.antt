-- A creation as the code goes about it: the checks up to the rule, each parent's share, and the state that it leaves.
use Rattle.std.specs.Prelude.{◌≡◌, ℕ, ◌+◌, ◌<◌, true, ◌≢◌, List, [], ◌∷◌, is_some, IfSome, Some, None, Option, nat_lt}
use Rattle.model.specs.declared.refusal.Refusal.TheVariants.{NotStanding, NotSubject, NoRule, UnknownKind}
use Rattle.model.specs.Tickets.{tickets_of, join}
use Rattle.model.specs.Scheme.{Scheme, Part, Rule, part_of}
use Rattle.model.specs.State.{State, Table, standing, subject, gain, added, holding, takes, takes_beside}
use Rattle.model.specs.Calls.{Check, check, each, rule_for, give, born}
use Rattle.register.specs.declared.births.Share.{Share}
use Rattle.register.specs.declared.births.Birth.{Birth}

-- the parents stand and are subjects, the scheme has the child's kind, and there is a rule
abbrev pub rule_checks : Scheme → State → ℕ → Option ℕ → ℕ → List Check
rule_checks S st a b k =
    check NotStanding (each (standing st) a b)
    ∷ check NotSubject (each (subject S st) a b)
    ∷ check UnknownKind (nat_lt k S.kinds)
    ∷ check NoRule (is_some (rule_for S st a b k))
    ∷ []

-- two parts of one parent as one
abbrev pub join_parts : Part → Part → Part
join_parts p q = record {
  kind = p.kind;
  for_child = join p.for_child q.for_child;
  for_self = join p.for_self q.for_self;
  to_child = join p.to_child q.to_child;
}

-- the tickets that a share adds when the child is n
abbrev pub give_share : Table → Share → ℕ → Table
give_share t s n = give t (part_of s.part) s.parent n

abbrev pub give_other : Table → Option Share → ℕ → Table
give_other t (Some s) n = give_share t s n
give_other t None n = t

-- those that a birth adds
abbrev pub birth_table : Table → Birth → ℕ → Table
birth_table t b n = gain (give_other (give_share t b.first n) b.second n) n n (tickets_of b.own)

-- the state after a birth
abbrev pub brought : State → Birth → State
brought st b = holding (added st b.child) (birth_table st.tickets b st.next)

-- how many pairs a share fills where there are no tickets for the child or by it
abbrev pub share_pairs : Table → Share → ℕ
share_pairs t s = takes (tickets_of s.part.for_child) + takes_beside (t s.parent s.parent) (tickets_of s.part.for_self) + takes (tickets_of s.part.to_child)

-- a birth by rule r of parents a and perhaps b: its shares are of different parents, and it leaves what the rule says
pub record ByRule (r : Rule) (a : ℕ) (b : Option ℕ) (v : Birth) : Type 0 where
  pub first : v.first.parent ≡ a
  pub second : IfSome v.second (λ s. (b ≡ Some s.parent) × (s.parent ≢ a))
  pub leaves : (st : State) → a < st.next → brought st v ≡ born st r a b

-- the parents of a birth stand, and they are different
pub record ParentsStand (st : State) (v : Birth) : Type 0 where
  pub first : standing st v.first.parent ≡ true
  pub second : IfSome v.second (λ s. (standing st s.parent ≡ true) × (s.parent ≢ v.first.parent))
