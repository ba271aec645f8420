-- The calls of an open register and its question: what each checks, in order, what it answers and what it leaves.
use Rattle.std.specs.Prelude.{ℕ, zero, suc, ◌-◌, ◌^◌, Bool, true, false, cond, ◌&&◌, List, [], ◌∷◌, ◌++◌, length, is_some, Some, None, Option, bit_and, nat_le, nat_lt}
use Rattle.std.specs.Option.{unwrap_or, option_map}
use Rattle.std.specs.List.{slice_get}
use Rattle.model.specs.declared.refusal.Refusal.{Refusal}
use Rattle.model.specs.declared.refusal.Refusal.TheVariants.{NotStanding, NotSubject, UnknownRight, NotCopyable, NoLink, NotPassed, NotDemandable, NoRule, RowsTaken, NumbersSpent, PairsTaken, UnknownKind, NotHeld}
use Rattle.model.specs.declared.rules.Sight.{Sight}
use Rattle.model.specs.Refusals.{Answer, granted, refused, refusal_number}
use Rattle.model.specs.Tickets.{Tickets, has, ticket_of, join, bit}
use Rattle.model.specs.Scheme.{Scheme, Rule, Part, rule_number}
use Rattle.model.specs.State.{Table, State, Room, last_number, kind, standing, subject, holds, gain, added, holding, stored, removed, filled, stores}

-- what has to hold, and the refusal where it does not
pub record Check : Type 0 where
  pub holds : Bool
  pub refusal : Refusal

abbrev pub check : Refusal → Bool → Check
check e b = record { holds = b; refusal = e }

-- the first check that fails names the refusal
abbrev pub decide : {A : Type 0} → List Check → A → Answer A
decide [] a = granted a
decide (c ∷ cs) a = cond c.holds (decide cs a) (refused (refusal_number c.refusal))

-- all checks hold, or the first that fails names the refusal
abbrev pub passed : List Check → Answer (Unit {0})
passed cs = decide cs tt

-- the state after an answer: a refusal leaves what there was
abbrev pub after : {A : Type 0} → Answer A → State → State → State
after (granted a) changed st = changed
after (refused n) changed st = st

-- there is a row and a number for one entity more
abbrev pub row_checks : Room → State → List Check
row_checks R st = check RowsTaken (nat_lt (length st.entities) R.rows) ∷ check NumbersSpent (nat_le st.next last_number) ∷ []

-- adding an entity to holdings answers its number
abbrev pub add_answer : Room → State → Answer ℕ
add_answer R st = decide (row_checks R st) st.next

-- storing a set in holdings: holder and target stand, and there is a pair for it
abbrev pub store_answer : Room → State → ℕ → ℕ → Tickets → Answer (Unit {0})
store_answer R st h y s = passed (check NotStanding (standing st h && standing st y) ∷ check PairsTaken (stores R st h y s) ∷ [])

-- what most calls check first: holder and target stand, the holder is a subject, and the scheme has the right
abbrev pub party_checks : Scheme → State → ℕ → ℕ → ℕ → List Check
party_checks S st h y x =
    check NotStanding (standing st h && standing st y) ∷ check NotSubject (subject S st h) ∷ check UnknownRight (nat_lt x S.rights) ∷ []

-- the question whether h holds a ticket for y
abbrev pub question_answer : Scheme → State → ℕ → ℕ → ℕ → Bool → Answer Bool
question_answer S st h y x c = decide (party_checks S st h y x) (holds st h y x c)

-- what h has for y when it gains one ticket
abbrev pub gained : State → ℕ → ℕ → ℕ → Bool → Tickets
gained st h y x c = join (st.tickets h y) (ticket_of x c)

-- the numbers below n, lowest first
abbrev pub upto : ℕ → List ℕ
upto zero = []
upto (suc n) = upto n ++ n ∷ []

-- the first number of a list that passes a test
abbrev pub first : (ℕ → Bool) → List ℕ → Option ℕ
first p [] = None
first p (i ∷ is) = cond (p i) (Some i) (first p is)

-- the control rights that a link from a to b looks at; copy flags do not count
abbrev pub sight : Scheme → State → ℕ → ℕ → Sight
sight S st a b = record {
  xx = bit_and (st.tickets a a).plain S.control;
  xy = bit_and (st.tickets a b).plain S.control;
  yx = bit_and (st.tickets b a).plain S.control;
  yy = bit_and (st.tickets b b).plain S.control;
}

-- link i holds from a to b
abbrev pub linked : Scheme → State → ℕ → ℕ → ℕ → Bool
linked S st a b i = S.link i (sight S st a b)

-- link i's filter passes the ticket for y from a to b as wanted
abbrev pub passes : Scheme → State → ℕ → ℕ → ℕ → ℕ → Bool → ℕ → Bool
passes S st a b y x c i = has (S.filter i (kind st a) (kind st b) (kind st y)) x c

-- the lowest link that holds, and the lowest that holds and passes
abbrev pub first_link : Scheme → State → ℕ → ℕ → Option ℕ
first_link S st a b = first (linked S st a b) (upto S.links)

abbrev pub passing_link : Scheme → State → ℕ → ℕ → ℕ → ℕ → Bool → Option ℕ
passing_link S st a b y x c = first (λ i. linked S st a b i && passes S st a b y x c i) (upto S.links)

-- the demand function has the ticket for y as wanted
abbrev pub demands : Scheme → State → ℕ → ℕ → ℕ → Bool → Bool
demands S st b y x c = has (S.demand (kind st b) (kind st y)) x c

-- a test of one parent, and of the second where there is one
abbrev pub each : (ℕ → Bool) → ℕ → Option ℕ → Bool
each p a (Some b) = p a && p b
each p a None = p a

-- the number of the rule by which these parents, in order, create a child of kind k
abbrev pub rule_for : Scheme → State → ℕ → Option ℕ → ℕ → Option ℕ
rule_for S st a b k = rule_number S.rules 0 (kind st a) (option_map (kind st) b) k

-- one parent's part in the tickets that a creation adds
abbrev pub give : Table → Part → ℕ → ℕ → Table
give t p a n = gain (gain (gain t a n p.for_child) a a p.for_self) n a p.to_child

abbrev pub give_second : Table → Option Part → Option ℕ → ℕ → Table
give_second t (Some p) (Some b) n = give t p b n
give_second t (Some p) None n = t
give_second t None (Some b) n = t
give_second t None None n = t

-- the state after parents a and perhaps b created a child by a rule: it has the next number
abbrev pub born : State → Rule → ℕ → Option ℕ → State
born st r a b =
    holding (added st r.child)
    (gain (give_second (give st.tickets r.first a st.next) r.second b st.next) st.next st.next r.own)

abbrev pub born_by : State → Option Rule → ℕ → Option ℕ → State
born_by st (Some r) a b = born st r a b
born_by st None a b = st

-- the rule with a number that was found
abbrev pub rule_found : Scheme → Option ℕ → Option Rule
rule_found S (Some i) = slice_get S.rules i
rule_found S None = None

abbrev pub child_state : Scheme → State → ℕ → Option ℕ → ℕ → State
child_state S st a b k = born_by st (rule_found S (rule_for S st a b k)) a b

-- the mask without right x
abbrev pub less : ℕ → ℕ → ℕ
less m x = cond (bit x m) (m - 2 ^ x) m

-- the set without x and xc
abbrev pub without_right : Tickets → ℕ → Tickets
without_right s x = record { plain = less s.plain x; copyable = less s.copyable x }

-- the five calls that change an open register
pub data Call : Type 0 where
  copy : (giver taker target right : ℕ) (flag : Bool) → Call
  demand : (demander target right : ℕ) (flag : Bool) → Call
  create : (parent : ℕ) (second : Option ℕ) (kind : ℕ) → Call
  drop : (holder target right : ℕ) → Call
  retire : (entity : ℕ) → Call

-- what a call checks, in order
abbrev pub checks : Scheme → Room → State → Call → List Check
checks S R st (copy a b y x c) =
    check NotStanding (standing st a && standing st b && standing st y)
    ∷ check NotSubject (subject S st a && subject S st b)
    ∷ check UnknownRight (nat_lt x S.rights)
    ∷ check NotCopyable (holds st a y x true)
    ∷ check NoLink (is_some (first_link S st a b))
    ∷ check NotPassed (is_some (passing_link S st a b y x c))
    ∷ check PairsTaken (stores R st b y (gained st b y x c))
    ∷ []
checks S R st (demand b y x c) =
    party_checks S st b y x
    ++ check NotDemandable (demands S st b y x c)
    ∷ check PairsTaken (stores R st b y (gained st b y x c))
    ∷ []
checks S R st (create a b k) =
    check NotStanding (each (standing st) a b)
    ∷ check NotSubject (each (subject S st) a b)
    ∷ check UnknownKind (nat_lt k S.kinds)
    ∷ check NoRule (is_some (rule_for S st a b k))
    ∷ (row_checks R st ++ check PairsTaken (nat_le (filled (child_state S st a b k)) R.pairs) ∷ [])
checks S R st (drop a y x) = party_checks S st a y x ++ check NotHeld (holds st a y x false) ∷ []
checks S R st (retire y) = check NotStanding (standing st y) ∷ []

-- the number that a granted call answers: a copy the lowest link that holds and passes, a creation the child's number, else 0
abbrev pub reply : Scheme → State → Call → ℕ
reply S st (copy a b y x c) = unwrap_or (passing_link S st a b y x c) 0
reply S st (demand b y x c) = 0
reply S st (create a b k) = st.next
reply S st (drop a y x) = 0
reply S st (retire y) = 0

abbrev pub answer : Scheme → Room → State → Call → Answer ℕ
answer S R st k = decide (checks S R st k) (reply S st k)

-- what a granted call leaves
abbrev pub effect : Scheme → State → Call → State
effect S st (copy a b y x c) = stored st b y (gained st b y x c)
effect S st (demand b y x c) = stored st b y (gained st b y x c)
effect S st (create a b k) = child_state S st a b k
effect S st (drop a y x) = stored st a y (without_right (st.tickets a y) x)
effect S st (retire y) = removed st y

-- the state after a call, granted or refused
abbrev pub step : Scheme → Room → State → Call → State
step S R st k = after (answer S R st k) (effect S st k) st
