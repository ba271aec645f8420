-- The card scheme: persons put cards into folders, and pass folders on through yards.
use Rattle.std.specs.Prelude.{ℕ, Bool, false, cond, ◌&&◌, ◌||◌, List, [], ◌∷◌, None, ◌==◌}
use Rattle.model.specs.declared.rules.Sight.{Sight}
use Rattle.model.specs.Tickets.{Tickets, bit, none}
use Rattle.model.specs.Scheme.{Scheme, Rule}
use Rattle.scheme.specs.Tables.{mask, tickets, looked_up}

-- the types; a card is the only object
abbrev pub person : ℕ
person = 0

abbrev pub folder : ℕ
folder = 1

abbrev pub yard : ℕ
yard = 2

abbrev pub card : ℕ
card = 3

abbrev pub is_subject : ℕ → Bool
is_subject k = k == person || k == folder || k == yard

-- the rights: r and w are inert, and t, g and o are control rights
abbrev pub r : ℕ
r = 0

abbrev pub w : ℕ
w = 1

abbrev pub t : ℕ
t = 2

abbrev pub g : ℕ
g = 3

abbrev pub o : ℕ
o = 4

-- the links
abbrev pub take_grant : ℕ
take_grant = 0

abbrev pub owner : ℕ
owner = 1

-- what a link from X to Y sees: X holds Y/x, and Y holds X/x
abbrev pub x_holds : Sight → ℕ → Bool
x_holds s x = bit x s.xy

abbrev pub y_holds : Sight → ℕ → Bool
y_holds s x = bit x s.yx

-- take-grant: X holds Y/g or Y holds X/t; owner: X holds Y/o or Y holds X/o
abbrev pub link_holds : ℕ → Sight → Bool
link_holds i s = cond (i == take_grant) (x_holds s g || y_holds s t) (cond (i == owner) (x_holds s o || y_holds s o) false)

-- an entry of the filter: on a link, from a giver's type to a taker's, these tickets for a target's type pass
pub record FilterEntry : Type 0 where
  pub link : ℕ
  pub giver : ℕ
  pub taker : ℕ
  pub target : ℕ
  pub passes : Tickets

-- the entry for a link, the types of giver, taker and target, and what passes
abbrev pub on : ℕ → ℕ → ℕ → ℕ → Tickets → FilterEntry
on i a b y s = record { link = i; giver = a; taker = b; target = y; passes = s }

-- the entry is for this link and these types of giver, taker and target
abbrev pub is_on : ℕ → ℕ → ℕ → ℕ → FilterEntry → Bool
is_on i a b y e = e.link == i && e.giver == a && e.taker == b && e.target == y

-- the filter's entries: no other ticket passes
abbrev pub filters : List FilterEntry
filters =
    on owner person yard person (tickets (t ∷ g ∷ []) [])
    ∷ on owner person folder card (tickets [] (r ∷ w ∷ []))
    ∷ on take_grant person yard folder (tickets [] (t ∷ []))
    ∷ on take_grant yard person folder (tickets (t ∷ []) [])
    ∷ on take_grant folder person card (tickets (r ∷ w ∷ []) [])
    ∷ []

-- an entry of the demands: a demander's type may demand these tickets for a target's type
pub record DemandEntry : Type 0 where
  pub demander : ℕ
  pub target : ℕ
  pub demands : Tickets

-- the entry is for these types of demander and target
abbrev pub is_by : ℕ → ℕ → DemandEntry → Bool
is_by b y e = e.demander == b && e.target == y

-- the demands: a person may demand person/tc and person/gc
abbrev pub demands : List DemandEntry
demands = record { demander = person; target = person; demands = tickets [] (t ∷ g ∷ []) } ∷ []

-- a rule with one parent: C goes to the parent for the child, G to the child for the parent, and all else is empty
abbrev pub creates : ℕ → ℕ → Tickets → Tickets → Rule
creates parent child C G = record {
  first = record { kind = parent; for_child = C; for_self = none; to_child = G };
  second = None;
  child = child;
  own = none;
}

-- the creation rules in their order
abbrev pub rules : List Rule
rules =
    creates person folder (tickets (o ∷ []) (t ∷ [])) none
    ∷ creates person yard (tickets (o ∷ []) []) (tickets (t ∷ g ∷ []) [])
    ∷ creates person card (tickets [] (r ∷ w ∷ [])) none
    ∷ []

-- the scheme: four types, five rights and two links
abbrev pub card_scheme : Scheme
card_scheme = record {
  kinds = 4;
  rights = 5;
  links = 2;
  subject = is_subject;
  control = mask (t ∷ g ∷ o ∷ []);
  link = link_holds;
  filter = λ i a b y. looked_up (is_on i a b y) (λ e. e.passes) filters;
  demand = λ b y. looked_up (is_by b y) (λ e. e.demands) demands;
  rules = rules;
}
