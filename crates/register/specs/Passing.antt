-- What a copy checks of its parties, and the lowest link that holds and passes a ticket, by what links see and the kinds of giver,
-- taker and target.
use Rattle.std.specs.Prelude.{ℕ, Bool, ◌&&◌, List, [], ◌∷◌, is_some, nat_lt}
use Rattle.std.specs.Option.{unwrap_or}
use Rattle.model.specs.declared.refusal.Refusal.TheVariants.{NotStanding, NotSubject, UnknownRight, NoLink, NotPassed}
use Rattle.model.specs.declared.rules.Sight.{Sight}
use Rattle.model.specs.Refusals.{Answer}
use Rattle.model.specs.Tickets.{has}
use Rattle.model.specs.Scheme.{Scheme}
use Rattle.model.specs.State.{State, standing, subject}
use Rattle.model.specs.Calls.{Check, check, decide, first, upto}

-- giver, taker and target stand, giver and taker are subjects, and the scheme has the right
abbrev pub copy_party_checks : Scheme → State → ℕ → ℕ → ℕ → ℕ → List Check
copy_party_checks S st a b y x =
    check NotStanding (standing st a && standing st b && standing st y)
    ∷ check NotSubject (subject S st a && subject S st b)
    ∷ check UnknownRight (nat_lt x S.rights)
    ∷ []

-- link i holds and passes the ticket
abbrev pub lets : Scheme → Sight → ℕ → ℕ → ℕ → ℕ → Bool → ℕ → Bool
lets S v a b y x c i = S.link i v && has (S.filter i a b y) x c

-- the lowest such link, or why there is none
abbrev pub lowest_answer : Scheme → Sight → ℕ → ℕ → ℕ → ℕ → Bool → Answer ℕ
lowest_answer S v a b y x c =
    decide
    (check NoLink (is_some (first (λ i. S.link i v) (upto S.links)))
    ∷ check NotPassed (is_some (first (lets S v a b y x c) (upto S.links)))
    ∷ [])
    (unwrap_or (first (lets S v a b y x c) (upto S.links)) 0)
