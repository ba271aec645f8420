-- A closure is the least closed table that contains the state's, holds exactly what can be derived, is one, and leaves a sound register
-- sound.
use Rattle.std.proofs.Common.{◌≡◌, ℕ, ◌<◌, Bool, true, false}
use mathlib.Core.Path.{fun_ext}
use Rattle.model.specs.Tickets.{has}
use Rattle.model.specs.Scheme.{Scheme, Monotone}
use Rattle.model.specs.State.{State, Table, standing, subject, gain, holding}
use Rattle.model.specs.Laws.{Sound}
use Rattle.model.specs.Grants.{Exactly}
use Rattle.model.specs.Spread.{Closed, Contains, Grows, start, copies, demanded, Closure, Least, Derivable, is_held, by_copy, by_demand}
use Rattle.model.proofs.Tables.{Each, Fine, each_joins, fine_gain, gain_keeps, contains_trans, same_tickets, none_has}
use Rattle.model.proofs.Links.{still_may_copy, still_may_demand}

module _ (S : Scheme) (st : State) where
  pub grown_contains : (t : Table) → Grows S st t → Contains t st.tickets
  grown_contains t start = λ h y x c e. e
  grown_contains t (copies u a b y s g f) = contains_trans (gain u b y s) u st.tickets (gain_keeps u b y s) (grown_contains u g)
  grown_contains t (demanded u b y s g f) = contains_trans (gain u b y s) u st.tickets (gain_keeps u b y s) (grown_contains u g)

  -- each ticket of a table that was reached can be derived
  grown_derives : (t : Table) → Grows S st t → Fine (Each (Derivable S st)) t
  grown_derives t start = is_held
  grown_derives t (copies u a b y s g f) =
      let d : Fine (Each (Derivable S st)) u = grown_derives u g in
      fine_gain (Each (Derivable S st)) (each_joins (Derivable S st)) u b y s d
      (λ x c e. let k = f x c e in by_copy u a b y x k.0 c d k.2 k.1)
  grown_derives t (demanded u b y s g f) =
      fine_gain (Each (Derivable S st)) (each_joins (Derivable S st)) u b y s (grown_derives u g)
      (λ x c e. let k = f x c e in by_demand b y x k.0 c (still_may_demand S st u st.tickets b y x k.0 k.2) k.1)

  -- and what can be derived is in every closed table that contains the state's
  derives_within : (u : Table) → Monotone S → Contains u st.tickets → Closed S (holding st u) → (h y x : ℕ) (c : Bool) → Derivable S st h y x c → has (u h y) x c ≡ true
  derives_within u m p k h y x c (is_held h' y' x' c' e) = p h y x c e
  derives_within u m p k h y x c (by_copy t a b y' x' d c' f may e) =
      k.copies a h y x d c (still_may_copy S st t u m (λ i j z v q. derives_within u m p k i j z v (f i j z v q)) a h y x d may) e
  derives_within u m p k h y x c (by_demand b y' x' d c' may e) = k.demanded h y x d c (still_may_demand S st st.tickets u h y x d may) e

  module _ (m : Monotone S) (t : Table) (p : Closure S st t) where
    pub least : Least S st t
    least = record {
      contains = grown_contains t p.grown;
      closed = p.closed;
      least = λ u q k h y x c e. derives_within u m q k h y x c (grown_derives t p.grown h y x c e);
    }

    pub derives : (h y x : ℕ) (c : Bool) → Exactly (has (t h y) x c ≡ true) (Derivable S st h y x c)
    derives h y x c = record {
      only = grown_derives t p.grown h y x c;
      whenever = derives_within t m (grown_contains t p.grown) p.closed h y x c;
    }

  -- there is one closure
  pub one_closure : Monotone S → (t u : Table) → Closure S st t → Closure S st u → t ≡ u
  one_closure m t u p q =
      let k = least m t p in
      let l = least m u q in
      fun_ext (λ h. fun_ext (λ y. same_tickets (t h y) (u h y) (k.least u l.contains l.closed h y) (l.least t k.contains k.closed h y)))

-- what can be derived is held by a subject, for one that stands, and its right is known
module _ (S : Scheme) (st : State) (s : Sound S st) where
  fits : (h y x : ℕ) (c : Bool) → Derivable S st h y x c → (standing st h ≡ true) × (standing st y ≡ true) × (subject S st h ≡ true) × (x < S.rights)
  fits h y x c (is_held h' y' x' c' e) = let b = s.orderly.only_standing h y x c e in (b.0, b.1, s.by_subjects h y x c e, s.known h y x c e)
  fits h y x c (by_copy t a b y' x' d c' f k e) = (k.taker, k.target, k.takes, k.known)
  fits h y x c (by_demand b y' x' d c' k e) = (k.demander, k.target, k.takes, k.known)

  module _ (m : Monotone S) (t : Table) (p : Closure S st t) where
    plain_too : (h y x : ℕ) → Derivable S st h y x true → has (t h y) x false ≡ true
    plain_too h y x (is_held h' y' x' c' e) = grown_contains S st t p.grown h y x false (s.orderly.nested h y x e)
    plain_too h y x (by_copy u a b y' x' true c' f k e) =
        p.closed.copies a h y x true false (still_may_copy S st u t m (λ i j z v q. (derives S st m t p i j z v).whenever (f i j z v q)) a h y x true k) e
    plain_too h y x (by_copy u a b y' x' false c' f k e) = none_has x true e
    plain_too h y x (by_demand b y' x' true c' k e) = p.closed.demanded h y x true false (still_may_demand S st st.tickets t h y x true k) e
    plain_too h y x (by_demand b y' x' false c' k e) = none_has x true e

    pub sound_closure : Sound S (holding st t)
    sound_closure =
        let told : (h y x : ℕ) (c : Bool) → has (t h y) x c ≡ true → Derivable S st h y x c = λ h y x c. (derives S st m t p h y x c).only in
        record {
          orderly = record {
            rising = s.orderly.rising;
            numbers = s.orderly.numbers;
            only_standing = λ h y x c e. let f = fits h y x c (told h y x c e) in (f.0, f.1);
            nested = λ h y x e. plain_too h y x (told h y x true e);
          };
          declared = s.declared;
          by_subjects = λ h y x c e. (fits h y x c (told h y x c e)).2;
          known = λ h y x c e. (fits h y x c (told h y x c e)).3;
        }
