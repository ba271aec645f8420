-- Where more is held, every link that held still holds, and every copy and demand that was authorised still is.
use Rattle.std.proofs.Common.{◌≡◌, ℕ, Bool, true, false, sym, ◌∙◌}
use lib.Bits.{bit_and}
use Rattle.std.proofs.lemmas.Bool.{and_parts, and_from}
use Rattle.model.specs.Tickets.{has, bit}
use Rattle.model.specs.Scheme.{Scheme, Among, SeesMore, Monotone}
use Rattle.model.specs.State.{State, Table, holding}
use Rattle.model.specs.Calls.{sight}
use Rattle.model.specs.Grants.{MayCopy, MayDemand}
use Rattle.model.specs.Spread.{Contains}
use Rattle.model.proofs.Bits.{bit-bit_and}

masked : (m n k : ℕ) → Among m n → Among (bit_and m k) (bit_and n k)
masked m n k p x e =
    let q = and_parts (bit x m) (bit x k) (sym (bit-bit_and x m k) ∙ e) in
    bit-bit_and x n k ∙ and_from (bit x n) (bit x k) (p x q.0) q.1

-- every ticket held in one state is held in another, for other entities: then links see more there
pub sees_more : (S : Scheme) (s z : State) (f : ℕ → ℕ)
    → ((h y x : ℕ) (c : Bool) → has (s.tickets h y) x c ≡ true → has (z.tickets (f h) (f y)) x c ≡ true)
    → (a b : ℕ) → SeesMore (sight S s a b) (sight S z (f a) (f b))
sees_more S s z f m a b = record { xx = among a a; xy = among a b; yx = among b a; yy = among b b }
  where
    among : (h y : ℕ) → Among (bit_and (s.tickets h y).plain S.control) (bit_and (z.tickets (f h) (f y)).plain S.control)
    among h y = masked (s.tickets h y).plain (z.tickets (f h) (f y)).plain S.control (λ x e. m h y x false e)

module _ (S : Scheme) (st : State) (t u : Table) where
  pub still_may_copy : Monotone S → Contains u t → (a b y x : ℕ) (c : Bool) → MayCopy S (holding st t) a b y x c → MayCopy S (holding st u) a b y x c
  still_may_copy m p a b y x c k = record {
    giver = k.giver;
    taker = k.taker;
    target = k.target;
    gives = k.gives;
    takes = k.takes;
    known = k.known;
    copyable = p a y x true k.copyable;
    link = k.link;
    declared = k.declared;
    on = m k.link (sight S (holding st t) a b) (sight S (holding st u) a b) (sees_more S (holding st t) (holding st u) (λ n. n) p a b) k.on;
    lets = k.lets;
  }

  -- no ticket bears on a demand
  pub still_may_demand : (b y x : ℕ) (c : Bool) → MayDemand S (holding st t) b y x c → MayDemand S (holding st u) b y x c
  still_may_demand b y x c k = record { demander = k.demander; target = k.target; takes = k.takes; known = k.known; lets = k.lets }
