-- What a drawing keeps: the old entities stand, the old tickets are held, and each choice taken has a child of its rule's kind and all
-- that its rule gives.
use Rattle.std.proofs.Common.{◌≡◌, ℕ, zero, suc, Bool, true, [], ◌∷◌, ◌++◌, Some, None, Option, sym, refl, ap, subst, inl, inr}
use Rattle.std.specs.List.{slice_get}
use Rattle.model.specs.declared.tickets.Entity.{Entity}
use Rattle.model.specs.Scheme.{Scheme, Rule}
use Rattle.model.specs.State.{State, kind_of, holds}
use Rattle.model.specs.Calls.{born, born_by}
use Rattle.model.specs.Laws.{Rising}
use Rattle.model.specs.Grants.{Gives}
use Rattle.model.specs.Spread.{Contains}
use Rattle.model.specs.Outlook.{Choice, Drawing, choices, child_of, take, next_choice, draw}
use Rattle.model.proofs.Entities.{Some≢None, same_inside, free, push_old, push_new, rising_push}
use Rattle.model.proofs.Grants.{creates_born}
use Rattle.model.proofs.Choices.{Possible, choice_possible, unused_is, child_push}

-- n is the child of choice c by rule r, with all that the rule gives
pub record Child (st : State) (c : Choice) (n : ℕ) (r : Rule) : Type 0 where
  pub is : kind_of st n ≡ Some r.child
  pub given : (h y x : ℕ) (f : Bool) → Gives r c.parent c.second n h y x f → holds st h y x f ≡ true

pub record Drawn (S : Scheme) (st : State) (d : Drawing) : Type 0 where
  pub rising : Rising 1 d.state.entities d.state.next
  pub stay : (e k : ℕ) → kind_of st e ≡ Some k → kind_of d.state e ≡ Some k
  pub more : Contains d.state.tickets st.tickets
  pub made : (c : Choice) (n : ℕ) (r : Rule) → child_of d.made c ≡ Some n → slice_get S.rules c.rule ≡ Some r → Child d.state c n r

-- a choice that is taken is possible, and was not taken before
pub next_is : (S : Scheme) (d : Drawing) (c : Choice) → Rising 1 d.state.entities d.state.next → next_choice S d ≡ Some c
    → Possible S.rules d.state.entities c × (child_of d.made c ≡ None)
next_is S d c r e =
    let u = unused_is d.made (choices S.rules 0 d.state.entities) c e in
    (choice_possible S.rules d.state.entities d.state.next r c u.0, u.1)

-- and leaves what its rule makes
pub born_is : (S : Scheme) (st : State) (c : Choice) (r : Rule) → slice_get S.rules c.rule ≡ Some r
    → born_by st (slice_get S.rules c.rule) c.parent c.second ≡ born st r c.parent c.second
born_is S st c r e = ap (λ (o : Option Rule). born_by st o c.parent c.second) e

-- one child more
module _ (S : Scheme) (st : State) (d : Drawing) (w : Drawn S st d) (c : Choice) (r : Rule) (is : slice_get S.rules c.rule ≡ Some r) where
  abbrev next : State
  next = born d.state r c.parent c.second

  abbrev child : Entity
  child = record { number = d.state.next; kind = r.child }

  still : Contains next.tickets d.state.tickets
  still h y x f e = ((creates_born d.state r c.parent c.second).tickets h y x f).whenever (inl e)

  old_child : (b : Choice) (n : ℕ) (q : Rule) → Child d.state b n q → Child next b n q
  old_child b n q k = record {
    is = push_old d.state.entities child n q.child k.is;
    given = λ h y x f g. still h y x f (k.given h y x f g);
  }

  new_child : Child next c d.state.next r
  new_child = record {
    is = push_new d.state.entities child (free d.state.entities d.state.next w.rising);
    given = λ h y x f g. ((creates_born d.state r c.parent c.second).tickets h y x f).whenever (inr g);
  }

  drawn_born : Drawn S st (record { state = next; made = d.made ++ record { choice = c; child = d.state.next } ∷ [] })
  drawn_born = record {
    rising = rising_push 1 d.state.entities d.state.next r.child w.rising;
    stay = λ e k p. push_old d.state.entities child e k (w.stay e k p);
    more = λ h y x f p. still h y x f (w.more h y x f p);
    made = λ b n q p i. elim (child_push d.made (record { choice = c; child = d.state.next }) b n p) [
      | inl o ↦ old_child b n q (w.made b n q o i)
      | inr o ↦
          let same : r ≡ q = same_inside (slice_get S.rules b.rule) r q (subst (λ (g : Choice). slice_get S.rules g.rule ≡ Some r) o.0 is) i in
          subst (λ (v : Rule). Child next b n v) same
          (subst (λ (m : ℕ). Child next b m r) o.1 (subst (λ (g : Choice). Child next g d.state.next r) o.0 new_child))
    ];
  }

pub drawn_take : (S : Scheme) (st : State) (d : Drawing) → Drawn S st d → (o : Option Choice) → next_choice S d ≡ o → Drawn S st (take S d o)
drawn_take S st d w None e = w
drawn_take S st d w (Some c) e =
    let p = (next_is S d c w.rising e).0 in
    subst (λ (z : State). Drawn S st (record { state = z; made = d.made ++ record { choice = c; child = d.state.next } ∷ [] }))
    (sym (born_is S d.state c p.by p.is)) (drawn_born S st d w c p.by p.is)

pub drawn : (S : Scheme) (st : State) → Rising 1 st.entities st.next → (n : ℕ) → Drawn S st (draw S st n)
drawn S st r zero = record {
  rising = r;
  stay = λ e k h. h;
  more = λ a b x c h. h;
  made = λ c n q p i. absurd (Some≢None None n p refl);
}
drawn S st r (suc n) = drawn_take S st (draw S st n) (drawn S st r n) (next_choice S (draw S st n)) refl
