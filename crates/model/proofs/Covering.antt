-- A complete drawing and its closure cover every list of calls: each call leaves what the table shows for the stand-ins.
use Rattle.std.proofs.Common.{◌≡◌, ℕ, ◌<◌, ◌≤◌, Bool, true, eqb, List, [], ◌∷◌, ◌++◌, is_some, Some, None, Option, unwrap_or, sym, refl, ap, ◌∙◌, subst, subst₂, inl, inr, append_assoc, append-nil, arith}
use mathlib.Core.Path.{subst₃}
use Rattle.std.specs.Option.{option_map}
use Rattle.std.specs.List.{slice_get}
use Rattle.std.proofs.lemmas.Bool.{eq-eqb, ne_eqb, cond-true, cond-false}
use Rattle.model.specs.Refusals.{Answer, granted, refused}
use Rattle.model.specs.Tickets.{has, ticket_of}
use Rattle.model.specs.Scheme.{Scheme, Rule, Part, WellFormed}
use Rattle.model.specs.State.{State, Room, Table, kind_of, standing, kind, subject, holds, holding}
use Rattle.model.specs.Calls.{Call, copy, demand, create, drop, retire, answer, effect, after, step, sight, without_right, rule_for, born, child_state}
use Rattle.model.specs.Runs.{run, Birth, birth_of, births}
use Rattle.model.specs.Laws.{Sound}
use Rattle.model.specs.Grants.{MayCopy, MayDemand, SecondFits, MayCreate, Gives, first_c, first_s, second_c, second_s, first_g, second_g, own_h}
use Rattle.model.specs.Spread.{Closed, Contains, Closure}
use Rattle.model.specs.Outlook.{stand_in, Choice, Drawing, choices, child_of, draw, Complete}
use Rattle.model.specs.Forecast.{Covers}
use Rattle.model.proofs.Entities.{some_inside, stands_below, push_cases, removed_kind, rising_stands}
use Rattle.model.proofs.Tables.{Fact, Each, each_joins, fine_put, fine_gain, less_within, without_within, ticket_right}
use Rattle.model.proofs.Soundness.{sound_step}
use Rattle.model.proofs.Links.{sees_more}
use Rattle.model.proofs.Closures.{grown_contains}
use Rattle.model.proofs.Grants.{copy_exact, demand_exact, may_create, rule_is, child_is, create_next, creates_born, second_is}
use Rattle.model.proofs.Choices.{is_choice, all_used}
use Rattle.model.proofs.Draws.{Child, Drawn, drawn}

-- what a rule gives, it gives to stand-ins likewise
gives_under : (f : ℕ → ℕ) (r : Rule) (a : ℕ) (b : Option ℕ) (n h y x : ℕ) (c : Bool) → Gives r a b n h y x c → Gives r (f a) (option_map f b) (f n) (f h) (f y) x c
gives_under f r a b n h y x c (first_c u v k) = first_c u v k
gives_under f r a b n h y x c (first_s u v k) = first_s u v k
gives_under f r a b n h y x c (second_c p e u v i j k) = second_c p (f e) u v i (ap (option_map f) j) k
gives_under f r a b n h y x c (second_s p e u v i j k) = second_s p (f e) u v i (ap (option_map f) j) k
gives_under f r a b n h y x c (first_g u v k) = first_g u v k
gives_under f r a b n h y x c (second_g p e u v i j k) = second_g p (f e) u v i (ap (option_map f) j) k
gives_under f r a b n h y x c (own_h u v k) = own_h u v k

-- what a complete drawing and a closure of it have
record Settled (S : Scheme) (d : Drawing) (t : Table) : Type 0 where
  pub closed : Closed S (holding d.state t)
  pub contains : Contains t d.state.tickets
  pub complete : Complete S d
  pub made : (c : Choice) (n : ℕ) (r : Rule) → child_of d.made c ≡ Some n → slice_get S.rules c.rule ≡ Some r → Child d.state c n r

-- a state is covered, with stand-ins f, since the numbers below low were given
record Covered (low : ℕ) (d : Drawing) (t : Table) (s : State) (f : ℕ → ℕ) : Type 0 where
  pub kinds : (e k : ℕ) → kind_of s e ≡ Some k → kind_of d.state (f e) ≡ Some k
  pub tickets : (h y x : ℕ) (c : Bool) → holds s h y x c ≡ true → has (t (f h) (f y)) x c ≡ true
  pub past : low ≤ s.next
  pub itself : (e : ℕ) → e < low → f e ≡ e

module _ (S : Scheme) (w : WellFormed S) (R : Room) (low : ℕ) (d : Drawing) (t : Table) (set : Settled S d t) where
  module _ (s : State) (sound : Sound S s) (f : ℕ → ℕ) (cov : Covered low d t s f) where
    -- the table has the ticket for the stand-ins
    abbrev Shown : Fact
    Shown h y x c = has (t (f h) (f y)) x c ≡ true

    stands : (e : ℕ) → standing s e ≡ true → standing d.state (f e) ≡ true
    stands e h = let q = some_inside (kind_of s e) h in ap is_some (cov.kinds e q.0 q.1)

    same_kind : (e : ℕ) → standing s e ≡ true → kind s e ≡ kind d.state (f e)
    same_kind e h =
        let q = some_inside (kind_of s e) h in
        ap (λ (o : Option ℕ). unwrap_or o 0) q.1 ∙ sym (ap (λ (o : Option ℕ). unwrap_or o 0) (cov.kinds e q.0 q.1))

    subjects : (e : ℕ) → standing s e ≡ true → subject S s e ≡ true → subject S d.state (f e) ≡ true
    subjects e h k = sym (ap S.subject (same_kind e h)) ∙ k

    below : (e : ℕ) → standing s e ≡ true → e < s.next
    below e h = stands_below s.entities s.next sound.orderly.rising e h

    -- one ticket more, which the table shows
    gains : (b y x : ℕ) (c : Bool) → ((e : Bool) → has (ticket_of x c) x e ≡ true → has (t (f b) (f y)) x e ≡ true) → Covered low d t (effect S s (demand b y x c)) f
    gains b y x c shown = record {
      kinds = cov.kinds;
      tickets = fine_gain (Each Shown) (each_joins Shown) s.tickets b y (ticket_of x c) cov.tickets (λ z e h.
          let i : z ≡ x = ticket_right x c z e h in
          subst (λ n. has (t (f b) (f y)) n e ≡ true) (sym i) (shown e (subst (λ n. has (ticket_of x c) n e ≡ true) i h)));
      past = cov.past;
      itself = cov.itself;
    }

    by_copy : (a b y x : ℕ) (c : Bool) → MayCopy S s a b y x c → Covered low d t (effect S s (copy a b y x c)) f
    by_copy a b y x c k =
        let may : MayCopy S (holding d.state t) (f a) (f b) (f y) x c = record {
          giver = stands a k.giver;
          taker = stands b k.taker;
          target = stands y k.target;
          gives = subjects a k.giver k.gives;
          takes = subjects b k.taker k.takes;
          known = k.known;
          copyable = cov.tickets a y x true k.copyable;
          link = k.link;
          declared = k.declared;
          on = w.monotone k.link (sight S s a b) (sight S (holding d.state t) (f a) (f b)) (sees_more S s (holding d.state t) f cov.tickets a b) k.on;
          lets = subst₃ (λ (p q r : ℕ). has (S.filter k.link p q r) x c ≡ true) (same_kind a k.giver) (same_kind b k.taker) (same_kind y k.target) k.lets;
        } in
        gains b y x c (λ e h. set.closed.copies (f a) (f b) (f y) x c e may h)

    by_demand : (b y x : ℕ) (c : Bool) → MayDemand S s b y x c → Covered low d t (effect S s (demand b y x c)) f
    by_demand b y x c k =
        let may : MayDemand S (holding d.state t) (f b) (f y) x c = record {
          demander = stands b k.demander;
          target = stands y k.target;
          takes = subjects b k.demander k.takes;
          known = k.known;
          lets = subst₂ (λ (p q : ℕ). has (S.demand p q) x c ≡ true) (same_kind b k.demander) (same_kind y k.target) k.lets;
        } in
        gains b y x c (λ e h. set.closed.demanded (f b) (f y) x c e may h)

    by_drop : (a y x : ℕ) → Covered low d t (effect S s (drop a y x)) f
    by_drop a y x = record {
      kinds = cov.kinds;
      tickets = fine_put (Each Shown) s.tickets a y (without_right (s.tickets a y) x) cov.tickets
          (λ z e h. cov.tickets a y z e (less_within (s.tickets a y) x z e h));
      past = cov.past;
      itself = cov.itself;
    }

    by_retire : (y : ℕ) → Covered low d t (effect S s (retire y)) f
    by_retire y = record {
      kinds = λ e k h. cov.kinds e k (removed_kind s.entities y e k h);
      tickets = λ h z x c k. cov.tickets h z x c (without_within s.tickets y h z x c k);
      past = cov.past;
      itself = cov.itself;
    }

    second_under : (p : Option Part) (b : Option ℕ) → SecondFits s.entities p b → SecondFits d.state.entities p (option_map f b)
    second_under (Some p) (Some b) k = cov.kinds b p.kind k
    second_under (Some p) None k = k
    second_under None (Some b) k = k
    second_under None None k = k

    -- an authorised creation: the drawing made a child by the same rule from the parents' stand-ins
    made_by : (a : ℕ) (b : Option ℕ) (k : ℕ) (m : MayCreate S s a b k)
        → (n : ℕ) × (child_of d.made (record { rule = m.number; parent = f a; second = option_map f b }) ≡ Some n)
    made_by a b k m =
        let c : Choice = record { rule = m.number; parent = f a; second = option_map f b } in
        all_used d.made (choices S.rules 0 d.state.entities) c set.complete
        (is_choice S.rules d.state.entities c (record {
          by = m.rule;
          is = m.is;
          parent = cov.kinds a m.rule.first.kind m.parent;
          other = second_under m.rule.second b m.other;
        }))

    -- the same stand-ins, and one for the child
    module _ (g : ℕ → ℕ) (same : (e : ℕ) → e < s.next → g e ≡ f e) (r : Rule) (i a : ℕ) (b : Option ℕ)
        (child : Child d.state (record { rule = i; parent = f a; second = option_map f b }) (g s.next) r)
        (parent : standing s a ≡ true) (other : (e : ℕ) → b ≡ Some e → standing s e ≡ true)
      where
        same_mapped : (o : Option ℕ) → ((e : ℕ) → o ≡ Some e → standing s e ≡ true) → option_map g o ≡ option_map f o
        same_mapped (Some e) h = ap Some (same e (below e (h e refl)))
        same_mapped None h = refl

        old_ticket : (h y x : ℕ) (c : Bool) → holds s h y x c ≡ true → has (t (g h) (g y)) x c ≡ true
        old_ticket h y x c e =
            let b = sound.orderly.only_standing h y x c e in
            subst₂ (λ m n. has (t m n) x c ≡ true) (sym (same h (below h b.0))) (sym (same y (below y b.1))) (cov.tickets h y x c e)

        new_ticket : (h y x : ℕ) (c : Bool) → Gives r a b s.next h y x c → has (t (g h) (g y)) x c ≡ true
        new_ticket h y x c e =
            set.contains (g h) (g y) x c (child.given (g h) (g y) x c
            (subst₂ (λ (p : ℕ) (o : Option ℕ). Gives r p o (g s.next) (g h) (g y) x c) (same a (below a parent)) (same_mapped b other)
            (gives_under g r a b s.next h y x c e)))

        by_birth : Covered low d t (born s r a b) g
        by_birth = record {
          kinds = λ e k p. elim (push_cases s.entities (record { number = s.next; kind = r.child }) e k p) [
            | inl q ↦ subst (λ z. kind_of d.state z ≡ Some k) (sym (same e (rising_stands 1 s.entities s.next sound.orderly.rising e k q).1)) (cov.kinds e k q)
            | inr q ↦ subst (λ z. kind_of d.state (g z) ≡ Some k) q.0 (child.is ∙ ap Some q.1)
          ];
          tickets = λ h y x c e. elim (((creates_born s r a b).tickets h y x c).only e) [ inl q ↦ old_ticket h y x c q | inr q ↦ new_ticket h y x c q ];
          past = omega (arith, cov.past);
          itself = λ e l. same e (omega (arith, cov.past)) ∙ cov.itself e l;
        }

  abbrev in_for : List Birth → ℕ → ℕ
  in_for bs = stand_in d.made bs

  by_create : (s : State) → Sound S s → (bs : List Birth) → Covered low d t s (in_for bs) → (a : ℕ) (b : Option ℕ) (k n : ℕ) → answer S R s (create a b k) ≡ granted n
      → Covered low d t (child_state S s a b k) (in_for (birth_of S s (create a b k) (granted n) ++ bs))
  by_create s sound bs cov a b k n e =
      let f : ℕ → ℕ = in_for bs in
      let m : MayCreate S s a b k = may_create S R s a b k (n, e) in
      let birth : Birth = record { child = n; rule = unwrap_or (rule_for S s a b k) 0; parent = a; second = b } in
      let g : ℕ → ℕ = in_for (birth ∷ bs) in
      let is : n ≡ s.next = create_next S R s a b k n e in
      let made = made_by s sound f cov a b k m in
      let at_child : g s.next ≡ made.0 =
      cond-true (eqb n s.next) _ _ (eq-eqb n s.next is)
      ∙ ap (λ (o : Option ℕ). unwrap_or (child_of d.made (record { rule = unwrap_or o 0; parent = f a; second = option_map f b })) 0) (rule_is S R s a b k w m)
      ∙ ap (λ (o : Option ℕ). unwrap_or o 0) made.1 in
      subst (λ (z : State). Covered low d t z g) (sym (child_is S R s a b k w m))
      (by_birth s sound f cov g (λ z l. cond-false (eqb n z) _ _ (ne_eqb n z (λ q. omega arith))) m.rule m.number a b
      (subst (λ (z : ℕ). Child d.state (record { rule = m.number; parent = f a; second = option_map f b }) z m.rule) (sym at_child) (set.made _ made.0 m.rule made.1 m.is))
      (ap is_some m.parent) (λ q i. ap is_some (second_is S s m.rule.second b m.other q i).1))

  by_call : (s : State) → Sound S s → (bs : List Birth) → Covered low d t s (in_for bs) → (k : Call) (r : Answer ℕ) → answer S R s k ≡ r
      → Covered low d t (after r (effect S s k) s) (in_for (birth_of S s k r ++ bs))
  by_call s sound bs cov (copy a b y x c) (granted n) e = by_copy s sound (in_for bs) cov a b y x c ((copy_exact S R s a b y x c).only (n, e)).0
  by_call s sound bs cov (copy a b y x c) (refused n) e = cov
  by_call s sound bs cov (demand b y x c) (granted n) e = by_demand s sound (in_for bs) cov b y x c ((demand_exact S R s b y x c).only (n, e)).0
  by_call s sound bs cov (demand b y x c) (refused n) e = cov
  by_call s sound bs cov (create a b k) (granted n) e = by_create s sound bs cov a b k n e
  by_call s sound bs cov (create a b k) (refused n) e = cov
  by_call s sound bs cov (drop a y x) (granted n) e = by_drop s sound (in_for bs) cov a y x
  by_call s sound bs cov (drop a y x) (refused n) e = cov
  by_call s sound bs cov (retire y) (granted n) e = by_retire s sound (in_for bs) cov y
  by_call s sound bs cov (retire y) (refused n) e = cov

  by_calls : (ks : List Call) (s : State) → Sound S s → (bs : List Birth) → Covered low d t s (in_for bs) → Covered low d t (run S R s ks) (in_for (births S R s ks ++ bs))
  by_calls [] s sound bs cov = cov
  by_calls (k ∷ ks) s sound bs cov =
      let z : State = step S R s k in
      let now : List Birth = birth_of S s k (answer S R s k) in
      subst (λ (l : List Birth). Covered low d t (run S R z ks) (in_for l)) (sym (append_assoc (births S R z ks) now bs))
      (by_calls ks z (sound_step S w R s sound k) (now ++ bs) (by_call s sound bs cov k (answer S R s k) refl))

module _ (S : Scheme) (w : WellFormed S) (st : State) (sound : Sound S st) (n : ℕ) (t : Table) (complete : Complete S (draw S st n)) (spread : Closure S (draw S st n).state t) where
  abbrev d : Drawing
  d = draw S st n

  so_far : Drawn S st d
  so_far = drawn S st sound.orderly.rising n

  settled : Settled S d t
  settled = record { closed = spread.closed; contains = grown_contains S d.state t spread.grown; complete = complete; made = so_far.made }

  at_first : Covered st.next d t st (stand_in d.made [])
  at_first = record {
    kinds = so_far.stay;
    tickets = λ h y x c e. settled.contains h y x c (so_far.more h y x c e);
    past = omega arith;
    itself = λ e l. refl;
  }

  throughout : (R : Room) (ks : List Call) → Covered st.next d t (run S R st ks) (stand_in d.made (births S R st ks))
  throughout R ks =
      subst (λ (l : List Birth). Covered st.next d t (run S R st ks) (stand_in d.made l)) (append-nil (births S R st ks))
      (by_calls S w R st.next d t settled ks st sound [] at_first)

  pub covers : Covers S st d t
  covers = record {
    itself = λ R ks e h. (throughout R ks).itself e (stands_below st.entities st.next sound.orderly.rising e h);
    kinds = λ R ks. (throughout R ks).kinds;
    tickets = λ R ks. (throughout R ks).tickets;
  }
