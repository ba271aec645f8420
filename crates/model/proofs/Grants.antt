-- A copy, a demand and a creation are granted exactly when the model authorises them and there is room; which link a copy answers; and
-- what each adds.
use Rattle.std.proofs.Common.{◌≡◌, ℕ, ◌≤◌, Bool, true, false, ◌&&◌, eqb, ltb, leb, ◌⊎◌, length, is_some, Some, None, Option, unwrap_or, sym, refl, ap, ◌∙◌, subst, subst₂, inl, inr, arith}
use Rattle.std.specs.Option.{option_map}
use Rattle.std.proofs.lemmas.Bool.{and_parts, and_from, eqb-true, ltb-true, leb-true, lt-ltb, le-leb, both_ways}
use Rattle.model.specs.Refusals.{Answer, granted, refused, bare}
use Rattle.model.specs.Tickets.{Tickets, has, ticket_of, Within}
use Rattle.model.specs.Scheme.{Scheme, Rule, Part, WellFormed, same_second, rule_number}
use Rattle.model.specs.State.{State, Room, kind_of, standing, kind, subject, holds, gain, holding, stores, filled, last_number}
use Rattle.model.specs.Calls.{Call, copy, demand, create, after, answer, checks, reply, effect, step, linked, passes, gained, first, upto, each, rule_for, rule_found, born, born_by, child_state}
use Rattle.model.specs.Grants.{MayCopy, MayDemand, SecondFits, MayCreate, HasRoom, Exactly, Granted, CopyExact, DemandExact, CreateExact, Copied, Demanded, Created, LowestLink, Adds, Creates, Gives, first_c, first_s, second_c, second_s, first_g, second_g, own_h}
use Rattle.model.proofs.Entities.{Some≢None, same_inside, some_inside}
use Rattle.model.proofs.Checks.{AllHold, all_granted, decided, each_first, each_second}
use Rattle.model.proofs.Lowest.{found, lowest}
use Rattle.model.proofs.RuleNumbers.{found_rule}
use Rattle.model.proofs.Tables.{Place, Fact, Each, Given, GivenSecond, GivenPart, after_birth, fine_birth, each_joins, gain_cases, gain_keeps, gain_at, birth_keeps, birth_gives}

-- a granted call passed its checks, and answers its reply
passed_checks : (S : Scheme) (R : Room) (st : State) (k : Call) (n : ℕ) → answer S R st k ≡ granted n → AllHold (checks S R st k) × (reply S st k ≡ n)
passed_checks S R st k n e = decided (checks S R st k) (reply S st k) n e

-- what is said of an answer is said of it without its value
pub bare_exact : {A p : Type 0} (r : Answer A) → Exactly (Granted r) p → Exactly (Granted (bare r)) p
bare_exact (granted v) e = record { only = λ g. e.only (v, refl); whenever = λ q. (tt, refl) }
bare_exact (refused n) e = record { only = λ g. absurd (clash g.0 g.1); whenever = λ q. let g = e.whenever q in absurd (clash g.0 g.1) }
  where
    clash : {B : Type 0} (v : B) → ◌≡◌ {A = Answer B} (refused n) (granted v) → ⊥
    clash v h = let z : ◌≡◌ {A = ℕ} 0 1 = cc in omega arith

-- copies
module _ (S : Scheme) (R : Room) (st : State) (a b y x : ℕ) (c : Bool) where
  abbrev lets : ℕ → Bool
  lets i = linked S st a b i && passes S st a b y x c i

  pub copy_lowest : (i : ℕ) → answer S R st (copy a b y x c) ≡ granted i → LowestLink S st a b y x c i
  copy_lowest i e =
      let ok = passed_checks S R st (copy a b y x c) i e in
      let f = some_inside (first lets (upto S.links)) ok.0.1.1.1.1.1.0 in
      let same : f.0 ≡ i = sym (ap (λ (o : Option ℕ). unwrap_or o 0) f.1) ∙ ok.1 in
      let l = lowest lets S.links i (f.1 ∙ ap Some same) in
      let on = and_parts (linked S st a b i) (passes S st a b y x c i) l.1 in
      record { declared = l.0; on = on.0; lets = on.1; lower = l.2 }

  copy_only : Granted (answer S R st (copy a b y x c)) → MayCopy S st a b y x c × (stores R st b y (gained st b y x c) ≡ true)
  copy_only g =
      let ok = (passed_checks S R st (copy a b y x c) g.0 g.1).0 in
      let low = copy_lowest g.0 g.1 in
      let aby = and_parts (standing st a && standing st b) (standing st y) ok.0 in
      let ab = and_parts (standing st a) (standing st b) aby.0 in
      let subjects = and_parts (subject S st a) (subject S st b) ok.1.0 in (
        record {
          giver = ab.0;
          taker = ab.1;
          target = aby.1;
          gives = subjects.0;
          takes = subjects.1;
          known = ltb-true x S.rights ok.1.1.0;
          copyable = ok.1.1.1.0;
          link = g.0;
          declared = low.declared;
          on = low.on;
          lets = low.lets;
        },
        ok.1.1.1.1.1.1.0,
      )

  copy_granted : MayCopy S st a b y x c → stores R st b y (gained st b y x c) ≡ true → answer S R st (copy a b y x c) ≡ granted (reply S st (copy a b y x c))
  copy_granted m room =
      let stand = and_from (standing st a && standing st b) (standing st y) (and_from (standing st a) (standing st b) m.giver m.taker) m.target in
      let subjects = and_from (subject S st a) (subject S st b) m.gives m.takes in
      let held = found (linked S st a b) S.links m.link m.declared m.on in
      let passing = found lets S.links m.link m.declared (and_from (linked S st a b m.link) (passes S st a b y x c m.link) m.on m.lets) in
      all_granted (checks S R st (copy a b y x c)) (reply S st (copy a b y x c))
      (stand, (subjects, (lt-ltb x S.rights m.known, (m.copyable, (held, (passing, (room, tt)))))))

  pub copy_exact : CopyExact S R st a b y x c (answer S R st (copy a b y x c))
  copy_exact = record { only = copy_only; whenever = λ m. (reply S st (copy a b y x c), copy_granted m.0 m.1) }

-- demands
module _ (S : Scheme) (R : Room) (st : State) (b y x : ℕ) (c : Bool) where
  demand_only : Granted (answer S R st (demand b y x c)) → MayDemand S st b y x c × (stores R st b y (gained st b y x c) ≡ true)
  demand_only g =
      let ok = (passed_checks S R st (demand b y x c) g.0 g.1).0 in
      let by = and_parts (standing st b) (standing st y) ok.0 in (
        record { demander = by.0; target = by.1; takes = ok.1.0; known = ltb-true x S.rights ok.1.1.0; lets = ok.1.1.1.0 },
        ok.1.1.1.1.0,
      )

  demand_granted : MayDemand S st b y x c → stores R st b y (gained st b y x c) ≡ true → answer S R st (demand b y x c) ≡ granted 0
  demand_granted m room =
      all_granted (checks S R st (demand b y x c)) 0
      (and_from (standing st b) (standing st y) m.demander m.target, (m.takes, (lt-ltb x S.rights m.known, (m.lets, (room, tt)))))

  pub demand_exact : DemandExact S R st b y x c (answer S R st (demand b y x c))
  demand_exact = record { only = demand_only; whenever = λ m. (0, demand_granted m.0 m.1) }

-- the parents that a rule asks for
module _ (S : Scheme) (st : State) where
  second_kind : (p : Option Part) (b : Option ℕ) → SecondFits st.entities p b → option_map (kind st) b ≡ option_map (λ q. q.kind) p
  second_kind (Some p) (Some b) f = ap (λ (o : Option ℕ). Some (unwrap_or o 0)) f
  second_kind (Some p) None f = absurd f
  second_kind None (Some b) f = absurd f
  second_kind None None f = refl

  both_stand : (a : ℕ) (p : Option Part) (b : Option ℕ) → standing st a ≡ true → SecondFits st.entities p b → each (standing st) a b ≡ true
  both_stand a (Some p) (Some b) h f = and_from (standing st a) (standing st b) h (ap is_some f)
  both_stand a (Some p) None h f = absurd f
  both_stand a None (Some b) h f = absurd f
  both_stand a None None h f = h

  both_subjects : (a : ℕ) (p : Option Part) (b : Option ℕ) → subject S st a ≡ true → ((q : Part) → p ≡ Some q → S.subject q.kind ≡ true)
      → SecondFits st.entities p b → each (subject S st) a b ≡ true
  both_subjects a (Some p) (Some b) h s f = and_from (subject S st a) (subject S st b) h (ap (λ (o : Option ℕ). S.subject (unwrap_or o 0)) f ∙ s p refl)
  both_subjects a (Some p) None h s f = absurd f
  both_subjects a None (Some b) h s f = absurd f
  both_subjects a None None h s f = h

  kind_is : (e k : ℕ) → standing st e ≡ true → k ≡ kind st e → kind_of st e ≡ Some k
  kind_is e k h i = let j = some_inside (kind_of st e) h in j.1 ∙ ap Some (sym (i ∙ ap (λ (o : Option ℕ). unwrap_or o 0) j.1))

  second_there : (p : Option Part) (b : Option ℕ) → ((e : ℕ) → b ≡ Some e → standing st e ≡ true) → same_second p (option_map (kind st) b) ≡ true
      → SecondFits st.entities p b
  second_there (Some p) (Some b) h t = kind_is b p.kind (h b refl) (eqb-true p.kind (kind st b) t)
  second_there (Some p) None h t = both_ways false refl t
  second_there None (Some b) h t = both_ways false refl t
  second_there None None h t = tt

  -- a second parent that a rule asks for is of some kind
  pub second_is : (p : Option Part) (o : Option ℕ) → SecondFits st.entities p o → (b : ℕ) → o ≡ Some b → (k : ℕ) × (kind_of st b ≡ Some k)
  second_is (Some p) (Some e) f b i = (p.kind, subst (λ (n : ℕ). kind_of st n ≡ Some p.kind) (same_inside (Some e) e b refl i) f)
  second_is (Some p) None f b i = absurd f
  second_is None (Some e) f b i = absurd f
  second_is None None f b i = absurd (Some≢None None b i refl)

-- creations
module _ (S : Scheme) (R : Room) (st : State) (a : ℕ) (b : Option ℕ) (k : ℕ) where
  pub may_create : Granted (answer S R st (create a b k)) → MayCreate S st a b k
  may_create g =
      let ok = (passed_checks S R st (create a b k) g.0 g.1).0 in
      let i = some_inside (rule_for S st a b k) ok.1.1.1.0 in
      let r = found_rule (kind st a) (option_map (kind st) b) k S.rules i.0 i.1 in
      let q = r.0 in
      let fit = and_parts (eqb q.first.kind (kind st a) && same_second q.second (option_map (kind st) b)) (eqb q.child k) r.2 in
      let parents = and_parts (eqb q.first.kind (kind st a)) (same_second q.second (option_map (kind st) b)) fit.0 in
      record {
        number = i.0;
        rule = q;
        is = r.1;
        parent = kind_is S st a q.first.kind (each_first (standing st) a b ok.0) (eqb-true q.first.kind (kind st a) parents.0);
        other = second_there S st q.second b (each_second (standing st) a b ok.0) parents.1;
        makes = eqb-true q.child k fit.1;
      }

  pub create_next : (n : ℕ) → answer S R st (create a b k) ≡ granted n → n ≡ st.next
  create_next n e = sym (passed_checks S R st (create a b k) n e).1

  module _ (w : WellFormed S) (m : MayCreate S st a b k) where
    abbrev r : Rule
    r = m.rule

    pub rule_is : rule_for S st a b k ≡ Some m.number
    rule_is =
        ap (λ (o : Option ℕ). rule_number S.rules 0 (unwrap_or o 0) (option_map (kind st) b) k) m.parent
        ∙ ap (λ (o : Option ℕ). rule_number S.rules 0 r.first.kind o k) (second_kind S st r.second b m.other)
        ∙ ap (λ (j : ℕ). rule_number S.rules 0 r.first.kind (option_map (λ p. p.kind) r.second) j) (sym m.makes)
        ∙ w.distinct m.number r m.is

    rule_found_is : rule_found S (rule_for S st a b k) ≡ Some r
    rule_found_is = ap (rule_found S) rule_is ∙ m.is

    pub child_is : child_state S st a b k ≡ born st r a b
    child_is = ap (λ (o : Option Rule). born_by st o a b) rule_found_is

    room_for : Granted (answer S R st (create a b k)) → HasRoom R st r a b
    room_for g =
        let ok = (passed_checks S R st (create a b k) g.0 g.1).0 in
        record {
          rows = ltb-true (length st.entities) R.rows ok.1.1.1.1.0;
          numbers = leb-true st.next last_number ok.1.1.1.1.1.0;
          pairs = subst (λ (z : State). filled z ≤ R.pairs) child_is (leb-true (filled (child_state S st a b k)) R.pairs ok.1.1.1.1.1.1.0);
        }

    create_granted : HasRoom R st r a b → answer S R st (create a b k) ≡ granted st.next
    create_granted h =
        let stand = both_stand S st a r.second b (ap is_some m.parent) m.other in
        let parent = ap (λ (o : Option ℕ). S.subject (unwrap_or o 0)) m.parent ∙ (w.firsts m.number r m.is).subject in
        let subjects = both_subjects S st a r.second b parent (λ p e. (w.seconds m.number r p m.is e).subject) m.other in
        let declared = subst (λ (j : ℕ). ltb j S.kinds ≡ true) m.makes (lt-ltb r.child S.kinds (w.children m.number r m.is).declared) in
        let rows = lt-ltb (length st.entities) R.rows h.rows in
        let numbers = le-leb st.next last_number h.numbers in
        let pairs = subst (λ (z : State). leb (filled z) R.pairs ≡ true) (sym child_is) (le-leb (filled (born st r a b)) R.pairs h.pairs) in
        all_granted (checks S R st (create a b k)) st.next (stand, (subjects, (declared, (ap is_some rule_is, (rows, (numbers, (pairs, tt)))))))

  pub create_exact : WellFormed S → CreateExact S R st a b k (answer S R st (create a b k))
  create_exact w = record {
    only = λ g. let m = may_create g in (m, room_for w m g);
    whenever = λ m. (st.next, create_granted w m.0 m.1);
  }

-- what a grant adds
adds_gain : (st : State) (h y : ℕ) (s : Tickets) → Adds st h y s (holding st (gain st.tickets h y s))
adds_gain st h y s = record {
  next = refl;
  entities = refl;
  tickets = λ a e x c. record {
    only = gain_cases st.tickets h y s a e x c;
    whenever = λ q. elim q [
      | inl k ↦ gain_keeps st.tickets h y s a e x c k
      | inr k ↦ subst₂ (λ (i j : ℕ). has (gain st.tickets h y s i j) x c ≡ true) (sym k.0) (sym k.1) (gain_at st.tickets h y s x c k.2)
    ];
  };
}

pub copy_adds : (S : Scheme) (st : State) (a b y x : ℕ) (c : Bool) → Adds st b y (ticket_of x c) (effect S st (copy a b y x c))
copy_adds S st a b y x c = adds_gain st b y (ticket_of x c)

pub demand_adds : (S : Scheme) (st : State) (b y x : ℕ) (c : Bool) → Adds st b y (ticket_of x c) (effect S st (demand b y x c))
demand_adds S st b y x c = adds_gain st b y (ticket_of x c)

module _ (st : State) (r : Rule) (a : ℕ) (b : Option ℕ) where
  abbrev n : ℕ
  n = st.next

  abbrev t' : ℕ → ℕ → Tickets
  t' = after_birth st.tickets r a b n

  -- a ticket was held before, or is given
  abbrev BeforeOrGiven : Fact
  BeforeOrGiven h y x c = (holds st h y x c ≡ true) ⊎ Gives r a b n h y x c

  abbrev From : Place
  From = Each BeforeOrGiven

  from_second : (p : Option Part) → r.second ≡ p → (o : Option ℕ) → b ≡ o → GivenSecond From p o n
  from_second (Some p) i (Some e) j = record {
    for_child = λ x c k. inr (second_c p e x c i j k);
    for_self = λ x c k. inr (second_s p e x c i j k);
    to_child = λ x c k. inr (second_g p e x c i j k);
  }
  from_second (Some p) i None j = tt
  from_second None i (Some e) j = tt
  from_second None i None j = tt

  born_from : (h y : ℕ) → From h y (t' h y)
  born_from = fine_birth From (each_joins BeforeOrGiven) st.tickets r a b n (λ h y x c k. inl k) (record {
    first = record {
      for_child = λ x c k. inr (first_c x c k);
      for_self = λ x c k. inr (first_s x c k);
      to_child = λ x c k. inr (first_g x c k);
    };
    second = from_second r.second refl b refl;
    own = λ x c k. inr (own_h x c k);
  })

  abbrev There : Place
  There h y s = Within s (t' h y)

  there : Given There r a b n
  there = birth_gives n st.tickets r a b

  there_second : (p : Part) (e : ℕ) → r.second ≡ Some p → b ≡ Some e → GivenPart There p e n
  there_second p e i j = subst₂ (λ (q : Option Part) (o : Option ℕ). GivenSecond There q o n) i j there.second

  given_there : (h y x : ℕ) (c : Bool) → Gives r a b n h y x c → has (t' h y) x c ≡ true
  given_there h y x c (first_c u f k) = there.first.for_child u f k
  given_there h y x c (first_s u f k) = there.first.for_self u f k
  given_there h y x c (second_c p e u f i j k) = (there_second p e i j).for_child u f k
  given_there h y x c (second_s p e u f i j k) = (there_second p e i j).for_self u f k
  given_there h y x c (first_g u f k) = there.first.to_child u f k
  given_there h y x c (second_g p e u f i j k) = (there_second p e i j).to_child u f k
  given_there h y x c (own_h u f k) = there.own u f k

  pub creates_born : Creates st r a b (born st r a b)
  creates_born = record {
    next = refl;
    entities = refl;
    tickets = λ h y x c. record {
      only = born_from h y x c;
      whenever = λ q. elim q [ inl k ↦ birth_keeps n st.tickets r a b h y x c k | inr k ↦ given_there h y x c k ];
    };
  }

  pub create_adds : (S : Scheme) (k : ℕ) → rule_found S (rule_for S st a b k) ≡ Some r → Creates st r a b (effect S st (create a b k))
  create_adds S k e = subst (λ (o : Option Rule). Creates st r a b (born_by st o a b)) (sym e) creates_born

-- the same of the state after a granted call
module _ (S : Scheme) (R : Room) (st : State) where
  pub step_granted : (k : Call) (n : ℕ) → answer S R st k ≡ granted n → effect S st k ≡ step S R st k
  step_granted k n e = ap (λ (r : Answer ℕ). after r (effect S st k) st) (sym e)

  pub copy_step : (a b y x : ℕ) (c : Bool) → Granted (answer S R st (copy a b y x c)) → Adds st b y (ticket_of x c) (step S R st (copy a b y x c))
  copy_step a b y x c g = subst (Adds st b y (ticket_of x c)) (step_granted (copy a b y x c) g.0 g.1) (copy_adds S st a b y x c)

  pub demand_step : (b y x : ℕ) (c : Bool) → Granted (answer S R st (demand b y x c)) → Adds st b y (ticket_of x c) (step S R st (demand b y x c))
  demand_step b y x c g = subst (Adds st b y (ticket_of x c)) (step_granted (demand b y x c) g.0 g.1) (demand_adds S st b y x c)

  pub create_step : WellFormed S → (a : ℕ) (b : Option ℕ) (k n : ℕ) (m : MayCreate S st a b k) → answer S R st (create a b k) ≡ granted n
      → (n ≡ st.next) × Creates st m.rule a b (step S R st (create a b k))
  create_step w a b k n m e = (
    create_next S R st a b k n e,
    subst (Creates st m.rule a b) (step_granted (create a b k) n e) (create_adds st m.rule a b S k (rule_found_is S R st a b k w m)),
  )

-- the same of an answer and a state that are the call's
pub copied : (S : Scheme) (R : Room) (st : State) (a b y x : ℕ) (c : Bool) (r : Answer ℕ) (st' : State) → r ≡ answer S R st (copy a b y x c)
    → st' ≡ step S R st (copy a b y x c) → Copied S R st a b y x c r st'
copied S R st a b y x c r st' e is = record {
  exact = subst (λ (q : Answer ℕ). CopyExact S R st a b y x c q) (sym e) (copy_exact S R st a b y x c);
  lowest = λ i g. copy_lowest S R st a b y x c i (sym e ∙ g);
  adds = λ g. subst (Adds st b y (ticket_of x c)) (sym is) (copy_step S R st a b y x c (g.0, sym e ∙ g.1));
}

pub demanded : (S : Scheme) (R : Room) (st : State) (b y x : ℕ) (c : Bool) (r : Answer (Unit {0})) (st' : State) → r ≡ bare (answer S R st (demand b y x c))
    → st' ≡ step S R st (demand b y x c) → Demanded S R st b y x c r st'
demanded S R st b y x c r st' e is =
    let k = answer S R st (demand b y x c) in
    let x' = bare_exact k (demand_exact S R st b y x c) in
    record {
      exact = subst (λ (q : Answer (Unit {0})). DemandExact S R st b y x c q) (sym e) x';
      adds = λ g. subst (Adds st b y (ticket_of x c)) (sym is)
          (demand_step S R st b y x c ((demand_exact S R st b y x c).whenever (x'.only (g.0, sym e ∙ g.1))));
    }

pub created : (S : Scheme) → WellFormed S → (R : Room) (st : State) (a : ℕ) (b : Option ℕ) (k : ℕ) (r : Answer ℕ) (st' : State)
    → r ≡ answer S R st (create a b k) → st' ≡ step S R st (create a b k) → Created S R st a b k r st'
created S w R st a b k r st' e is = record {
  exact = subst (λ (q : Answer ℕ). CreateExact S R st a b k q) (sym e) (create_exact S R st a b k w);
  makes = λ n m g.
      let c = create_step S R st w a b k n m (sym e ∙ g) in
      (c.0, subst (Creates st m.rule a b) (sym is) c.1);
}
