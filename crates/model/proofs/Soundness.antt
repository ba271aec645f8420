-- Every call and every entry of a set-up leaves a sound register sound.
use Rattle.std.proofs.Common.{◌≡◌, ℕ, suc, ◌<◌, ◌≤◌, Bool, true, false, ◌&&◌, ltb, leb, List, [], ◌∷◌, ◌++◌, is_some, Some, None, Option, unwrap_or, sym, refl, ap, ◌∙◌, subst, inl, inr, arith}
use Rattle.std.specs.List.{slice_get}
use Rattle.std.proofs.lemmas.Bool.{and_parts, ltb-true, leb-true, cases_Bool}
use Rattle.model.specs.declared.tickets.Entity.{Entity}
use Rattle.model.specs.Tickets.{Tickets, has, none, ticket_of}
use Rattle.model.specs.Scheme.{Scheme, Rule, Part, Proper, ProperPart, WellFormed}
use Rattle.model.specs.State.{State, Room, last_number, kind_in, standing, subject, remove, new, added}
use Rattle.model.specs.Calls.{Call, copy, demand, create, drop, retire, checks, reply, effect, after, step, without_right, born, born_by, rule_found, rule_for, each}
use Rattle.model.specs.SetUp.{Entry, enter, place, entry_checks, entry_reply, entry_effect, entry_step}
use Rattle.model.specs.Laws.{Rising, Sound}
use Rattle.model.proofs.Tables.{Joins, Fine, GivenPart, GivenSecond, fine_put, fine_gain, fine_birth, fine_without, none_has, join_cases, less_within, proper_none, proper_join, proper_less, proper_ticket}
use Rattle.model.proofs.Entities.{free, pushed_kind, push_new, push_cases, removed_kind, still_kind, rising_push, rising_remove}
use Rattle.model.proofs.Checks.{AllHold, by_decide, each_first, each_second}

-- holder and target stand, and the holder is a subject
pub record Between (S : Scheme) (es : List Entity) (h y : ℕ) : Type 0 where
  pub holder : is_some (kind_in es h) ≡ true
  pub target : is_some (kind_in es y) ≡ true
  pub subject : S.subject (unwrap_or (kind_in es h) 0) ≡ true

-- a set may stand at a place: it is proper, and if it is not empty then its holder may hold it
pub record Fits (S : Scheme) (es : List Entity) (h y : ℕ) (s : Tickets) : Type 0 where
  pub between : (x : ℕ) (c : Bool) → has s x c ≡ true → Between S es h y
  pub proper : Proper S s

-- the same facts as soundness, place by place
record Lasting (S : Scheme) (st : State) : Type 0 where
  pub rising : Rising 1 st.entities st.next
  pub numbers : st.next ≤ suc last_number
  pub declared : (e k : ℕ) → kind_in st.entities e ≡ Some k → k < S.kinds
  pub fine : Fine (Fits S st.entities) st.tickets

lasting_of : (S : Scheme) (st : State) → Sound S st → Lasting S st
lasting_of S st s = record {
  rising = s.orderly.rising;
  numbers = s.orderly.numbers;
  declared = s.declared;
  fine = λ h y. record {
    between = λ x c e. record {
      holder = (s.orderly.only_standing h y x c e).0;
      target = (s.orderly.only_standing h y x c e).1;
      subject = s.by_subjects h y x c e;
    };
    proper = record { known = s.known h y; nested = s.orderly.nested h y };
  };
}

sound_of : (S : Scheme) (st : State) → Lasting S st → Sound S st
sound_of S st l = record {
  orderly = record {
    rising = l.rising;
    numbers = l.numbers;
    only_standing = λ h y x c e. (((l.fine h y).between x c e).holder, ((l.fine h y).between x c e).target);
    nested = λ h y. (l.fine h y).proper.nested;
  };
  declared = l.declared;
  by_subjects = λ h y x c e. ((l.fine h y).between x c e).subject;
  known = λ h y. (l.fine h y).proper.known;
}

module _ (S : Scheme) where
  fits_at : (es : List Entity) (h y : ℕ) (s : Tickets) → Between S es h y → Proper S s → Fits S es h y s
  fits_at es h y s b p = record { between = λ x c e. b; proper = p }

  fits_more : (es fs : List Entity) (h y : ℕ) (s : Tickets) → (Between S es h y → Between S fs h y) → Fits S es h y s → Fits S fs h y s
  fits_more es fs h y s i f = record { between = λ x c e. i (f.between x c e); proper = f.proper }

  fits_joins : (es : List Entity) → Joins (Fits S es)
  fits_joins es = record {
    of_none = λ h y. record { between = λ x c e. none_has x c e; proper = proper_none S };
    of_join = λ h y s t f g. record {
      between = λ x c e. elim (join_cases s t x c e) [ inl l ↦ f.between x c l | inr r ↦ g.between x c r ];
      proper = proper_join S s t f.proper g.proper;
    };
  }

  -- who stood with some kind still has it
  between_as : (es fs : List Entity) (h y : ℕ) → kind_in fs h ≡ kind_in es h → kind_in fs y ≡ kind_in es y → Between S es h y → Between S fs h y
  between_as es fs h y p q b = record {
    holder = ap is_some p ∙ b.holder;
    target = ap is_some q ∙ b.target;
    subject = ap (λ (o : Option ℕ). S.subject (unwrap_or o 0)) p ∙ b.subject;
  }

  between_pushed : (es : List Entity) (f : Entity) (h y : ℕ) → Between S es h y → Between S (es ++ f ∷ []) h y
  between_pushed es f h y b = between_as es (es ++ f ∷ []) h y (pushed_kind es f h b.holder) (pushed_kind es f y b.target) b

  -- tickets of a new entity: none where it is no subject
  fits_new : (k : ℕ) (es : List Entity) (n y : ℕ) (s : Tickets) → kind_in es n ≡ Some k → is_some (kind_in es y) ≡ true → Proper S s
      → (S.subject k ≡ false → s ≡ none) → Fits S es n y s
  fits_new k es n y s e h p o = elim (cases_Bool (S.subject k)) [
    | inl u ↦ fits_at es n y s (record { holder = ap is_some e; target = h; subject = ap (λ (i : Option ℕ). S.subject (unwrap_or i 0)) e ∙ u }) p
    | inr u ↦ subst (λ (i : Tickets). Fits S es n y i) (sym (o u)) ((fits_joins es).of_none n y)
  ]

  -- what a parent's part gives
  fits_part : (p : Part) (k : ℕ) → ProperPart S p k → (es : List Entity) (a n : ℕ) → kind_in es n ≡ Some k → is_some (kind_in es a) ≡ true
      → S.subject (unwrap_or (kind_in es a) 0) ≡ true → GivenPart (Fits S es) p a n
  fits_part p k w es a n e h u = record {
    for_child = fits_at es a n p.for_child (record { holder = h; target = ap is_some e; subject = u }) w.for_child;
    for_self = fits_at es a a p.for_self (record { holder = h; target = h; subject = u }) w.for_self;
    to_child = fits_new k es n a p.to_child e h w.to_child w.object_gets_none;
  }

module _ (S : Scheme) (w : WellFormed S) (st : State) (s : Lasting S st) where
  lasts_ticket : (h y x : ℕ) (c : Bool) → standing st h ≡ true → standing st y ≡ true → subject S st h ≡ true → ltb x S.rights ≡ true
      → Lasting S (effect S st (demand h y x c))
  lasts_ticket h y x c sh sy su k = record {
    rising = s.rising;
    numbers = s.numbers;
    declared = s.declared;
    fine = fine_gain (Fits S st.entities) (fits_joins S st.entities) st.tickets h y (ticket_of x c) s.fine
        (fits_at S st.entities h y (ticket_of x c) (record { holder = sh; target = sy; subject = su }) (proper_ticket S x c (ltb-true x S.rights k)));
  }

  lasts_drop : (h y x : ℕ) → Lasting S (effect S st (drop h y x))
  lasts_drop h y x = record {
    rising = s.rising;
    numbers = s.numbers;
    declared = s.declared;
    fine = fine_put (Fits S st.entities) st.tickets h y (without_right (st.tickets h y) x) s.fine (record {
      between = λ z c e. (s.fine h y).between z c (less_within (st.tickets h y) x z c e);
      proper = proper_less S (st.tickets h y) x (s.fine h y).proper;
    });
  }

  lasts_retire : (y : ℕ) → Lasting S (effect S st (retire y))
  lasts_retire y =
      let es : List Entity = st.entities in
      record {
        rising = rising_remove 1 es st.next y s.rising;
        numbers = s.numbers;
        declared = λ e k h. s.declared e k (removed_kind es y e k h);
        fine = fine_without (Fits S (remove es y)) (fits_joins S (remove es y)) (Fits S es) st.tickets y s.fine
            (λ h z nh nz. fits_more S es (remove es y) h z (st.tickets h z) (between_as S es (remove es y) h z (still_kind es y h nh) (still_kind es y z nz)));
      }

  -- one entity more, of kind k
  module _ (k : ℕ) where
    abbrev new_one : Entity
    new_one = record { number = st.next; kind = k }

    abbrev es' : List Entity
    es' = st.entities ++ new_one ∷ []

    pushed_declared : k < S.kinds → (e j : ℕ) → kind_in es' e ≡ Some j → j < S.kinds
    pushed_declared l e j h = elim (push_cases st.entities new_one e j h) [ inl o ↦ s.declared e j o | inr p ↦ subst (λ (i : ℕ). i < S.kinds) p.1 l ]

    pushed_fine : Fine (Fits S es') st.tickets
    pushed_fine h y = fits_more S st.entities es' h y (st.tickets h y) (between_pushed S st.entities new_one h y) (s.fine h y)

    new_kind : kind_in es' st.next ≡ Some k
    new_kind = push_new st.entities new_one (free st.entities st.next s.rising)

    old_stands : (a : ℕ) → standing st a ≡ true → is_some (kind_in es' a) ≡ true
    old_stands a h = ap is_some (pushed_kind st.entities new_one a h) ∙ h

    old_subject : (a : ℕ) → standing st a ≡ true → subject S st a ≡ true → S.subject (unwrap_or (kind_in es' a) 0) ≡ true
    old_subject a h u = ap (λ (o : Option ℕ). S.subject (unwrap_or o 0)) (pushed_kind st.entities new_one a h) ∙ u

    lasts_enter : k < S.kinds → leb st.next last_number ≡ true → Lasting S (added st k)
    lasts_enter d n = record {
      rising = rising_push 1 st.entities st.next k s.rising;
      numbers = omega (arith, leb-true st.next last_number n);
      declared = pushed_declared d;
      fine = pushed_fine;
    }

  given_second : (i : ℕ) (r : Rule) → slice_get S.rules i ≡ Some r → (q : Option Part) → r.second ≡ q → (b : Option ℕ)
      → ((e : ℕ) → b ≡ Some e → standing st e ≡ true) → ((e : ℕ) → b ≡ Some e → subject S st e ≡ true)
      → GivenSecond (Fits S (es' r.child)) q b st.next
  given_second i r e (Some p) q (Some b) h u =
      fits_part S p r.child (w.seconds i r p e q) (es' r.child) b st.next (new_kind r.child) (old_stands r.child b (h b refl))
      (old_subject r.child b (h b refl) (u b refl))
  given_second i r e (Some p) q None h u = tt
  given_second i r e None q (Some b) h u = tt
  given_second i r e None q None h u = tt

  lasts_born : (i : ℕ) (r : Rule) → slice_get S.rules i ≡ Some r → (a : ℕ) (b : Option ℕ) → each (standing st) a b ≡ true → each (subject S st) a b ≡ true
      → leb st.next last_number ≡ true → Lasting S (born st r a b)
  lasts_born i r e a b h u l =
      let n : ℕ = st.next in
      let k : ℕ = r.child in
      let sa : standing st a ≡ true = each_first (standing st) a b h in
      let c = w.children i r e in
      let up = lasts_enter k c.declared l in
      record {
        rising = up.rising;
        numbers = up.numbers;
        declared = up.declared;
        fine = fine_birth (Fits S (es' k)) (fits_joins S (es' k)) st.tickets r a b n (pushed_fine k) (record {
          first = fits_part S r.first k (w.firsts i r e) (es' k) a n (new_kind k) (old_stands k a sa) (old_subject k a sa (each_first (subject S st) a b u));
          second = given_second i r e r.second refl b (each_second (standing st) a b h) (each_second (subject S st) a b u);
          own = fits_new S k (es' k) n n r.own (new_kind k) (ap is_some (new_kind k)) c.own c.object_gets_none;
        });
      }

  lasts_by : (o : Option ℕ) (q : Option Rule) → rule_found S o ≡ q → (a : ℕ) (b : Option ℕ) → each (standing st) a b ≡ true → each (subject S st) a b ≡ true
      → leb st.next last_number ≡ true → Lasting S (born_by st q a b)
  lasts_by (Some i) (Some r) e a b h u l = lasts_born i r e a b h u l
  lasts_by (Some i) None e a b h u l = s
  lasts_by None (Some r) e a b h u l = let z : ◌≡◌ {A = ℕ} 0 1 = cc in absurd (omega arith)
  lasts_by None None e a b h u l = s

  lasts_effect : (R : Room) (k : Call) → AllHold (checks S R st k) → Lasting S (effect S st k)
  lasts_effect R (copy a b y x c) h =
      let aby = and_parts (standing st a && standing st b) (standing st y) h.0 in
      lasts_ticket b y x c (and_parts (standing st a) (standing st b) aby.0).1 aby.1 (and_parts (subject S st a) (subject S st b) h.1.0).1 h.1.1.0
  lasts_effect R (demand b y x c) h =
      let by = and_parts (standing st b) (standing st y) h.0 in
      lasts_ticket b y x c by.0 by.1 h.1.0 h.1.1.0
  lasts_effect R (create a b k) h = lasts_by (rule_for S st a b k) (rule_found S (rule_for S st a b k)) refl a b h.0 h.1.0 h.1.1.1.1.1.0
  lasts_effect R (drop a y x) h = lasts_drop a y x
  lasts_effect R (retire y) h = lasts_retire y

  lasts_entry : (R : Room) (e : Entry) → AllHold (entry_checks S R st e) → Lasting S (entry_effect st e)
  lasts_entry R (enter k) h = lasts_enter k (ltb-true k S.kinds h.0) h.1.1.0
  lasts_entry R (place a y x c) h =
      let ay = and_parts (standing st a) (standing st y) h.0 in
      lasts_ticket a y x c ay.0 ay.1 h.1.0 h.1.1.0

module _ (S : Scheme) where
  -- nobody and nothing is sound
  pub sound_new : Sound S new
  sound_new = sound_of S new (record {
    rising = omega arith;
    numbers = omega arith;
    declared = λ e k h. let z : ◌≡◌ {A = ℕ} 0 1 = cc in absurd (omega arith);
    fine = (fits_joins S []).of_none;
  })

  module _ (w : WellFormed S) (R : Room) (st : State) (s : Sound S st) where
    pub sound_step : (k : Call) → Sound S (step S R st k)
    sound_step k = by_decide (λ r. Sound S (after r (effect S st k) st)) (checks S R st k) (reply S st k) (λ _. s)
        (λ h. sound_of S (effect S st k) (lasts_effect S w st (lasting_of S st s) R k h))

    pub sound_entry_step : (e : Entry) → Sound S (entry_step S R st e)
    sound_entry_step e = by_decide (λ r. Sound S (after r (entry_effect st e) st)) (entry_checks S R st e) (entry_reply st e) (λ _. s)
        (λ h. sound_of S (entry_effect st e) (lasts_entry S w st (lasting_of S st s) R e h))
