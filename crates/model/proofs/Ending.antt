-- Where there is no circle of creation the creations end: an entity's line of descent has no kind twice, so it is no longer than there are
-- kinds; and with every step of descent there are only so many choices.
use Rattle.std.proofs.Common.{◌≡◌, ℕ, zero, suc, ◌+◌, ◌*◌, ◌<◌, ◌≤◌, max, Bool, cond, eqb, ltb, ◌⊎◌, List, [], ◌∷◌, ◌++◌, map, length, is_some, Some, None, filter, Option, sym, refl, ap, ◌∙◌, subst, inl, inr, arith}
use mathlib.Core.List.{map-append}
use Rattle.std.proofs.lemmas.Nat.{mul-le}
use Rattle.std.proofs.lemmas.List.{length-append, length-map}
use Rattle.std.proofs.lemmas.Bool.{eq-eqb, ne_eqb, lt-ltb, ltb-true, both_ways, cases_lt, cond-true, cond-false, cond_both}
use Rattle.model.specs.declared.tickets.Entity.{Entity}
use Rattle.model.specs.Scheme.{Scheme, Rule, Part, WellFormed}
use Rattle.model.specs.State.{State, kind_in, kind_of}
use Rattle.model.specs.Calls.{upto, born}
use Rattle.model.specs.Laws.{Rising, Sound}
use Rattle.model.specs.Grants.{SecondFits}
use Rattle.model.specs.Outlook.{Choice, Made, Drawing, child_of, take, next_choice, draw, SecondIs, Descends, by_first, by_second, further, Circle}
use Rattle.model.specs.Determinacy.{Makes}
use Rattle.model.proofs.Lists.{In, in_left, in_right, in_append, in_map, map_in, in_kept, kept_in, kept_all, pairs, in_pairs, length_pairs, in_upto, length_upto, Distinct, distinct_push, distinct_kept, no_longer}
use Rattle.model.proofs.Entities.{in_numbers, stands_below, push_old, push_new, push_cases, rising_push, free}
use Rattle.model.proofs.RuleNumbers.{rule_below}
use Rattle.model.proofs.Grants.{second_is}
use Rattle.model.proofs.Choices.{Possible, taken, taken_child, possible_push}
use Rattle.model.proofs.Draws.{next_is, born_is}
use Rattle.model.proofs.Turns.{either_way, first_complete}

-- a line of l kinds that a kind descends from, none of them twice
record Line (S : Scheme) (k l : ℕ) : Type 0 where
  pub kinds : List ℕ
  pub long : length kinds ≡ l
  pub above : (j : ℕ) → In j kinds → Descends S j k
  pub once : Distinct (k ∷ kinds)
  pub declared : (j : ℕ) → In j (k ∷ kinds) → j < S.kinds

-- how deep each entity lies, of a drawing: no choice was taken twice; a child lies deeper than its parents; and of every entity there is a
-- line as long as it lies deep
record Descent (S : Scheme) (st : State) (d : Drawing) (depth : ℕ → ℕ) : Type 0 where
  pub rising : Rising 1 d.state.entities d.state.next
  pub from : (e k : ℕ) → kind_of d.state e ≡ Some k → (kind_of st e ≡ Some k) ⊎ ((m : Made) × In m d.made × (m.child ≡ e))
  pub once : Distinct (taken d.made)
  pub possible : (m : Made) → In m d.made → Possible S.rules d.state.entities m.choice
  pub stands : (m : Made) → In m d.made → (k : ℕ) × (kind_of d.state m.child ≡ Some k)
  pub deeper : (m : Made) → In m d.made → depth m.choice.parent < depth m.child
  pub deeper_too : (m : Made) → In m d.made → (b : ℕ) → m.choice.second ≡ Some b → depth b < depth m.child
  pub line : (e k : ℕ) → kind_of d.state e ≡ Some k → Line S k (depth e)

module _ (S : Scheme) (w : WellFormed S) (no_circle : Circle S → ⊥) where
  -- a kind's line goes on with a kind that descends from it
  further_line : (j k l : ℕ) → Descends S j k → k < S.kinds → Line S j l → Line S k (suc l)
  further_line j k l d low n = record {
    kinds = j ∷ n.kinds;
    long = ap suc n.long;
    above = λ i q. elim q [ inl e ↦ subst (λ v. Descends S v k) e d | inr p ↦ further i j k (n.above i p) d ];
    once = (λ q. elim q [ inl e ↦ no_circle (k, subst (λ v. Descends S v k) e d) | inr p ↦ no_circle (k, further k j k (n.above k p) d) ], n.once);
    declared = λ i q. elim q [ inl e ↦ subst (λ v. v < S.kinds) e low | inr p ↦ n.declared i p ];
  }

  -- and it is shorter than there are kinds
  line_short : (k l : ℕ) → Line S k l → l < S.kinds
  line_short k l n =
      omega (arith, n.long, length_upto S.kinds, no_longer (k ∷ n.kinds) (upto S.kinds) n.once (λ j i. in_upto S.kinds j (n.declared j i)))

  -- a child lies one step below the deeper of its parents
  abbrev child_depth : (ℕ → ℕ) → Choice → ℕ
  child_depth f c = suc (elim c.second [ None ↦ f c.parent | Some b ↦ max (f c.parent) (f b) ])

  abbrev with_child : (ℕ → ℕ) → ℕ → ℕ → ℕ → ℕ
  with_child f n l e = cond (eqb n e) l (f e)

  module _ (st : State) (d : Drawing) (f : ℕ → ℕ) (h : Descent S st d f) (c : Choice) (q : Possible S.rules d.state.entities c) (fresh : child_of d.made c ≡ None) where
    abbrev n : ℕ
    n = d.state.next

    abbrev r : Rule
    r = q.by

    abbrev child : Entity
    child = record { number = n; kind = r.child }

    abbrev made : Made
    made = record { choice = c; child = n }

    abbrev g : ℕ → ℕ
    g = with_child f n (child_depth f c)

    old : (e k : ℕ) → kind_of d.state e ≡ Some k → g e ≡ f e
    old e k s = cond-false (eqb n e) (child_depth f c) (f e) (ne_eqb n e (λ i. omega (arith, stands_below d.state.entities n h.rising e (ap is_some s))))

    new : g n ≡ child_depth f c
    new = cond-true (eqb n n) (child_depth f c) (f n) (eq-eqb n n refl)

    parent_less : (o : Option ℕ) → f c.parent < suc (elim o [ None ↦ f c.parent | Some b ↦ max (f c.parent) (f b) ])
    parent_less (Some b) = omega arith
    parent_less None = omega arith

    second_less : (o : Option ℕ) (b : ℕ) → o ≡ Some b → f b < suc (elim o [ None ↦ f c.parent | Some e ↦ max (f c.parent) (f e) ])
    second_less (Some e) b i = let s : e ≡ b = cc in let t : f e ≡ f b = ap f s in omega arith
    second_less None b i = let z : ◌≡◌ {A = ℕ} 0 1 = cc in absurd (omega arith)

    low : r.child < S.kinds
    low = (w.children c.rule r q.is).declared

    first_line : Line S r.child (suc (f c.parent))
    first_line = further_line r.first.kind r.child (f c.parent) (by_first c.rule r q.is) low (h.line c.parent r.first.kind q.parent)

    child_line : (p : Option Part) → r.second ≡ p → (o : Option ℕ) → SecondFits d.state.entities p o
        → Line S r.child (suc (elim o [ None ↦ f c.parent | Some b ↦ max (f c.parent) (f b) ]))
    child_line (Some p) i (Some b) s = elim (cases_lt (f c.parent) (f b)) [
      | inl l ↦ subst (Line S r.child) (omega arith)
          (further_line p.kind r.child (f b) (by_second c.rule r p.kind q.is (subst (λ v. SecondIs v p.kind) (sym i) refl)) low (h.line b p.kind s))
      | inr l ↦ subst (Line S r.child) (omega arith) first_line
    ]
    child_line (Some p) i None s = absurd s
    child_line None i (Some b) s = absurd s
    child_line None i None s = first_line

    is_made : (m : Made) → In m (d.made ++ made ∷ []) → In m d.made ⊎ (made ≡ m)
    is_made m i = elim (in_append m d.made (made ∷ []) i) [ inl k ↦ inl k | inr k ↦ elim k [ inl e ↦ inr e | inr z ↦ absurd z ] ]

    -- what holds of the old ones and of the new one
    by_made : (P : Made → Type 0) → ((m : Made) → In m d.made → P m) → P made → (m : Made) → In m (d.made ++ made ∷ []) → P m
    by_made P before now m i = elim (is_made m i) [ inl k ↦ before m k | inr e ↦ subst P e now ]

    descent_born : Descent S st (record { state = born d.state r c.parent c.second; made = d.made ++ made ∷ [] }) g
    descent_born =
        let es : List Entity = d.state.entities in
        record {
          rising = rising_push 1 es n r.child h.rising;
          from = λ e k s. elim (push_cases es child e k s) [
            | inl o ↦ elim (h.from e k o) [ inl v ↦ inl v | inr v ↦ inr (v.0, in_left v.0 d.made (made ∷ []) v.1, v.2) ]
            | inr o ↦ inr (made, in_right made d.made (made ∷ []) (inl refl), o.0)
          ];
          once = subst Distinct (sym (map-append (λ m. m.choice) d.made (made ∷ [])))
              (distinct_push (taken d.made) c h.once (λ i. both_ways (is_some (child_of d.made c)) (ap is_some fresh) (taken_child d.made c i)));
          possible = by_made (λ m. Possible S.rules (es ++ child ∷ []) m.choice) (λ m i. possible_push S.rules es child m.choice (h.possible m i))
              (possible_push S.rules es child c q);
          stands = by_made (λ m. (k : ℕ) × (kind_in (es ++ child ∷ []) m.child ≡ Some k))
              (λ m i. let k = h.stands m i in (k.0, push_old es child m.child k.0 k.1)) (r.child, child_stands);
          deeper = by_made (λ m. g m.choice.parent < g m.child)
              (λ m i. omega (arith, old m.choice.parent _ (h.possible m i).parent, old m.child _ (h.stands m i).1, h.deeper m i))
              (omega (arith, old c.parent _ q.parent, new, parent_less c.second));
          deeper_too = by_made (λ m. (b : ℕ) → m.choice.second ≡ Some b → g b < g m.child)
              (λ m i b e.
              let p = h.possible m i in
              let k = second_is S d.state p.by.second m.choice.second p.other b e in
              omega (arith, old b _ k.1, old m.child _ (h.stands m i).1, h.deeper_too m i b e))
              (λ b e. let k = second_is S d.state r.second c.second q.other b e in omega (arith, old b _ k.1, new, second_less c.second b e));
          line = λ e k s. elim (push_cases es child e k s) [
            | inl o ↦ subst (Line S k) (sym (old e k o)) (h.line e k o)
            | inr o ↦ subst (λ v. Line S k (g v)) o.0 (subst (λ v. Line S v (g n)) o.1 (subst (Line S r.child) (sym new) (child_line r.second refl c.second q.other)))
          ];
        }
      where
        child_stands : kind_in (d.state.entities ++ child ∷ []) n ≡ Some r.child
        child_stands = push_new d.state.entities child (free d.state.entities n h.rising)

  -- every drawing has such depths
  descent_take : (st : State) (d : Drawing) (f : ℕ → ℕ) → Descent S st d f → (o : Option Choice) → next_choice S d ≡ o → (g : ℕ → ℕ) × Descent S st (take S d o) g
  descent_take st d f h None e = (f, h)
  descent_take st d f h (Some c) e =
      let p = next_is S d c h.rising e in
      let q = p.0 in (
        with_child f d.state.next (child_depth f c),
        subst (λ (z : State). Descent S st (record { state = z; made = d.made ++ record { choice = c; child = d.state.next } ∷ [] }) (with_child f d.state.next (child_depth f c)))
            (sym (born_is S d.state c q.by q.is)) (descent_born st d f h c q p.1),
      )

  descent : (st : State) → Sound S st → (n : ℕ) → (f : ℕ → ℕ) × Descent S st (draw S st n) f
  descent st s zero = (
    λ e. 0,
    record {
      rising = s.orderly.rising;
      from = λ e k i. inl i;
      once = tt;
      possible = λ m i. absurd i;
      stands = λ m i. absurd i;
      deeper = λ m i. absurd i;
      deeper_too = λ m i. absurd i;
      line = λ e k i. record {
        kinds = [];
        long = refl;
        above = λ j q. absurd q;
        once = (λ q. q, tt);
        declared = λ j q. elim q [ inl p ↦ subst (λ v. v < S.kinds) p (s.declared e k i) | inr z ↦ absurd z ];
      };
    },
  )
  descent st s (suc n) = let h = descent st s n in descent_take st (draw S st n) h.0 h.1 (next_choice S (draw S st n)) refl

  -- how many choices there are at most whose children lie above depth l, with e entities at first and r rules
  abbrev most_above : ℕ → ℕ → ℕ → ℕ
  most_above e r zero = 0
  most_above e r (suc l) = r * ((e + most_above e r l) * suc (e + most_above e r l))

  module _ (st : State) (d : Drawing) (f : ℕ → ℕ) (h : Descent S st d f) where
    abbrev high : ℕ → Made → Bool
    high l m = ltb (f m.child) l

    abbrev highest : ℕ → List Made
    highest l = filter (high l) d.made

    -- those who can be parents of a child above depth l + 1
    abbrev parents : ℕ → List ℕ
    parents l = map (λ e. e.number) st.entities ++ map (λ m. m.child) (highest l)

    length_parents : (l : ℕ) → length (parents l) ≡ length st.entities + length (highest l)
    length_parents l =
        length-append (map (λ e. e.number) st.entities) (map (λ m. m.child) (highest l))
        ∙ (λ i. length-map st.entities (λ e. e.number) i + length-map (highest l) (λ m. m.child) i)

    in_parents : (l e k : ℕ) → kind_of d.state e ≡ Some k → f e < l → In e (parents l)
    in_parents l e k s b = elim (h.from e k s) [
      | inl o ↦ in_left e (map (λ z. z.number) st.entities) (map (λ m. m.child) (highest l)) (in_numbers st.entities e k o)
      | inr o ↦
          in_right e (map (λ z. z.number) st.entities) (map (λ m. m.child) (highest l))
          (subst (λ v. In v (map (λ m. m.child) (highest l))) o.2
          (in_map (λ m. m.child) (highest l) o.0
          (in_kept (high l) d.made o.0 o.1 (lt-ltb (f o.0.child) l (subst (λ v. f v < l) (sym o.2) b)))))
    ]

    -- every choice of these parents
    abbrev Key : Type 0
    Key = ℕ × (ℕ × Option ℕ)

    abbrev by_key : Key → Choice
    by_key k = record { rule = k.0; parent = k.1.0; second = k.1.1 }

    abbrev keys : ℕ → List Key
    keys l = pairs (upto (length S.rules)) (pairs (parents l) (None ∷ map Some (parents l)))

    second_in : (l : ℕ) (c : Choice) (p : Option Part) (o : Option ℕ) → c.second ≡ o → SecondFits d.state.entities p o → ((b : ℕ) → o ≡ Some b → f b < l)
        → In o (None ∷ map Some (parents l))
    second_in l c (Some p) (Some b) i s t = inr (in_map Some (parents l) b (in_parents l b p.kind s (t b refl)))
    second_in l c (Some p) None i s t = inl refl
    second_in l c None (Some b) i s t = absurd s
    second_in l c None None i s t = inl refl

    in_keys : (l : ℕ) (c : Choice) → In c (taken (highest (suc l))) → In c (map by_key (keys l))
    in_keys l c i =
        let m = map_in (λ m. m.choice) (highest (suc l)) c i in
        let k = kept_in (high (suc l)) d.made m.0 m.1 in
        let p = h.possible m.0 k.0 in
        let b : f m.0.child < suc l = ltb-true (f m.0.child) (suc l) k.1 in
        let v : Choice = m.0.choice in
        subst (λ z. In z (map by_key (keys l))) m.2
        (in_map by_key (keys l) (v.rule, (v.parent, v.second))
        (in_pairs (upto (length S.rules)) (pairs (parents l) (None ∷ map Some (parents l))) v.rule (v.parent, v.second)
        (in_upto (length S.rules) v.rule (rule_below S.rules v.rule p.by p.is))
        (in_pairs (parents l) (None ∷ map Some (parents l)) v.parent v.second
        (in_parents l v.parent p.by.first.kind p.parent (omega (arith, h.deeper m.0 k.0)))
        (second_in l v p.by.second v.second refl p.other (λ a e. omega (arith, h.deeper_too m.0 k.0 a e))))))

    bounded : (l : ℕ) → length (highest l) ≤ most_above (length st.entities) (length S.rules) l
    bounded zero = omega (arith, none_high d.made)
      where
        none_high : (ms : List Made) → length (filter (high 0) ms) ≡ 0
        none_high [] = refl
        none_high (m ∷ ms) = cond_both (high 0 m) (m ∷ filter (high 0) ms) (filter (high 0) ms) (λ v. length v ≡ 0)
            (λ t. absurd (omega (arith, ltb-true (f m.child) 0 t))) (λ _. none_high ms)
    bounded (suc l) =
        let e : ℕ = length st.entities in
        let rs : ℕ = length S.rules in
        let b : ℕ = most_above e rs l in
        let ps : List ℕ = parents l in
        let size : length ps ≤ e + b = omega (arith, length_parents l, bounded l) in
        let some : length (None ∷ map Some ps) ≡ suc (length ps) = ap suc (length-map ps Some) in
        let few : length (map by_key (keys l)) ≤ rs * ((e + b) * suc (e + b)) =
        omega (
          arith,
          length-map (keys l) by_key,
          length_pairs (upto rs) (pairs ps (None ∷ map Some ps)),
          length_pairs ps (None ∷ map Some ps),
          mul-le (length (upto rs)) (length (pairs ps (None ∷ map Some ps))) rs ((e + b) * suc (e + b)) (omega (arith, length_upto rs))
              (omega (arith, length_pairs ps (None ∷ map Some ps), mul-le (length ps) (length (None ∷ map Some ps)) (e + b) (suc (e + b)) size (omega arith))),
        ) in
        omega (
          arith,
          length-map (highest (suc l)) (λ m. m.choice),
          no_longer (taken (highest (suc l))) (map by_key (keys l)) (distinct_kept (λ m. m.choice) (high (suc l)) d.made h.once) (in_keys l),
        )

    all_bounded : length d.made ≤ most_above (length st.entities) (length S.rules) S.kinds
    all_bounded =
        omega (
          arith,
          bounded S.kinds,
          kept_all (high S.kinds) d.made (λ m i. let k = h.stands m i in lt-ltb (f m.child) S.kinds (line_short k.0 (f m.child) (h.line m.child k.0 k.1))),
        )

  pub creations_end : (st : State) → Sound S st → (m : ℕ) × Makes S st m
  creations_end st s =
      let b : ℕ = most_above (length st.entities) (length S.rules) S.kinds in
      elim (either_way S st b).one [
        | inl c ↦ first_complete S st b c
        | inr x ↦ let h = descent st s (suc b) in absurd (omega (arith, x, all_bounded st (draw S st (suc b)) h.0 h.1))
      ]
