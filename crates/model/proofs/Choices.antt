-- The choices of a drawing: each rule with standing parents of its kinds, one entity in both places among them, and nothing else. Where no
-- choice is left, each was taken.
use Rattle.std.proofs.Common.{◌≡◌, ℕ, zero, suc, ◌+◌, ◌≤◌, Bool, true, false, cond, ◌&&◌, eqb, ◌⊎◌, List, [], ◌∷◌, ◌++◌, map, is_some, Some, None, Option, sym, refl, ap, ◌∙◌, subst, inl, inr, arith}
use Rattle.std.specs.Option.{option_map}
use Rattle.std.specs.List.{slice_get}
use Rattle.std.proofs.lemmas.Bool.{eqb-true, eq-eqb, ne_eqb, and_parts, false≢true, cond-true, cond-false, and_from, cond_both}
use Rattle.model.specs.declared.tickets.Entity.{Entity}
use Rattle.model.specs.Scheme.{Rule, Part}
use Rattle.model.specs.State.{kind_in}
use Rattle.model.specs.Laws.{Rising}
use Rattle.model.specs.Grants.{SecondFits}
use Rattle.model.specs.Outlook.{Choice, Made, of_kind, with_seconds, with_parents, choices, child_of, unused, same_choice, same_option}
use Rattle.model.proofs.Lists.{In, in_left, in_right, in_append}
use Rattle.model.proofs.Entities.{Some≢None, same_inside, rising_stands, push_old}

-- a choice is possible: there is its rule, and its parents stand and are of the rule's kinds
pub record Possible (rs : List Rule) (es : List Entity) (c : Choice) : Type 0 where
  pub by : Rule
  pub is : slice_get rs c.rule ≡ Some by
  pub parent : kind_in es c.parent ≡ Some by.first.kind
  pub other : SecondFits es by.second c.second

-- the entities of one kind are those that stand and have it
in_of_kind : (k : ℕ) (es : List Entity) (e : ℕ) → kind_in es e ≡ Some k → In e (of_kind k es)
in_of_kind k [] e h = absurd (Some≢None None k h refl)
in_of_kind k (f ∷ fs) e h = go (in_of_kind k fs e) (eqb f.number e) refl h
  where
    later : (b : Bool) → In e (of_kind k fs) → In e (cond b (f.number ∷ of_kind k fs) (of_kind k fs))
    later true i = inr i
    later false i = i

    go : (kind_in fs e ≡ Some k → In e (of_kind k fs)) → (b : Bool) → eqb f.number e ≡ b → cond b (Some f.kind) (kind_in fs e) ≡ Some k → In e (of_kind k (f ∷ fs))
    go ih true p q =
        subst (λ b. In e (cond b (f.number ∷ of_kind k fs) (of_kind k fs))) (sym (eq-eqb f.kind k (same_inside (Some k) f.kind k (sym q) refl)))
        (inl (eqb-true f.number e p))
    go ih false p q = later (eqb f.kind k) (ih q)

of_kind_stands : (k : ℕ) (es : List Entity) (low n : ℕ) → Rising low es n → (e : ℕ) → In e (of_kind k es) → kind_in es e ≡ Some k
of_kind_stands k [] low n r e i = absurd i
of_kind_stands k (f ∷ fs) low n r e i = go (eqb f.kind k) refl i (of_kind_stands k fs (suc f.number) n r.1 e)
  where
    later : kind_in fs e ≡ Some k → kind_in (f ∷ fs) e ≡ Some k
    later q =
        let l : suc f.number ≤ e = (rising_stands (suc f.number) fs n r.1 e k q).0 in
        cond-false (eqb f.number e) (Some f.kind) (kind_in fs e) (ne_eqb f.number e (λ p. omega arith)) ∙ q

    go : (b : Bool) → eqb f.kind k ≡ b → In e (cond b (f.number ∷ of_kind k fs) (of_kind k fs)) → (In e (of_kind k fs) → kind_in fs e ≡ Some k) → kind_in (f ∷ fs) e ≡ Some k
    go true t (inl q) ih =
        cond-true (eqb f.number e) (Some f.kind) (kind_in fs e) (eq-eqb f.number e q) ∙ ap Some (eqb-true f.kind k t)
    go true t (inr q) ih = later (ih q)
    go false t q ih = later (ih q)

-- the choices of one rule
abbrev of_rule : ℕ → List Entity → Rule → List Choice
of_rule i es r = with_parents i (of_kind r.first.kind es) (option_map (λ p. of_kind p.kind es) r.second)

module _ (i : ℕ) where
  abbrev by_one : ℕ → Choice
  by_one a = record { rule = i; parent = a; second = None }

  abbrev by_two : ℕ → ℕ → Choice
  by_two a b = record { rule = i; parent = a; second = Some b }

  in_seconds : (a : ℕ) (bs : List ℕ) (b : ℕ) → In b bs → In (by_two a b) (with_seconds i a bs)
  in_seconds a [] b h = absurd h
  in_seconds a (x ∷ xs) b (inl e) = inl (ap (by_two a) e)
  in_seconds a (x ∷ xs) b (inr h) = inr (in_seconds a xs b h)

  in_alone : (ps : List ℕ) (a : ℕ) → In a ps → In (by_one a) (with_parents i ps None)
  in_alone [] a h = absurd h
  in_alone (x ∷ xs) a (inl e) = inl (ap by_one e)
  in_alone (x ∷ xs) a (inr h) = inr (in_alone xs a h)

  in_both : (ps bs : List ℕ) (a b : ℕ) → In a ps → In b bs → In (by_two a b) (with_parents i ps (Some bs))
  in_both [] bs a b h k = absurd h
  in_both (x ∷ xs) bs a b (inl e) k =
      in_left (by_two a b) (with_seconds i x bs) (with_parents i xs (Some bs)) (subst (λ n. In (by_two a b) (with_seconds i n bs)) (sym e) (in_seconds a bs b k))
  in_both (x ∷ xs) bs a b (inr h) k = in_right (by_two a b) (with_seconds i x bs) (with_parents i xs (Some bs)) (in_both xs bs a b h k)

  in_rule : (es : List Entity) (p : Part) (q : Option Part) (a : ℕ) (b : Option ℕ) → kind_in es a ≡ Some p.kind → SecondFits es q b
      → In (record { rule = i; parent = a; second = b }) (with_parents i (of_kind p.kind es) (option_map (λ o. of_kind o.kind es) q))
  in_rule es p (Some q) a (Some b) h k = in_both (of_kind p.kind es) (of_kind q.kind es) a b (in_of_kind p.kind es a h) (in_of_kind q.kind es b k)
  in_rule es p (Some q) a None h k = absurd k
  in_rule es p None a (Some b) h k = absurd k
  in_rule es p None a None h k = in_alone (of_kind p.kind es) a (in_of_kind p.kind es a h)

  -- and the other way round
  seconds_are : (a : ℕ) (bs : List ℕ) (c : Choice) → In c (with_seconds i a bs) → (b : ℕ) × In b bs × (by_two a b ≡ c)
  seconds_are a [] c h = absurd h
  seconds_are a (x ∷ xs) c (inl e) = (x, inl refl, e)
  seconds_are a (x ∷ xs) c (inr h) = let r = seconds_are a xs c h in (r.0, inr r.1, r.2)

  alone_are : (ps : List ℕ) (c : Choice) → In c (with_parents i ps None) → (a : ℕ) × In a ps × (by_one a ≡ c)
  alone_are [] c h = absurd h
  alone_are (x ∷ xs) c (inl e) = (x, inl refl, e)
  alone_are (x ∷ xs) c (inr h) = let r = alone_are xs c h in (r.0, inr r.1, r.2)

  both_are : (ps bs : List ℕ) (c : Choice) → In c (with_parents i ps (Some bs)) → (a : ℕ) × (b : ℕ) × In a ps × In b bs × (by_two a b ≡ c)
  both_are [] bs c h = absurd h
  both_are (x ∷ xs) bs c h = elim (in_append c (with_seconds i x bs) (with_parents i xs (Some bs)) h) [
    | inl k ↦ let r = seconds_are x bs c k in (x, r.0, inl refl, r.1, r.2)
    | inr k ↦ let r = both_are xs bs c k in (r.0, r.1, inr r.2, r.3, r.4)
  ]

  module _ (rs : List Rule) (es : List Entity) (n : ℕ) (rising : Rising 1 es n) (r : Rule) (is : slice_get rs i ≡ Some r) where
    rule_possible : (o : Option Part) → r.second ≡ o → (c : Choice) → In c (with_parents i (of_kind r.first.kind es) (option_map (λ p. of_kind p.kind es) o)) → Possible rs es c
    rule_possible (Some p) q c h =
        let k = both_are (of_kind r.first.kind es) (of_kind p.kind es) c h in
        subst (Possible rs es) k.4 (record {
          by = r;
          is = is;
          parent = of_kind_stands r.first.kind es 1 n rising k.0 k.2;
          other = subst (λ o. SecondFits es o (Some k.1)) (sym q) (of_kind_stands p.kind es 1 n rising k.1 k.3);
        })
    rule_possible None q c h =
        let k = alone_are (of_kind r.first.kind es) c h in
        subst (Possible rs es) k.2 (record {
          by = r;
          is = is;
          parent = of_kind_stands r.first.kind es 1 n rising k.0 k.1;
          other = subst (λ o. SecondFits es o None) (sym q) tt;
        })

-- rules numbered from i on
in_choices : (rs : List Rule) (i j : ℕ) (es : List Entity) (r : Rule) (c : Choice) → slice_get rs j ≡ Some r → In c (of_rule (i + j) es r) → In c (choices rs i es)
in_choices [] i j es r c e h = absurd (Some≢None None r e refl)
in_choices (q ∷ qs) i zero es r c e h =
    in_left c (of_rule i es q) (choices qs (suc i) es)
    (subst (λ n. In c (of_rule n es q)) (zeros i) (subst (λ (s : Rule). In c (of_rule (i + 0) es s)) (sym (same_inside (Some r) q r (sym e) refl)) h))
  where
    zeros : (n : ℕ) → n + 0 ≡ n
    zeros n = omega arith
in_choices (q ∷ qs) i (suc j) es r c e h =
    in_right c (of_rule i es q) (choices qs (suc i) es) (in_choices qs (suc i) j es r c e (subst (λ n. In c (of_rule n es r)) (later i j) h))
  where
    later : (n m : ℕ) → n + suc m ≡ suc n + m
    later n m = omega arith

-- every possible choice is among them
pub is_choice : (rs : List Rule) (es : List Entity) (c : Choice) → Possible rs es c → In c (choices rs 0 es)
is_choice rs es c p =
    in_choices rs 0 c.rule es p.by c p.is
    (subst (λ n. In c (of_rule n es p.by)) (zeros c.rule) (in_rule c.rule es p.by.first p.by.second c.parent c.second p.parent p.other))
  where
    zeros : (n : ℕ) → n ≡ 0 + n
    zeros n = omega arith

-- and nothing else
module _ (rs : List Rule) (es : List Entity) (n : ℕ) (rising : Rising 1 es n) where
  from : (qs : List Rule) (i : ℕ) → ((j : ℕ) (r : Rule) → slice_get qs j ≡ Some r → slice_get rs (i + j) ≡ Some r) → (c : Choice) → In c (choices qs i es) → Possible rs es c
  from [] i at c h = absurd h
  from (r ∷ qs) i at c h = elim (in_append c (of_rule i es r) (choices qs (suc i) es) h) [
    | inl k ↦ let e : i + 0 ≡ i = omega arith in rule_possible i rs es n rising r (rw e at (at 0 r refl)) r.second refl c k
    | inr k ↦ from qs (suc i) (λ j p q. let e : suc i + j ≡ i + suc j = omega arith in rw e (at (suc j) p q)) c k
  ]

  pub choice_possible : (c : Choice) → In c (choices rs 0 es) → Possible rs es c
  choice_possible c h = from rs 0 (λ j r q. let e : 0 + j ≡ j = omega arith in rw e q) c h

-- where no choice is unused, each has a child
pub all_used : (ms : List Made) (cs : List Choice) (c : Choice) → unused ms cs ≡ None → In c cs → (n : ℕ) × (child_of ms c ≡ Some n)
all_used ms [] c u h = absurd h
all_used ms (d ∷ ds) c u h = go (all_used ms ds c) (child_of ms d) refl u h
  where
    go : (unused ms ds ≡ None → In c ds → (n : ℕ) × (child_of ms c ≡ Some n)) → (o : Option ℕ) → child_of ms d ≡ o
        → ◌≡◌ {A = Option Choice} (elim o [ None ↦ Some d | Some n ↦ unused ms ds ]) None → In c (d ∷ ds) → (n : ℕ) × (child_of ms c ≡ Some n)
    go ih None p q k = absurd (Some≢None (Some d) d refl q)
    go ih (Some n) p q (inl e) = (n, ap (child_of ms) (sym e) ∙ p)
    go ih (Some n) p q (inr k) = ih q k

-- the choice that is found is one of them, and was not taken
pub unused_is : (ms : List Made) (cs : List Choice) (c : Choice) → unused ms cs ≡ Some c → In c cs × (child_of ms c ≡ None)
unused_is ms [] c q = absurd (Some≢None None c q refl)
unused_is ms (b ∷ cs) c q = go (child_of ms b) refl q (unused_is ms cs c)
  where
    go : (o : Option ℕ) → child_of ms b ≡ o → elim o [ None ↦ Some b | Some n ↦ unused ms cs ] ≡ Some c
        → (unused ms cs ≡ Some c → In c cs × (child_of ms c ≡ None)) → In c (b ∷ cs) × (child_of ms c ≡ None)
    go None p e ih = let z : b ≡ c = same_inside (Some b) b c refl e in (inl z, subst (λ (d : Choice). child_of ms d ≡ None) z p)
    go (Some n) p e ih = let r = ih e in (inr r.0, r.1)

same_option_is : (a b : Option ℕ) → same_option a b ≡ true → a ≡ b
same_option_is (Some a) (Some b) h = ap Some (eqb-true a b h)
same_option_is (Some a) None h = absurd (false≢true h)
same_option_is None (Some b) h = absurd (false≢true h)
same_option_is None None h = refl

same_choice_is : (c d : Choice) → same_choice c d ≡ true → c ≡ d
same_choice_is c d h =
    let p = and_parts (eqb c.rule d.rule && eqb c.parent d.parent) (same_option c.second d.second) h in
    let q = and_parts (eqb c.rule d.rule) (eqb c.parent d.parent) p.0 in
    let a : c.rule ≡ d.rule = eqb-true c.rule d.rule q.0 in
    let b : c.parent ≡ d.parent = eqb-true c.parent d.parent q.1 in
    let s : c.second ≡ d.second = same_option_is c.second d.second p.1 in
    λ i. record { rule = a i; parent = b i; second = s i }

-- one choice more is taken: a child is one that there was, or the new one
pub child_push : (ms : List Made) (m : Made) (c : Choice) (n : ℕ) → child_of (ms ++ m ∷ []) c ≡ Some n
    → (child_of ms c ≡ Some n) ⊎ ((m.choice ≡ c) × (m.child ≡ n))
child_push [] m c n h = go (same_choice m.choice c) refl h
  where
    go : (b : Bool) → same_choice m.choice c ≡ b → cond b (Some m.child) None ≡ Some n → (None ≡ Some n) ⊎ ((m.choice ≡ c) × (m.child ≡ n))
    go true p q = inr (same_choice_is m.choice c p, same_inside (Some n) m.child n (sym q) refl)
    go false p q = inl q
child_push (l ∷ ls) m c n h = go (child_push ls m c n) (same_choice l.choice c) h
  where
    go : (child_of (ls ++ m ∷ []) c ≡ Some n → (child_of ls c ≡ Some n) ⊎ ((m.choice ≡ c) × (m.child ≡ n)))
        → (b : Bool) → cond b (Some l.child) (child_of (ls ++ m ∷ []) c) ≡ Some n
        → (cond b (Some l.child) (child_of ls c) ≡ Some n) ⊎ ((m.choice ≡ c) × (m.child ≡ n))
    go ih true q = inl q
    go ih false q = ih q

-- a choice that was taken has a child
same_itself : (c : Choice) → same_choice c c ≡ true
same_itself c = and_from _ _ (and_from _ _ (eq-eqb c.rule c.rule refl) (eq-eqb c.parent c.parent refl)) (same c.second)
  where
    same : (o : Option ℕ) → same_option o o ≡ true
    same (Some a) = eq-eqb a a refl
    same None = refl

abbrev pub taken : List Made → List Choice
taken ms = map (λ m. m.choice) ms

pub taken_child : (ms : List Made) (c : Choice) → In c (taken ms) → is_some (child_of ms c) ≡ true
taken_child [] c i = absurd i
taken_child (m ∷ ms) c (inl e) =
    ap is_some (cond-true (same_choice m.choice c) (Some m.child) (child_of ms c) (subst (λ (d : Choice). same_choice m.choice d ≡ true) e (same_itself m.choice)))
taken_child (m ∷ ms) c (inr i) =
    cond_both (same_choice m.choice c) (Some m.child) (child_of ms c) (λ o. is_some o ≡ true) (λ _. refl) (λ _. taken_child ms c i)

-- what is possible stays so with one entity more
second_push : (es : List Entity) (f : Entity) (p : Option Part) (b : Option ℕ) → SecondFits es p b → SecondFits (es ++ f ∷ []) p b
second_push es f (Some p) (Some b) h = push_old es f b p.kind h
second_push es f (Some p) None h = h
second_push es f None (Some b) h = h
second_push es f None None h = h

pub possible_push : (rs : List Rule) (es : List Entity) (f : Entity) (c : Choice) → Possible rs es c → Possible rs (es ++ f ∷ []) c
possible_push rs es f c q = record {
  by = q.by;
  is = q.is;
  parent = push_old es f c.parent q.by.first.kind q.parent;
  other = second_push es f q.by.second c.second q.other;
}
