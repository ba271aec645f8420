-- The scheme of a file that passes the check is well formed.
use Rattle.std.specs.Prelude.{◌≡◌, ℕ, zero, suc, ◌+◌, ◌^◌, ◌<◌, ◌≤◌, Bool, true, false, cond, ◌&&◌, ◌||◌, List, [], ◌∷◌, ◌++◌, is_some, Some, None, Option, ◌==◌, nat_lt, refl}
use Rattle.std.proofs.Common.{inl, inr, sym, ap, subst, ◌∙◌, arith}
use Rattle.std.specs.Int.Bits.{bit_or}
use Rattle.std.specs.Option.{option_map, option_to_list}
use Rattle.std.proofs.lemmas.Nat.{pow_pos}
use Rattle.std.proofs.lemmas.Bool.{eqb-true, eq-eqb, ltb-true, lt-ltb, and_parts, and_from, or_cases, or_left, both_ways, cases_Bool}
use Rattle.model.specs.declared.rules.Sight.{Sight}
use Rattle.model.specs.Tickets.{bit, none as nothing}
use Rattle.model.specs.Scheme.{Scheme, Rule as Creation, Among, SeesMore, Monotone, WellFormed}
use Rattle.model.proofs.Bits.{bit_zero, bit-bit_or, bit_pow, bit_within, same_bits}
use Rattle.scheme.specs.Lawful.{proper_test, table_test, part_test, second_test, child_test, rules_test, looked_up_proper, child_by, first_by, second_by}
use Rattle.model.specs.declared.tickets.StoredSet.{StoredSet}
use Rattle.scheme_records.specs.declared.record.ParentSets.{ParentSets}
use Rattle.scheme_records.specs.declared.record.RuleKey.{RuleKey}
use Rattle.scheme_records.specs.declared.record.RuleSets.{RuleSets}
use Rattle.scheme_records.specs.declared.record.Record.{Record}
use Rattle.scheme_records.specs.declared.record.Record.TheVariants.{Kind, Right, Alternative, Filter, Demand, Rule}
use Rattle.std.specs.List.{list_any as any}
use Rattle.scheme_records.specs.Listed.{records, all_places}
use Rattle.scheme_records.specs.Said.{said, tagged, subject_kind, control_right, of_link, within, present, filter_for, demand_for, set_said, set_of, part_said, creation, rule_of, rules_of, mask_of, above, links_of, control_of}
use Rattle.scheme_records.proofs.Listing.{any_more, any_weaker, count_more}
use Rattle.scheme_file.specs.Checks.{set_fits, sets_fit, is_empty, second_fits, nested, fault_of}
use Rattle.scheme_file.specs.Sound.{Passes, Sound, none, more, file_sound}
use Rattle.scheme_file.specs.Growing.{and_map, grows_more, proper_grows, rules_grow, table_grows, rules_join, table_join, rules_more}
use Rattle.scheme_file.specs.Distinct.{rules_distinct}

-- types and rights: at most 16, and numbered without gaps
kinds_next : (rs : List Record) (r : Record) → Passes rs r → (said rs).kinds ≤ 16 → (said rs).kinds + cond (tagged 1 r) 1 0 ≤ 16
kinds_next rs (Kind n s) p h = let e = and_parts (nat_lt n 16) (n == (said rs).kinds) p.fields in omega (arith, ltb-true n 16 e.0, eqb-true n (said rs).kinds e.1)
kinds_next rs (Right n c) p h = omega arith
kinds_next rs (Alternative l m) p h = omega arith
kinds_next rs (Filter q s) p h = omega arith
kinds_next rs (Demand q s) p h = omega arith
kinds_next rs (Rule q s) p h = omega arith

rights_next : (rs : List Record) (r : Record) → Passes rs r → (said rs).rights ≤ 16 → (said rs).rights + cond (tagged 2 r) 1 0 ≤ 16
rights_next rs (Kind n s) p h = omega arith
rights_next rs (Right n c) p h = let e = and_parts (nat_lt n 16) (n == (said rs).rights) p.fields in omega (arith, ltb-true n 16 e.0, eqb-true n (said rs).rights e.1)
rights_next rs (Alternative l m) p h = omega arith
rights_next rs (Filter q s) p h = omega arith
rights_next rs (Demand q s) p h = omega arith
rights_next rs (Rule q s) p h = omega arith

pub few_kinds : (rs : List Record) → Sound rs → (said rs).kinds ≤ 16
few_kinds _ none = omega arith
few_kinds _ (more rs r s p) = omega (arith, count_more (tagged 1) rs r, kinds_next rs r p (few_kinds rs s))

pub few_rights : (rs : List Record) → Sound rs → (said rs).rights ≤ 16
few_rights _ none = omega arith
few_rights _ (more rs r s p) = omega (arith, count_more (tagged 2) rs r, rights_next rs r p (few_rights rs s))

subject_next : (rs : List Record) (r : Record) (k : ℕ) → Passes rs r → subject_kind k r ≡ true → k < (said rs).kinds + cond (tagged 1 r) 1 0
subject_next rs (Kind n s) k p h =
    let e = and_parts (nat_lt n 16) (n == (said rs).kinds) p.fields in
    omega (arith, eqb-true n (said rs).kinds e.1, eqb-true n k (and_parts (n == k) s h).0)
subject_next rs (Right n c) k p h = absurd (both_ways false refl h)
subject_next rs (Alternative l m) k p h = absurd (both_ways false refl h)
subject_next rs (Filter q s) k p h = absurd (both_ways false refl h)
subject_next rs (Demand q s) k p h = absurd (both_ways false refl h)
subject_next rs (Rule q s) k p h = absurd (both_ways false refl h)

subject_known : (rs : List Record) → Sound rs → (k : ℕ) → (said rs).subject k ≡ true → k < (said rs).kinds
subject_known _ none k h = absurd (both_ways false refl h)
subject_known _ (more rs r s p) k h = elim (or_cases (any (subject_kind k) rs) (subject_kind k r) (sym (any_more (subject_kind k) rs r) ∙ h)) [
  | inl e ↦ omega (arith, count_more (tagged 1) rs r, subject_known rs s k e)
  | inr e ↦ omega (arith, count_more (tagged 1) rs r, subject_next rs r k p e)
]

control_next : (rs : List Record) (r : Record) (x : ℕ) → Passes rs r → control_right x r ≡ true → x < (said rs).rights + cond (tagged 2 r) 1 0
control_next rs (Kind n s) x p h = absurd (both_ways false refl h)
control_next rs (Right n c) x p h =
    let e = and_parts (nat_lt n 16) (n == (said rs).rights) p.fields in
    omega (arith, eqb-true n (said rs).rights e.1, eqb-true n x (and_parts (n == x) c h).0)
control_next rs (Alternative l m) x p h = absurd (both_ways false refl h)
control_next rs (Filter q s) x p h = absurd (both_ways false refl h)
control_next rs (Demand q s) x p h = absurd (both_ways false refl h)
control_next rs (Rule q s) x p h = absurd (both_ways false refl h)

right_known : (rs : List Record) → Sound rs → (x : ℕ) → any (control_right x) rs ≡ true → x < (said rs).rights
right_known _ none x h = absurd (both_ways false refl h)
right_known _ (more rs r s p) x h = elim (or_cases (any (control_right x) rs) (control_right x r) (sym (any_more (control_right x) rs r) ∙ h)) [
  | inl e ↦ omega (arith, count_more (tagged 2) rs r, right_known rs s x e)
  | inr e ↦ omega (arith, count_more (tagged 2) rs r, control_next rs r x p e)
]

-- a right in a mask of rights that pass a test passes it
in_mask : (p : ℕ → Bool) (n x : ℕ) → bit x (mask_of p n) ≡ true → p x ≡ true
in_mask p zero x h = absurd (both_ways (bit x 0) (bit_zero x) h)
in_mask p (suc n) x h = go (p n) refl (in_mask p n x) h
  where
    go : (t : Bool) → p n ≡ t → (bit x (mask_of p n) ≡ true → p x ≡ true) → bit x (cond t (bit_or (mask_of p n) (2 ^ n)) (mask_of p n)) ≡ true → p x ≡ true
    go true e f k = elim (or_cases (bit x (mask_of p n)) (bit x (2 ^ n)) (sym (bit-bit_or x (mask_of p n) (2 ^ n)) ∙ k)) [
      | inl a ↦ f a
      | inr a ↦ ap p (eqb-true x n (sym (bit_pow x n) ∙ a)) ∙ e
    ]
    go false e f k = f k

above_below : (p : ℕ → Bool) (n : ℕ) → above p n ≤ n
above_below p zero = omega arith
above_below p (suc n) = go (p n) (above_below p n)
  where
    go : (t : Bool) → above p n ≤ n → cond t (suc n) (above p n) ≤ suc n
    go true h = omega arith
    go false h = omega arith

-- an alternative stays present where more is seen
or_false : (b : Bool) → (b || false) ≡ b
or_false true = refl
or_false false = refl

within_more : (m s t : ℕ) → Among s t → within m s ≡ true → within m t ≡ true
within_more m s t f h = eq-eqb (bit_or t m) t (same_bits (bit_or t m) t (λ x. bit-bit_or x t m ∙ elim (cases_Bool (bit x m)) [
  | inl on ↦
      let seen = f x (bit_within s m x (eqb-true (bit_or s m) s h) on) in
      or_left (bit x t) (bit x m) seen ∙ sym seen
  | inr off ↦ ap (λ (b : Bool). bit x t || b) off ∙ or_false (bit x t)
]))

present_more : (i : ℕ) (s t : Sight) → SeesMore s t → (r : Record) → present i s r ≡ true → present i t r ≡ true
present_more i s t f (Kind n u) h = h
present_more i s t f (Right n c) h = h
present_more i s t f (Alternative l m) h =
    and_map (λ e. e)
    (and_map (within_more m.xx s.xx t.xx f.xx)
    (and_map (within_more m.xy s.xy t.xy f.xy)
    (and_map (within_more m.yx s.yx t.yx f.yx) (within_more m.yy s.yy t.yy f.yy)))) h
present_more i s t f (Filter q v) h = h
present_more i s t f (Demand q u) h = h
present_more i s t f (Rule q u) h = h

links_monotone : (rs : List Record) → Monotone (said rs)
links_monotone rs i s t f h = any_weaker (present i s) (present i t) (present_more i s t f) rs h

-- ticket sets are proper
proper_nothing : (S : Scheme) → proper_test S nothing ≡ true
proper_nothing S = and_from (nat_lt 0 (2 ^ S.rights)) _ (lt-ltb 0 (2 ^ S.rights) (pow_pos S.rights)) refl

proper_stored : (S : Scheme) (s : StoredSet) → set_fits S s ≡ true → nested s ≡ true → proper_test S (set_said s) ≡ true
proper_stored S s f n = and_from _ _ (and_parts (nat_lt s.plain (2 ^ S.rights)) (nat_lt s.copyable (2 ^ S.rights)) f).0 n

set_proper : (rs : List Record) (r : Record) → Passes rs r → proper_test (said rs) (set_of r) ≡ true
set_proper rs (Kind n s) p = proper_nothing (said rs)
set_proper rs (Right n c) p = proper_nothing (said rs)
set_proper rs (Alternative l m) p = proper_nothing (said rs)
set_proper rs (Filter q s) p =
    let a = and_parts (any (of_link q.link) rs) _ p.fields in
    let b = and_parts ((said rs).subject q.giver) _ a.1 in
    let c = and_parts ((said rs).subject q.taker) _ b.1 in
    let d = and_parts (nat_lt q.target (said rs).kinds) (set_fits (said rs) s) c.1 in
    proper_stored (said rs) s d.1 p.copies
set_proper rs (Demand q s) p =
    let a = and_parts ((said rs).subject q.demander) _ p.fields in
    let b = and_parts (nat_lt q.target (said rs).kinds) (set_fits (said rs) s) a.1 in
    proper_stored (said rs) s b.1 p.copies
set_proper rs (Rule q s) p = proper_nothing (said rs)

sets_proper : (rs : List Record) → Sound rs → table_test (said rs) set_of rs ≡ true
sets_proper _ none = refl
sets_proper _ (more rs r s p) =
    let g = grows_more rs r in
    table_join (said (rs ++ r ∷ [])) set_of rs (r ∷ []) (table_grows (said rs) (said (rs ++ r ∷ [])) g set_of rs (sets_proper rs s))
    (and_from _ true (proper_grows (said rs) (said (rs ++ r ∷ [])) g (set_of r) (set_proper rs r p)) refl)

-- rules are proper
module _ (rs : List Record) (sound : Sound rs) where
  part_proper : (k c : ℕ) (s : ParentSets) → (said rs).subject k ≡ true
      → proper_test (said rs) (set_said s.for_child) ≡ true → proper_test (said rs) (set_said s.for_self) ≡ true → proper_test (said rs) (set_said s.to_child) ≡ true
      → ((said rs).subject c || is_empty s.to_child) ≡ true → part_test (said rs) (part_said k s) c ≡ true
  part_proper k c s j x y z w =
      and_from (nat_lt k (said rs).kinds) _ (lt-ltb k (said rs).kinds (subject_known rs sound k j))
      (and_from ((said rs).subject k) _ j (and_from _ _ x (and_from _ _ y (and_from _ _ z w))))

  second_proper : (q : Option ℕ) (c : ℕ) (u : RuleSets) → second_fits (said rs) q u ≡ true
      → proper_test (said rs) (set_said u.second.for_child) ≡ true → proper_test (said rs) (set_said u.second.for_self) ≡ true
      → proper_test (said rs) (set_said u.second.to_child) ≡ true
      → ((said rs).subject c || is_empty u.second.to_child) ≡ true → second_test (said rs) (option_map (λ k. part_said k u.second) q) c ≡ true
  second_proper (Some k) c u j x y z w = part_proper k c u.second j x y z w
  second_proper None c u j x y z w = refl

  -- of three sets that are empty together, each is empty
  or_first : (a x y z : Bool) → (a || (x && (y && (z && true)))) ≡ true → (a || x) ≡ true
  or_first true x y z h = refl
  or_first false x y z h = (and_parts x _ h).0

  or_second : (a x y z : Bool) → (a || (x && (y && (z && true)))) ≡ true → (a || y) ≡ true
  or_second true x y z h = refl
  or_second false x y z h = (and_parts y _ (and_parts x _ h).1).0

  or_third : (a x y z : Bool) → (a || (x && (y && (z && true)))) ≡ true → (a || z) ≡ true
  or_third true x y z h = refl
  or_third false x y z h = (and_parts z true (and_parts y _ (and_parts x _ h).1).1).0

  rule_proper : (q : RuleKey) (u : RuleSets) → Passes rs (Rule q u) → rules_test (said rs) (option_to_list (rule_of (Rule q u))) ≡ true
  rule_proper q u t =
      let S = said rs in
      let f0 = and_parts (S.subject q.first) _ t.fields in
      let f1 = and_parts (second_fits S q.second u) _ f0.1 in
      let f2 = and_parts (nat_lt q.child S.kinds) (sets_fit S u) f1.1 in
      let c1 = and_parts (set_fits S u.first.for_child) _ f2.1 in
      let c2 = and_parts (set_fits S u.second.for_child) _ c1.1 in
      let s1 = and_parts (set_fits S u.first.for_self) _ c2.1 in
      let s2 = and_parts (set_fits S u.second.for_self) _ s1.1 in
      let h = and_parts (set_fits S u.own) _ s2.1 in
      let g1 = and_parts (set_fits S u.first.to_child) _ h.1 in
      let g2 = and_parts (set_fits S u.second.to_child) true g1.1 in
      let n1 = and_parts (nested u.first.for_child) _ t.copies in
      let n2 = and_parts (nested u.second.for_child) _ n1.1 in
      let n3 = and_parts (nested u.first.for_self) _ n2.1 in
      let n4 = and_parts (nested u.second.for_self) _ n3.1 in
      let n5 = and_parts (nested u.own) _ n4.1 in
      let n6 = and_parts (nested u.first.to_child) _ n5.1 in
      let n7 = and_parts (nested u.second.to_child) true n6.1 in
      let own = or_first (S.subject q.child) (is_empty u.own) (is_empty u.first.to_child) (is_empty u.second.to_child) t.gifts in
      let to1 = or_second (S.subject q.child) (is_empty u.own) (is_empty u.first.to_child) (is_empty u.second.to_child) t.gifts in
      let to2 = or_third (S.subject q.child) (is_empty u.own) (is_empty u.first.to_child) (is_empty u.second.to_child) t.gifts in
      and_from (child_test S (creation q u)) _ (and_from (nat_lt q.child S.kinds) _ f2.0 (and_from _ _ (proper_stored S u.own h.0 n5.0) own))
      (and_from (part_test S _ q.child) _
      (part_proper q.first q.child u.first f0.0 (proper_stored S u.first.for_child c1.0 n1.0) (proper_stored S u.first.for_self s1.0 n3.0)
      (proper_stored S u.first.to_child g1.0 n6.0) to1)
      (and_from (second_test S _ q.child) true
      (second_proper q.second q.child u f1.0 (proper_stored S u.second.for_child c2.0 n2.0) (proper_stored S u.second.for_self s2.0 n4.0)
      (proper_stored S u.second.to_child g2.0 n7.0) to2) refl))

  last_proper : (r : Record) → Passes rs r → rules_test (said rs) (option_to_list (rule_of r)) ≡ true
  last_proper (Kind n u) t = refl
  last_proper (Right n c) t = refl
  last_proper (Alternative l m) t = refl
  last_proper (Filter q v) t = refl
  last_proper (Demand q u) t = refl
  last_proper (Rule q u) t = rule_proper q u t

rules_proper : (rs : List Record) → Sound rs → rules_test (said rs) (rules_of rs) ≡ true
rules_proper _ none = refl
rules_proper _ (more rs r s p) =
    let T = said (rs ++ r ∷ []) in
    let g = grows_more rs r in
    subst (λ (qs : List Creation). rules_test T qs ≡ true) (sym (rules_more rs r))
    (rules_join T (rules_of rs) (option_to_list (rule_of r)) (rules_grow (said rs) T g (rules_of rs) (rules_proper rs s))
    (rules_grow (said rs) T g (option_to_list (rule_of r)) (last_proper rs s r p)))

few_links : (rs : List Record) → (said rs).links ≤ 8
unfolding links_of
few_links rs = above_below (λ i. any (of_link i) rs) 8

control_known : (rs : List Record) → Sound rs → (x : ℕ) → bit x (said rs).control ≡ true → x < (said rs).rights
unfolding control_of
control_known rs s x h = right_known rs s x (in_mask (λ y. any (control_right y) rs) 16 x h)

pub sound_well_formed : (rs : List Record) → Sound rs → WellFormed (said rs)
sound_well_formed rs s = record {
  few_kinds = few_kinds rs s;
  few_rights = few_rights rs s;
  few_links = few_links rs;
  control_known = control_known rs s;
  monotone = links_monotone rs;
  filters = λ i a b y. looked_up_proper (said rs) (filter_for i a b y) set_of rs (sets_proper rs s);
  demands = λ b y. looked_up_proper (said rs) (demand_for b y) set_of rs (sets_proper rs s);
  children = child_by (said rs) (rules_proper rs s);
  firsts = first_by (said rs) (rules_proper rs s);
  seconds = λ i q p e o. second_by (said rs) (rules_proper rs s) i q e p o;
  distinct = rules_distinct rs s;
}

-- the scheme that a file says
abbrev pub file_scheme : List ℕ → Scheme
file_scheme file = said (records file (all_places file))

pub file_well_formed : (file : List ℕ) → is_some (fault_of file) ≡ false → WellFormed (file_scheme file)
file_well_formed file h = sound_well_formed (records file (all_places file)) (file_sound file h)
