-- One record more: what was declared stays, and tests that show a scheme well formed still pass.
use Rattle.std.specs.Prelude.{◌≡◌, ℕ, ◌^◌, ◌<◌, ◌≤◌, Bool, true, ◌&&◌, ◌||◌, List, [], ◌∷◌, ◌++◌, Some, None, Option, nat_lt}
use Rattle.std.proofs.Common.{append-nil, ap, ◌∙◌, arith, pow_mono}
use Rattle.std.specs.Option.{option_to_list}
use Rattle.std.proofs.lemmas.Bool.{ltb-true, lt-ltb, and_parts, and_from, or_left}
use Rattle.model.specs.Tickets.{Tickets, empty}
use Rattle.model.specs.Scheme.{Scheme, Rule as Creation, Part}
use Rattle.scheme.specs.Lawful.{proper_test, table_test, part_test, second_test, child_test, rules_test, or_more}
use Rattle.scheme_records.specs.declared.record.Record.{Record}
use Rattle.scheme_records.specs.Said.{said, tagged, subject_kind, rule_of, rules_of}
use Rattle.scheme_records.proofs.Listing.{any_more, count_more}
use Rattle.scheme_records.proofs.Saying.{rules_joined}

pub and_map : {a b c d : Bool} → (a ≡ true → c ≡ true) → (b ≡ true → d ≡ true) → (a && b) ≡ true → (c && d) ≡ true
and_map {a} {b} {c} {d} f g h = let p = and_parts a b h in and_from c d (f p.0) (g p.1)

same : {a : Bool} → a ≡ true → a ≡ true
same h = h

-- T declares at least what S declares
pub record Grows (S T : Scheme) : Type 0 where
  pub kinds : S.kinds ≤ T.kinds
  pub rights : S.rights ≤ T.rights
  pub subject : (k : ℕ) → S.subject k ≡ true → T.subject k ≡ true

pub grows_more : (rs : List Record) (r : Record) → Grows (said rs) (said (rs ++ r ∷ []))
grows_more rs r = record {
  kinds = omega (arith, count_more (tagged 1) rs r);
  rights = omega (arith, count_more (tagged 2) rs r);
  subject = λ k h. any_more (subject_kind k) rs r ∙ or_left _ (subject_kind k r) h;
}

module _ (S T : Scheme) (g : Grows S T) where
  kind_grows : (k : ℕ) → nat_lt k S.kinds ≡ true → nat_lt k T.kinds ≡ true
  kind_grows k h = let l : k < S.kinds = ltb-true k S.kinds h in let m : S.kinds ≤ T.kinds = g.kinds in lt-ltb k T.kinds (omega arith)

  mask_grows : (m : ℕ) → nat_lt m (2 ^ S.rights) ≡ true → nat_lt m (2 ^ T.rights) ≡ true
  mask_grows m h =
      let l : m < 2 ^ S.rights = ltb-true m (2 ^ S.rights) h in
      let p : 2 ^ S.rights ≤ 2 ^ T.rights = pow_mono g.rights in
      lt-ltb m (2 ^ T.rights) (omega arith)

  pub proper_grows : (s : Tickets) → proper_test S s ≡ true → proper_test T s ≡ true
  proper_grows s = and_map (mask_grows s.plain) same

  gets_grows : (k : ℕ) (s : Tickets) → (S.subject k || empty s) ≡ true → (T.subject k || empty s) ≡ true
  gets_grows k s = or_more (S.subject k) (empty s) (T.subject k) (empty s) (g.subject k) same

  part_grows : (p : Part) (k : ℕ) → part_test S p k ≡ true → part_test T p k ≡ true
  part_grows p k =
      and_map (kind_grows p.kind)
      (and_map (g.subject p.kind)
      (and_map (proper_grows p.for_child)
      (and_map (proper_grows p.for_self) (and_map (proper_grows p.to_child) (gets_grows k p.to_child)))))

  second_grows : (o : Option Part) (k : ℕ) → second_test S o k ≡ true → second_test T o k ≡ true
  second_grows (Some p) k = part_grows p k
  second_grows None k = same

  child_grows : (r : Creation) → child_test S r ≡ true → child_test T r ≡ true
  child_grows r = and_map (kind_grows r.child) (and_map (proper_grows r.own) (gets_grows r.child r.own))

  pub rules_grow : (rs : List Creation) → rules_test S rs ≡ true → rules_test T rs ≡ true
  rules_grow [] h = h
  rules_grow (r ∷ rs) h =
      and_map (child_grows r) (and_map (part_grows r.first r.child) (and_map (second_grows r.second r.child) (rules_grow rs))) h

  pub table_grows : (value : Record → Tickets) (rs : List Record) → table_test S value rs ≡ true → table_test T value rs ≡ true
  table_grows value [] h = h
  table_grows value (r ∷ rs) h = and_map (proper_grows (value r)) (table_grows value rs) h

-- tests of two lists
pub rules_join : (S : Scheme) (xs ys : List Creation) → rules_test S xs ≡ true → rules_test S ys ≡ true → rules_test S (xs ++ ys) ≡ true
rules_join S [] ys h k = k
rules_join S (x ∷ xs) ys h k =
    and_map {a = child_test S x} same
    (and_map {a = part_test S x.first x.child} same
    (and_map {a = second_test S x.second x.child} same (λ e. rules_join S xs ys e k))) h

pub table_join : (S : Scheme) (value : Record → Tickets) (xs ys : List Record) → table_test S value xs ≡ true → table_test S value ys ≡ true
    → table_test S value (xs ++ ys) ≡ true
table_join S value [] ys h k = k
table_join S value (x ∷ xs) ys h k = and_map {a = proper_test S (value x)} same (λ e. table_join S value xs ys e k) h

pub rules_more : (rs : List Record) (r : Record) → rules_of (rs ++ r ∷ []) ≡ rules_of rs ++ option_to_list (rule_of r)
rules_more rs r = rules_joined rs (r ∷ []) ∙ ap (λ (qs : List Creation). rules_of rs ++ qs) (append-nil (option_to_list (rule_of r)))
