-- Rising lists of keys: a key divides them into what is before it, its own entry, and what is after it; and they stay rising.
use Rattle.std.proofs.Common.{◌≡◌, Bool, true, ◌⊎◌, List, [], ◌∷◌, ◌++◌, Some, None, filter, sym, refl, ap, ◌∙◌, subst, ap₂, inl, inr, arith}
use Rattle.std.specs.List.{All}
use Rattle.std.specs.Cmp.{IsTotalOrder}
use Rattle.std.specs.declared.cmp.Ordering.{Ordering}
use Rattle.std.specs.declared.cmp.Ordering.TheVariants.{Less, Equal, Greater}
use Rattle.std.specs.Ordering.{ordering_reverse, is_lt, is_eq}
use Rattle.std.proofs.lemmas.Cmp.{tied_back}
use Rattle.std.proofs.lemmas.List.Elements.{All-cons, All-head, All-tail, All-append, All-weaker, All-filter, filter_passes}
use Rattle.std.proofs.lemmas.Grind.{common_steps}
use Rattle.std.proofs.lemmas.Bool.{cases_Bool, cond-true, cond-false}
use Rattle.ordered.specs.declared.entry.Entry.{Entry}
use Rattle.ordered.specs.Entries.{Order, before, Rising, value_of, entries_before, entries_after, put, take_out}

-- the three ways in which two keys compare
pub cases_Ordering : (r : Ordering) → (r ≡ Less) ⊎ ((r ≡ Equal) ⊎ (r ≡ Greater))
cases_Ordering Less = inl refl
cases_Ordering Equal = inr (inl refl)
cases_Ordering Greater = inr (inr refl)

is_less : (r : Ordering) → is_lt r ≡ true → r ≡ Less
is_less r e = grind (arith, common_steps, cases_Ordering r)

pub is_equal : (r : Ordering) → is_eq r ≡ true → r ≡ Equal
is_equal r e = grind (arith, common_steps, cases_Ordering r)

-- what stays of a rising list rises, and so does a list before another
module _ {K V : Type 0} (cmp : Order K) where
  pub rising_kept : (p : Entry K V → Bool) (es : List (Entry K V)) → Rising cmp es → Rising cmp (filter p es)
  rising_kept p [] r = tt
  rising_kept p (e ∷ es) r = elim (cases_Bool (p e)) [
    | inl t ↦
        subst (Rising cmp) (sym (cond-true (p e) (e ∷ filter p es) (filter p es) t)) (All-filter p (λ (f : Entry K V). cmp e.key f.key ≡ Less) es r.0, rising_kept p es r.1)
    | inr f ↦ subst (Rising cmp) (sym (cond-false (p e) (e ∷ filter p es) (filter p es) f)) (rising_kept p es r.1)
  ]

  rising_append : (xs ys : List (Entry K V)) → Rising cmp xs → Rising cmp ys → All (λ x. All (λ y. cmp x.key y.key ≡ Less) ys) xs → Rising cmp (xs ++ ys)
  rising_append [] ys r s a = s
  rising_append (x ∷ xs) ys r s a = (
    All-append (λ (y : Entry K V). cmp x.key y.key ≡ Less) xs ys r.0 (All-head (λ (z : Entry K V). All (λ (y : Entry K V). cmp z.key y.key ≡ Less) ys) x xs a),
    rising_append xs ys r.1 s (All-tail (λ (z : Entry K V). All (λ (y : Entry K V). cmp z.key y.key ≡ Less) ys) x xs a),
  )

module _ {K : Type 0} {cmp : Order K} (o : IsTotalOrder cmp) where
  pub greater : (j k : K) → cmp j k ≡ Less → cmp k j ≡ Greater
  greater j k h = o.antisymm k j ∙ ap ordering_reverse h

  pub less : (j k : K) → cmp j k ≡ Greater → cmp k j ≡ Less
  less j k h = o.antisymm k j ∙ ap ordering_reverse h

  module _ {V : Type 0} where
    abbrev pub After : K → List (Entry K V) → Type 0
    After k es = All (λ e. cmp k e.key ≡ Less) es

    -- what all keys after k come after, where k does
    pub after_all : (j k : K) (es : List (Entry K V)) → cmp j k ≡ Less → After k es → After j es
    after_all j k es h a = All-weaker (λ (e : Entry K V). cmp k e.key ≡ Less) (λ (e : Entry K V). cmp j e.key ≡ Less) (λ e q. o.trans j k e.key h q) es a

    module _ (es : List (Entry K V)) (k : K) where
      befores : All (λ e. cmp e.key k ≡ Less) (entries_before cmp es k)
      befores =
          All-weaker (λ (e : Entry K V). before cmp e.key k ≡ true) (λ (e : Entry K V). cmp e.key k ≡ Less) (λ e h. is_less _ h) (entries_before cmp es k)
          (filter_passes (λ (e : Entry K V). before cmp e.key k) es)

      afters : After k (entries_after cmp es k)
      afters =
          All-weaker (λ (e : Entry K V). before cmp k e.key ≡ true) (λ (e : Entry K V). cmp k e.key ≡ Less) (λ e h. is_less _ h) (entries_after cmp es k)
          (filter_passes (λ (e : Entry K V). before cmp k e.key) es)

      -- whatever is before k is before k's entry and whatever is after it
      across : (ys : List (Entry K V)) → ((x : Entry K V) → cmp x.key k ≡ Less → After x.key ys) → All (λ x. After x.key ys) (entries_before cmp es k)
      across ys f = All-weaker (λ (x : Entry K V). cmp x.key k ≡ Less) (λ (x : Entry K V). After x.key ys) f (entries_before cmp es k) befores

      pub rising_out : Rising cmp es → Rising cmp (take_out cmp es k)
      rising_out r =
          rising_append cmp (entries_before cmp es k) (entries_after cmp es k) (rising_kept cmp (λ e. before cmp e.key k) es r) (rising_kept cmp (λ e. before cmp k e.key) es r)
          (across (entries_after cmp es k) (λ x h. after_all x.key k (entries_after cmp es k) h afters))

      pub rising_put : (v : V) → Rising cmp es → Rising cmp (put cmp es k v)
      rising_put v r =
          let new : Entry K V = record { key = k; value = v } in
          rising_append cmp (entries_before cmp es k) (new ∷ entries_after cmp es k) (rising_kept cmp (λ e. before cmp e.key k) es r)
          (afters, rising_kept cmp (λ e. before cmp k e.key) es r)
          (across (new ∷ entries_after cmp es k) (λ x h. All-cons (λ (e : Entry K V). cmp x.key e.key ≡ Less) new (entries_after cmp es k) h (after_all x.key k (entries_after cmp es k) h afters)))

    -- where every key comes after k, all of it is after k and nothing before
    pub none_before : (es : List (Entry K V)) (k : K) → After k es → entries_before cmp es k ≡ []
    none_before [] k a = refl
    none_before (e ∷ es) k a =
        cond-false _ _ _ (ap is_lt (greater k e.key (All-head (λ (f : Entry K V). cmp k f.key ≡ Less) e es a)))
        ∙ none_before es k (All-tail (λ (f : Entry K V). cmp k f.key ≡ Less) e es a)

    all_after : (es : List (Entry K V)) (k : K) → After k es → entries_after cmp es k ≡ es
    all_after [] k a = refl
    all_after (e ∷ es) k a =
        cond-true _ _ _ (ap is_lt (All-head (λ (f : Entry K V). cmp k f.key ≡ Less) e es a))
        ∙ ap (λ l. e ∷ l) (all_after es k (All-tail (λ (f : Entry K V). cmp k f.key ≡ Less) e es a))

    pub not_there : (es : List (Entry K V)) (k : K) → After k es → value_of cmp es k ≡ None
    not_there [] k a = refl
    not_there (e ∷ es) k a =
        cond-false _ _ _ (ap is_eq (greater k e.key (All-head (λ (f : Entry K V). cmp k f.key ≡ Less) e es a)))
        ∙ not_there es k (All-tail (λ (f : Entry K V). cmp k f.key ≡ Less) e es a)

    -- an entry that comes before k stands in front of the others before k, and k's value is among the rest
    pub front_before : (e : Entry K V) (es : List (Entry K V)) (k : K) → cmp e.key k ≡ Less → entries_before cmp (e ∷ es) k ≡ e ∷ entries_before cmp es k
    front_before e es k h = cond-true _ _ _ (ap is_lt h)

    pub value_behind : (e : Entry K V) (es : List (Entry K V)) (k : K) → cmp e.key k ≡ Less → value_of cmp (e ∷ es) k ≡ value_of cmp es k
    value_behind e es k h = cond-false _ _ _ (ap is_eq h)

    -- keys that come after one come after another that is the same
    pub after_same : (j k : K) (es : List (Entry K V)) → cmp j k ≡ Equal → After j es → After k es
    after_same j k es h a = All-weaker (λ (f : Entry K V). cmp j f.key ≡ Less) (λ (f : Entry K V). cmp k f.key ≡ Less) (λ f q. sym (o.congr j k f.key h) ∙ q) es a

    -- a rising list is what is before k, then k's entry where it is there, then what is after k
    pub record Own (es : List (Entry K V)) (k : K) : Type 0 where
      pub entry : Entry K V
      pub same : cmp entry.key k ≡ Equal
      pub value_is : value_of cmp es k ≡ Some entry.value
      pub parts : es ≡ entries_before cmp es k ++ entry ∷ entries_after cmp es k

    pub divided : (es : List (Entry K V)) (k : K) → Rising cmp es → ((value_of cmp es k ≡ None) × (es ≡ take_out cmp es k)) ⊎ Own es k
    divided [] k r = inl (refl, refl)
    divided (e ∷ es) k r = elim (cases_Ordering (cmp e.key k)) [
      | inl h ↦
          let front : entries_before cmp (e ∷ es) k ≡ e ∷ entries_before cmp es k = front_before e es k h in
          let behind : entries_after cmp (e ∷ es) k ≡ entries_after cmp es k = cond-false _ _ _ (ap is_lt (greater e.key k h)) in
          elim (divided es k r.1) [
            | inl d ↦ inl (value_behind e es k h ∙ d.0, ap (λ l. e ∷ l) d.1 ∙ sym (ap₂ ◌++◌ front behind))
            | inr d ↦
                inr record { entry = d.entry; same = d.same; value_is = value_behind e es k h ∙ d.value_is; parts = ap (λ l. e ∷ l) d.parts ∙ sym (ap₂ (λ p q. p ++ d.entry ∷ q) front behind) }
          ]
      | inr n ↦ elim n [
        | inl h ↦
            let rest : After k es = after_same e.key k es h r.0 in
            let front : entries_before cmp (e ∷ es) k ≡ [] = cond-false _ _ _ (ap is_lt h) ∙ none_before es k rest in
            let behind : entries_after cmp (e ∷ es) k ≡ es = cond-false _ _ _ (ap is_lt (tied_back o e.key k h)) ∙ all_after es k rest in
            inr record { entry = e; same = h; value_is = cond-true _ _ _ (ap is_eq h); parts = sym (ap₂ (λ p q. p ++ e ∷ q) front behind) }
        | inr h ↦
            let first : cmp k e.key ≡ Less = less e.key k h in
            let all : After k (e ∷ es) = All-cons (λ (f : Entry K V). cmp k f.key ≡ Less) e es first (after_all k e.key es first r.0) in
            inl (not_there (e ∷ es) k all, sym (ap₂ ◌++◌ (none_before (e ∷ es) k all) (all_after (e ∷ es) k all)))
      ]
    ]
