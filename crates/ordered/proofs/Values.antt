-- What is found under each key once entries were kept, put or taken out.
use Rattle.std.proofs.Common.{◌≡◌, Bool, true, cond, List, [], ◌∷◌, ◌++◌, Some, None, Option, refl, ap, ◌∙◌, arith}
use Rattle.std.specs.Cmp.{IsTotalOrder}
use Rattle.std.specs.declared.cmp.Ordering.TheVariants.{Equal}
use Rattle.std.specs.Ordering.{is_lt}
use Rattle.std.proofs.lemmas.Cmp.{alike_right, tied_back}
use Rattle.std.proofs.lemmas.Grind.{common_steps}
use Rattle.ordered.specs.declared.entry.Entry.{Entry}
use Rattle.ordered.specs.Entries.{Order, before, same_key, value_of, entries_before, entries_after, put, take_out, keep}
use Rattle.ordered.proofs.Orders.{cases_Ordering, greater, less, is_equal}

-- the first of two, or else the second
abbrev first_of : {V : Type 0} → Option V → Option V → Option V
first_of (Some v) o = Some v
first_of None o = o

first_none : {V : Type 0} (o : Option V) → first_of o None ≡ o
first_none (Some v) = refl
first_none None = refl

module _ {K V : Type 0} {cmp : Order K} (o : IsTotalOrder cmp) where
  value_append : (xs ys : List (Entry K V)) (q : K) → value_of cmp (xs ++ ys) q ≡ first_of (value_of cmp xs q) (value_of cmp ys q)
  value_append [] ys q = refl
  value_append (x ∷ xs) ys q = grind (arith, common_steps, value_append xs ys q)

  -- a key that stays keeps its value, and one that does not is gone, by a test that keys which are the same pass or fail alike
  pub value_keep : (stays : K → Bool) → ((j k : K) → cmp j k ≡ Equal → stays j ≡ stays k) → (es : List (Entry K V)) (q : K) → value_of cmp (keep stays es) q ≡ cond (stays q) (value_of cmp es q) None
  value_keep stays alike [] q = grind (arith, common_steps)
  value_keep stays alike (e ∷ es) q = grind (arith, common_steps, value_keep stays alike es q, λ (t : same_key cmp e.key q ≡ true). alike e.key q (is_equal _ t))

  -- what is found before a key and after it
  module _ (es : List (Entry K V)) (k q : K) where
    abbrev front : Option V
    front = value_of cmp (entries_before cmp es k) q

    abbrev behind : Option V
    behind = value_of cmp (entries_after cmp es k) q

    front_is : front ≡ cond (before cmp q k) (value_of cmp es q) None
    front_is = value_keep (λ j. before cmp j k) (λ i j h. ap is_lt (o.congr i j k h)) es q

    behind_is : behind ≡ cond (before cmp k q) (value_of cmp es q) None
    behind_is = value_keep (λ j. before cmp k j) (λ i j h. ap is_lt (alike_right o i j k h)) es q

    -- at a key after k, at k itself, and at a key before k
    parts : (middle : Option V) → first_of front (cond (same_key cmp k q) middle behind) ≡ cond (same_key cmp k q) middle (value_of cmp es q)
    parts middle = grind (arith, common_steps, front_is, behind_is, cases_Ordering (cmp k q), greater o k q, less o k q, tied_back o k q, first_none (value_of cmp es q))

    pub value_put : (v : V) → value_of cmp (put cmp es k v) q ≡ cond (same_key cmp k q) (Some v) (value_of cmp es q)
    value_put v = value_append (entries_before cmp es k) (record { key = k; value = v } ∷ entries_after cmp es k) q ∙ parts (Some v)

    nothing : behind ≡ cond (same_key cmp k q) None behind
    nothing = grind (arith, common_steps, behind_is, cases_Ordering (cmp k q))

    pub value_out : value_of cmp (take_out cmp es k) q ≡ cond (same_key cmp k q) None (value_of cmp es q)
    value_out = value_append (entries_before cmp es k) (entries_after cmp es k) q ∙ ap (first_of front) nothing ∙ parts None
