-- Looking for a key in a rising list: what a binary search finds, and what a change at that place leaves.
use Rattle.std.proofs.Common.{◌≡◌, ℕ, zero, suc, ◌+◌, ◌<◌, ◌≤◌, true, false, List, [], ◌∷◌, ◌++◌, length, get_or, take, drop, set, is_some, Some, None, Ok, Err, Result, Option, sym, refl, ap, ◌∙◌, ap₂, inl, inr, arith}
use Rattle.std.specs.List.{insert, remove}
use Rattle.std.specs.Cmp.{IsTotalOrder}
use Rattle.std.specs.Result.{result_ok}
use Rattle.std.specs.declared.cmp.Ordering.TheVariants.{Less, Equal, Greater}
use Rattle.std.specs.Ordering.{is_lt, is_eq}
use Rattle.std.specs.List.Sorted.{IsBinarySearchResult, IsSearchInRange, IsSortedBy}
use Rattle.std.proofs.lemmas.Cmp.{alike_right}
use Rattle.std.proofs.lemmas.List.{length-append, get_or_at, set_at, take_at, drop_at}
use Rattle.std.proofs.lemmas.List.Elements.{All-get_or, All-cons}
use Rattle.std.proofs.lemmas.List.Sorted.{searchable_from_sorted}
use Rattle.std.proofs.lemmas.Bool.{cond-true, cond-false, both_ways}
use Rattle.ordered.specs.declared.entry.Entry.{Entry}
use Rattle.ordered.specs.Entries.{Order, Rising, value_of, entries_before, entries_after, put, take_out}
use Rattle.ordered.specs.Lists.{location}
use Rattle.ordered.proofs.Orders.{Own, After, divided, greater, less, after_all, after_same, none_before, not_there, front_before, value_behind}

-- `ok` of a result is some place only where the result is that place
pub from_ok : (r : Result ℕ ℕ) (p : ℕ) → ◌≡◌ {A = Option ℕ} (Some p) (result_ok r) → Ok p ≡ r
from_ok (Ok q) p e = cc
from_ok (Err q) p e = absurd (both_ways (is_some (Some p)) (ap is_some e) refl)

drop_past : {X : Type 0} (xs : List X) (x : X) (ys : List X) (n : ℕ) → length xs ≡ n → drop (suc n) (xs ++ x ∷ ys) ≡ ys
drop_past [] x ys n e = ap (λ (m : ℕ). drop (suc m) (x ∷ ys)) (sym e)
drop_past (z ∷ zs) x ys n e = ap (λ (m : ℕ). drop (suc m) (z ∷ zs ++ x ∷ ys)) (sym e) ∙ drop_past zs x ys (length zs) refl

module _ {K V : Type 0} {cmp : Order K} (o : IsTotalOrder cmp) where
  rising_at : (es : List (Entry K V)) → Rising cmp es → (i j : ℕ) (d : Entry K V) → i < j → j < length es → cmp (get_or es i d).key (get_or es j d).key ≡ Less
  rising_at [] r i j d l h = absurd (omega arith)
  rising_at (e ∷ es) r i zero d l h = absurd (omega arith)
  rising_at (e ∷ es) r zero (suc j) d l h = All-get_or (λ (f : Entry K V). cmp e.key f.key ≡ Less) es j d (omega arith) r.0
  rising_at (e ∷ es) r (suc i) (suc j) d l h = rising_at es r.1 i j d (omega arith) (omega arith)

  sorted : (es : List (Entry K V)) → Rising cmp es → IsSortedBy (λ d e. is_lt (cmp d.key e.key)) es
  sorted es r i d l h = ap is_lt (greater o _ _ (rising_at es r i (i + 1) d (omega arith) h))

  module _ (k : K) where
    -- an entry whose key is k, and a place between those before k and those after it, are where k is looked for
    found_at : (es : List (Entry K V)) (i : ℕ) → Rising cmp es → i < length es → ((d : Entry K V) → cmp (get_or es i d).key k ≡ Equal)
        → (is_some (value_of cmp es k) ≡ true) × (length (entries_before cmp es k) ≡ i)
    found_at [] i r l at = absurd (omega arith)
    found_at (e ∷ es) zero r l at =
        (ap is_some (cond-true _ _ _ (ap is_eq (at e))), ap length (cond-false _ _ _ (ap is_lt (at e)) ∙ none_before o es k (after_same o e.key k es (at e) r.0)))
    found_at (e ∷ es) (suc i) r l at =
        let x = get_or es i e in
        let h : cmp e.key k ≡ Less = sym (alike_right o x.key k e.key (at e)) ∙ All-get_or (λ (f : Entry K V). cmp e.key f.key ≡ Less) es i e (omega arith) r.0 in
        let b = found_at es i r.1 (omega arith) at in
        (ap is_some (value_behind o e es k h) ∙ b.0, ap length (front_before o e es k h) ∙ ap suc b.1)

    missed_at : (es : List (Entry K V)) (i : ℕ) → Rising cmp es → i ≤ length es → ((j : ℕ) (d : Entry K V) → j < i → cmp (get_or es j d).key k ≡ Less)
        → ((j : ℕ) (d : Entry K V) → i ≤ j → j < length es → cmp (get_or es j d).key k ≡ Greater) → (is_some (value_of cmp es k) ≡ false) × (length (entries_before cmp es k) ≡ i)
    missed_at [] zero r l low high = (refl, refl)
    missed_at [] (suc i) r l low high = absurd (omega arith)
    missed_at (e ∷ es) zero r l low high =
        let first : cmp k e.key ≡ Less = less o e.key k (high 0 e (omega arith) (omega arith)) in
        let all : After o k (e ∷ es) = All-cons (λ (f : Entry K V). cmp k f.key ≡ Less) e es first (after_all o k e.key es first r.0) in
        (ap is_some (not_there o (e ∷ es) k all), ap length (none_before o (e ∷ es) k all))
    missed_at (e ∷ es) (suc i) r l low high =
        let h : cmp e.key k ≡ Less = low 0 e (omega arith) in
        let b = missed_at es i r.1 (omega arith) (λ j d u. low (suc j) d (omega arith)) (λ j d u v. high (suc j) d (omega arith) (omega arith)) in
        (ap is_some (value_behind o e es k h) ∙ b.0, ap length (front_before o e es k h) ∙ ap suc b.1)

    -- a binary search ends there
    pub searched : (es : List (Entry K V)) → Rising cmp es → (r : Result ℕ ℕ) → IsSearchInRange r (length es) → IsBinarySearchResult (λ e. cmp e.key k) es r → r ≡ location cmp es k
    searched es rising (Ok i) l at = let b = found_at es i rising l at in ap Ok (sym b.1) ∙ sym (cond-true _ _ _ b.0)
    searched es rising (Err i) l at =
        let parted = at (searchable_from_sorted o (λ (e : Entry K V). e.key) es k (sorted es rising)) in
        let b = missed_at es i rising l (λ j d u. parted.0 j d (omega arith) u) parted.1 in
        ap Err (sym b.1) ∙ sym (cond-false _ _ _ b.0)

  -- what it says of a list that a key was found at a place, or was not
  module _ (es : List (Entry K V)) (k : K) (p : ℕ) (rising : Rising cmp es) where
    pub record Found : Type 0 where
      pub own : Own o es k
      pub place : length (entries_before cmp es k) ≡ p
      pub within : p < length es

    pub found : ◌≡◌ {A = Result ℕ ℕ} (Ok p) (location cmp es k) → Found
    found e = elim (divided o es k rising) [
      | inl d ↦
          let q : ◌≡◌ {A = Result ℕ ℕ} (Ok p) (Err (length (entries_before cmp es k))) = e ∙ cond-false _ _ _ (ap is_some d.0) in
          absurd (let z : ◌≡◌ {A = ℕ} 0 1 = cc in omega arith)
      | inr d ↦
          let q : ◌≡◌ {A = Result ℕ ℕ} (Ok p) (Ok (length (entries_before cmp es k))) = e ∙ cond-true _ _ _ (ap is_some d.value_is) in
          let r : length (entries_before cmp es k) ≡ p = cc in
          record { own = d; place = r; within = omega (arith, ap length d.parts, length-append (entries_before cmp es k) (d.entry ∷ entries_after cmp es k)) }
    ]

    pub record Absent : Type 0 where
      pub value_is : value_of cmp es k ≡ None
      pub parts : es ≡ take_out cmp es k
      pub place : length (entries_before cmp es k) ≡ p
      pub within : p ≤ length es

    pub absent : ◌≡◌ {A = Result ℕ ℕ} (Err p) (location cmp es k) → Absent
    absent e = elim (divided o es k rising) [
      | inl d ↦
          let q : ◌≡◌ {A = Result ℕ ℕ} (Err p) (Err (length (entries_before cmp es k))) = e ∙ cond-false _ _ _ (ap is_some d.0) in
          let r : length (entries_before cmp es k) ≡ p = cc in
          record { value_is = d.0; parts = d.1; place = r; within = omega (arith, ap length d.1, length-append (entries_before cmp es k) (entries_after cmp es k)) }
      | inr d ↦
          let q : ◌≡◌ {A = Result ℕ ℕ} (Err p) (Ok (length (entries_before cmp es k))) = e ∙ cond-true _ _ _ (ap is_some d.value_is) in
          absurd (let z : ◌≡◌ {A = ℕ} 0 1 = cc in omega arith)
    ]

    pub value_found : Found → (x : Entry K V) → get_or es p x ≡ x → Some x.value ≡ value_of cmp es k
    value_found f x is =
        let at : x ≡ f.own.entry =
        sym is ∙ ap (λ (ys : List (Entry K V)). get_or ys p x) f.own.parts ∙ get_or_at (entries_before cmp es k) f.own.entry (entries_after cmp es k) x p f.place in
        ap (λ (y : Entry K V). Some y.value) at ∙ sym f.own.value_is

    -- what writing, letting in and taking out at that place leave
    pub put_found : Found → (v : V) → set es p record { key = k; value = v } ≡ put cmp es k v
    put_found f v =
        ap (λ (ys : List (Entry K V)). set ys p record { key = k; value = v }) f.own.parts
        ∙ set_at (entries_before cmp es k) f.own.entry (entries_after cmp es k) record { key = k; value = v } p f.place

    pub put_absent : Absent → (v : V) → insert es p record { key = k; value = v } ≡ put cmp es k v
    put_absent a v =
        ap₂ (λ (l m : List (Entry K V)). l ++ record { key = k; value = v } ∷ m)
        (ap (take p) a.parts ∙ take_at (entries_before cmp es k) (entries_after cmp es k) p a.place)
        (ap (drop p) a.parts ∙ drop_at (entries_before cmp es k) (entries_after cmp es k) p a.place)

    pub out_found : Found → remove es p ≡ take_out cmp es k
    out_found f =
        let front = entries_before cmp es k in
        let behind = entries_after cmp es k in
        ap₂ ◌++◌
        (ap (take p) f.own.parts ∙ take_at front (f.own.entry ∷ behind) p f.place)
        (ap (drop (suc p)) f.own.parts ∙ drop_past front f.own.entry behind p f.place)
