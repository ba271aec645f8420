-- What a list holds once an entry in its front was replaced, let in or taken out where its key was looked for.
use Rattle.std.proofs.Common.{◌≡◌, ℕ, suc, ◌+◌, ◌-◌, ◌<◌, ◌≤◌, List, ◌++◌, length, get_or, take, drop, set, Some, Ok, Err, Result, sym, ap, ◌∙◌, subst, add-one, arith}
use borrow.Rule.Slice.PartMut.{mid_of, put_mid}
use Rattle.std.specs.List.{insert, remove}
use Rattle.std.specs.Cmp.{IsTotalOrder}
use Rattle.std.proofs.Math.Seq.{take-set-lt}
use Rattle.std.proofs.lemmas.List.{length-set, length-take-le, get_or-take, get_or-set_same, take-set-le}
use Rattle.ordered.specs.declared.entry.Entry.{Entry}
use Rattle.ordered.specs.Entries.{Order, Rising, value_of, put, take_out}
use Rattle.ordered.specs.declared.list.OrderedList.{OrderedList}
use Rattle.ordered.specs.Lists.{listed, location}
use Rattle.ordered.proofs.Orders.{rising_put, rising_out}
use Rattle.ordered.proofs.Places.{found, absent, value_found, put_found, put_absent, out_found}
use Rattle.ordered.proofs.Shifts.{turned_in, turned_out}

module _ {K V : Type 0} {a : _} {b : _} {c : _} (l : OrderedList K V a b c) (o : IsTotalOrder a.cmp) (k : K) where
  abbrev cmp : Order K
  cmp = a.cmp

  abbrev old : List (Entry K V)
  old = l.entries.now

  abbrev count : ℕ
  count = l.count

  abbrev es : List (Entry K V)
  es = listed l

  rising : Rising cmp es
  rising = l.rising

  long : length es ≡ count
  long = length-take-le count old l.fits

  module _ (p : ℕ) (at : ◌≡◌ {A = Result ℕ ℕ} (Ok p) (location cmp es k)) where
    found_within : p < count
    found_within = omega (arith, (found o es k p rising at).within, long)

    pub found_value : (x : Entry K V) → x ≡ get_or old p x → Some x.value ≡ value_of cmp es k
    found_value x is = value_found o es k p rising (found o es k p rising at) x (get_or-take count old p x found_within ∙ sym is)

    pub replaced : (v : V) → take count (set old p record { key = k; value = v }) ≡ put cmp es k v
    replaced v = take-set-lt count old p record { key = k; value = v } found_within ∙ put_found o es k p rising (found o es k p rising at) v

    pub replaced_rises : (v : V) → Rising cmp (take count (set old p record { key = k; value = v }))
    replaced_rises v = subst (Rising cmp) (sym (replaced v)) (rising_put o es k v rising)

    module _ (ys : List (Entry K V)) (turned : ys ≡ drop 1 (mid_of p (count - p) old) ++ take 1 (mid_of p (count - p) old)) where
      pub taken_out : take (count - 1) (put_mid p (count - p) old ys) ≡ take_out cmp es k
      taken_out =
          let whole : suc (count - 1) ≡ count = omega (arith, found_within) in
          turned_out old ys p (count - p) (count - 1) (omega (arith, found_within)) (omega (arith, found_within)) (omega (arith, found_within, l.fits)) turned
          ∙ ap (λ (n : ℕ). remove (take n old) p) whole ∙ out_found o es k p rising (found o es k p rising at)

      pub taken_out_rises : Rising cmp (take (count - 1) (put_mid p (count - p) old ys))
      taken_out_rises = subst (Rising cmp) (sym taken_out) (rising_out o es k rising)

  module _ (p : ℕ) (at : ◌≡◌ {A = Result ℕ ℕ} (Err p) (location cmp es k)) where
    absent_within : p ≤ count
    absent_within = omega (arith, (absent o es k p rising at).within, long)

    module _ (v : V) (room : count < length old) where
      abbrev new : Entry K V
      new = record { key = k; value = v }

      abbrev wider : List (Entry K V)
      wider = set old count new

      abbrev part : List (Entry K V)
      part = mid_of p (count + 1 - p) wider

      module _ (ys : List (Entry K V)) (turned : ys ≡ drop (length part - 1) part ++ take (length part - 1) part) where
        pub let_in : take (count + 1) (put_mid p (count + 1 - p) wider ys) ≡ put cmp es k v
        let_in =
            ap (λ (n : ℕ). take n (put_mid p (count + 1 - p) wider ys)) (add-one count)
            ∙ turned_in wider ys p (count + 1 - p) count new (omega (arith, absent_within)) (omega (arith, absent_within)) (omega (arith, length-set old count new))
            (sym (get_or-set_same old count new new room)) turned
            ∙ ap (λ (es : List (Entry K V)). insert es p new) (take-set-le count old count new (omega arith)) ∙ put_absent o es k p rising (absent o es k p rising at) v

        pub let_in_rises : Rising cmp (take (count + 1) (put_mid p (count + 1 - p) wider ys))
        let_in_rises = subst (Rising cmp) (sym let_in) (rising_put o es k v rising)

    pub not_out : es ≡ take_out cmp es k
    not_out = (absent o es k p rising at).parts
