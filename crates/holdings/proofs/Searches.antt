-- What a binary search by number finds among entities whose numbers rise.
use Rattle.std.proofs.Common.{◌≡◌, ℕ, ◌<◌, ◌≤◌, List, length, get_or, Result, Ok, Err, sym, ap, ◌∙◌, inl, inr, arith}
use borrow.Author.Tests.{tests}
use Rattle.std.specs.declared.cmp.Ordering.{Ordering}
use Rattle.std.specs.declared.cmp.Ordering.TheVariants.{Less, Equal, Greater}
use Rattle.std.specs.Cmp.{ranked}
use Rattle.std.specs.List.Sorted.{IsSearchInRange, IsBinarySearchResult, IsNonDecreasingBy}
use Rattle.std.specs.Ordering.{nat_cmp, ordering_index}
use Rattle.std.proofs.lemmas.List.{get_or_default}
use Rattle.std.specs.Result.{result_ok}
use Rattle.std.proofs.lemmas.Bool.{cases_lt}
use Rattle.model.specs.declared.tickets.Entity.{Entity}
use Rattle.model.specs.Laws.{Rising}
use Rattle.holdings.specs.Rows.{place_of}
use Rattle.holdings.proofs.Places.{blank, rising_apart, place_at, place_none}

-- of two numbers the higher one compares no lower
higher : (a x y : ℕ) → x ≤ y → ordering_index (nat_cmp x a) ≤ ordering_index (nat_cmp y a)
higher a x y le = grind (arith, tests)

module _ (low n a : ℕ) (es : List Entity) (rising : Rising low es n) where
  abbrev compared : Entity → Ordering
  compared e = nat_cmp e.number a

  no_lower : (i j : ℕ) → i ≤ j → j < length es → (get_or es i blank).number ≤ (get_or es j blank).number
  no_lower i j le l = elim (cases_lt i j) [
    | inl h ↦ omega (arith, rising_apart low n es rising i j h l)
    | inr h ↦ let e : i ≡ j = omega arith in omega (arith, ap (λ (k : ℕ). (get_or es k blank).number) e)
  ]

  non_decreasing : IsNonDecreasingBy (λ e. ordering_index (compared e)) es
  non_decreasing i j d le l =
      let here = get_or_default es j d blank l in
      let before = get_or_default es i d blank (omega arith) in
      higher a (get_or es i d).number (get_or es j d).number
      (omega (arith, no_lower i j le l, ap (λ (e : Entity). e.number) here, ap (λ (e : Entity). e.number) before))

  pub found : (r : Result ℕ ℕ) → IsSearchInRange r (length es) → IsBinarySearchResult compared es r → result_ok r ≡ place_of es a
  found (Ok i) within at =
      let same : (get_or es i blank).number ≡ a = ranked (get_or es i blank).number a Equal (sym (at blank)) in
      sym (place_at low n es rising i within) ∙ ap (place_of es) same
  found (Err i) within parted =
      let apart = parted non_decreasing in
      sym (place_none es a (λ k l e. elim (cases_lt k i) [
        | inl h ↦
            let lower : (get_or es k blank).number < a = ranked (get_or es k blank).number a Less (sym (apart.0 k blank (omega arith) h)) in
            omega arith
        | inr h ↦
            let above : a < (get_or es k blank).number = ranked (get_or es k blank).number a Greater (sym (apart.1 k blank (omega arith) l)) in
            omega arith
      ]))
