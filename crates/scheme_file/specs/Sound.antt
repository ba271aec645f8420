-- In a file that passes the check, every record passes its tests against those before it.
use Rattle.std.specs.Prelude.{◌≡◌, ℕ, zero, suc, ◌/◌, ◌%◌, ◌<◌, ◌≤◌, Bool, true, false, cond, List, [], ◌∷◌, ◌++◌, is_some, Some, None, Option, nat_lt}
use Rattle.std.proofs.Common.{append-nil, inl, inr, sym, add-one}
use Rattle.std.proofs.Math.Path.{refl, subst}
use native.Mathlib.Omega.{arith}
use Rattle.std.specs.Option.{option_to_list}
use Rattle.std.proofs.lemmas.Bool.{and_parts, not-true, cases_lt, ltb-true, both_ways}
use Rattle.scheme_records.specs.declared.record.Record.{Record}
use Rattle.scheme_records.specs.Bytes.{block, blocks, record_count, record_slice}
use Rattle.scheme_records.specs.Decoded.{decoded}
use Rattle.scheme_records.specs.Listed.{in_turn, place_of, records, record_at, all_places}
use Rattle.scheme_records.specs.Said.{said, repeats}
use Rattle.scheme_records.proofs.Listing.{records_more, records_none}
use Rattle.scheme_file.specs.Faults.{Test, first_fault, AllPass}
use Rattle.scheme_file.specs.Checks.{fields_fit, unused_zero, sets_nested, object_bare, field_passes, key_passes, copy_passes, gift_passes, tests_of, record_tests, own_tests, block_tests, file_tests, fault_of}

-- what a record's tests say of it, against the records before it
pub record Passes (rs : List Record) (r : Record) : Type 0 where
  pub fields : fields_fit rs (said rs) r ≡ true
  pub key : repeats rs r ≡ false
  pub copies : sets_nested r ≡ true
  pub gifts : object_bare (said rs) r ≡ true

-- every record of a list passes against those before it
pub data Sound : List Record → Type 0 where
  none : Sound []
  more : (rs : List Record) (r : Record) → Sound rs → Passes rs r → Sound (rs ++ r ∷ [])

-- no fault, so all tests pass
all_pass : (ts : List Test) → is_some (first_fault ts) ≡ false → AllPass ts
all_pass [] h = tt
all_pass (t ∷ ts) h = go t.passes refl (all_pass ts) h
  where
    go : (b : Bool) → t.passes ≡ b → (is_some (first_fault ts) ≡ false → AllPass ts)
        → is_some (cond b (first_fault ts) (Some t.fault)) ≡ false → AllPass (t ∷ ts)
    go true e f k = (e, f k)
    go false e f k = absurd (both_ways true k refl)

all_front : (xs ys : List Test) → AllPass (xs ++ ys) → AllPass xs
all_front [] ys h = tt
all_front (x ∷ xs) ys h = (h.0, all_front xs ys h.1)

all_back : (xs ys : List Test) → AllPass (xs ++ ys) → AllPass ys
all_back [] ys h = h
all_back (x ∷ xs) ys h = all_back xs ys h.1

turn_holds : (f : ℕ → List Test) (n i : ℕ) → i < n → AllPass (in_turn f n) → AllPass (f i)
turn_holds f zero i l h = absurd (omega arith)
turn_holds f (suc n) i l h = elim (cases_lt i n) [
  | inl k ↦ turn_holds f n i k (all_front (in_turn f n) (f n) h)
  | inr g ↦ let e : n ≡ i = omega arith in subst (λ (k : ℕ). AllPass (f k)) e (all_back (in_turn f n) (f n) h)
]

passes_by : (b j : ℕ) (rs : List Record) (bs : List ℕ) (r : Record) → AllPass (tests_of b j rs bs (Some r)) → Passes rs r
unfolding field_passes key_passes copy_passes gift_passes
passes_by b j rs bs r h = record {
  fields = (and_parts (fields_fit rs (said rs) r) (unused_zero r bs) h.1.0).0;
  key = not-true (repeats rs r) h.1.1.0;
  copies = h.1.1.1.0;
  gifts = h.1.1.1.1.0;
}

module _ (file : List ℕ) (all : AllPass (file_tests file)) where
  records_hold : (b j : ℕ) → b < blocks file → j < record_count (block file b) → AllPass (record_tests file b j)
  unfolding file_tests block_tests
  records_hold b j lb lj =
      turn_holds (record_tests file b) (record_count (block file b)) j lj
      (all_back (own_tests (block file b) b (blocks file)) (in_turn (record_tests file b) (record_count (block file b)))
      (turn_holds (block_tests file) (blocks file) b lb all.1))

  -- the tests of the record in a place
  place_holds : (p : ℕ) (r : Record) → p < all_places file → p % 15 < record_count (block file (p / 15))
      → decoded (record_slice (block file (p / 15)) (p % 15)) ≡ Some r → Passes (records file p) r
  unfolding record_tests
  place_holds p r l k e =
      let b = p / 15 in
      let j = p % 15 in
      let bs = record_slice (block file (p / 15)) (p % 15) in
      let here : place_of b j ≡ p = omega arith in
      let tests : AllPass (tests_of b j (records file (place_of b j)) bs (decoded bs)) = records_hold b j (omega arith) k in
      passes_by b j (records file p) bs r
      (subst (λ (o : Option Record). AllPass (tests_of b j (records file p) bs o)) e
      (subst (λ (q : ℕ). AllPass (tests_of b j (records file q) bs (decoded bs))) here tests))

  sound_next : (p : ℕ) → p < all_places file → Sound (records file p) → Sound (records file p ++ option_to_list (record_at file p))
  unfolding record_at
  sound_next p l s = go (nat_lt (p % 15) (record_count (block file (p / 15)))) refl (decoded (record_slice (block file (p / 15)) (p % 15))) refl
    where
      go : (t : Bool) → nat_lt (p % 15) (record_count (block file (p / 15))) ≡ t
          → (o : Option Record) → decoded (record_slice (block file (p / 15)) (p % 15)) ≡ o → Sound (records file p ++ option_to_list (cond t o None))
      go false h o e = subst Sound (sym (append-nil (records file p))) s
      go true h None e = subst Sound (sym (append-nil (records file p))) s
      go true h (Some r) e = more (records file p) r s (place_holds p r l (ltb-true (p % 15) (record_count (block file (p / 15))) h) e)

  sound_to : (p : ℕ) → p ≤ all_places file → Sound (records file p)
  sound_to zero l = subst Sound (sym (records_none file)) none
  sound_to (suc p) l =
      subst (λ (q : ℕ). Sound (records file q)) (add-one p) (subst Sound (sym (records_more file p)) (sound_next p (omega arith) (sound_to p (omega arith))))

-- the records of a file without a fault
pub file_sound : (file : List ℕ) → is_some (fault_of file) ≡ false → Sound (records file (all_places file))
file_sound file h = sound_to file (all_pass (file_tests file) h) (all_places file) (omega arith)
