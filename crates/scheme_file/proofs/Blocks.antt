-- The first fault of a record, a block and a file, by what each part of the check tells.
use Rattle.std.proofs.Common.{◌≡◌, ℕ, Bool, true, false, cond, List, Some, None, Option, sym, ap, ◌∙◌}
use Rattle.scheme_records.specs.declared.record.Record.{Record}
use Rattle.scheme_records.specs.Bytes.{block, blocks, record_count, record_slice}
use Rattle.scheme_records.specs.Decoded.{decoded}
use Rattle.scheme_records.specs.Listed.{in_turn, place_of, records}
use Rattle.scheme_file.specs.Faults.{Fault, first_fault, in_record, in_whole}
use Rattle.scheme_file.specs.Checks.{tests_of, record_tests, own_tests, block_tests, length_passes, file_tests}
use Rattle.scheme_file.proofs.Firsts.{fault_past, fault_stays}

module _ (file bytes : List ℕ) (b j : ℕ) (same : bytes ≡ record_slice (block file b) j) where
  pub unknown_tag : None ≡ decoded bytes → Some (in_record b j 5) ≡ first_fault (record_tests file b j)
  unfolding record_tests
  unknown_tag e = ap (λ (o : Option Record). first_fault (tests_of b j (records file (place_of b j)) (record_slice (block file b) j) o)) (e ∙ ap decoded same)

  pub known_tag : (r : Record) (rs : List Record) → Some r ≡ decoded bytes → rs ≡ records file (place_of b j)
      → first_fault (tests_of b j rs bytes (Some r)) ≡ first_fault (record_tests file b j)
  unfolding record_tests
  known_tag r rs e before =
      ap (λ (xs : List Record). first_fault (tests_of b j xs bytes (Some r))) before
      ∙ ap (λ (bs : List ℕ). first_fault (tests_of b j (records file (place_of b j)) bs (Some r))) same
      ∙ ap (λ (o : Option Record). first_fault (tests_of b j (records file (place_of b j)) (record_slice (block file b) j) o)) (e ∙ ap decoded same)

module _ (file bytes : List ℕ) (b n : ℕ) (same : bytes ≡ block file b) (all : n ≡ blocks file) where
  own_same : first_fault (own_tests (block file b) b (blocks file)) ≡ first_fault (own_tests bytes b n)
  own_same = sym (ap (λ (bs : List ℕ). first_fault (own_tests bs b n)) same ∙ ap (λ (k : ℕ). first_fault (own_tests (block file b) b k)) all)

  pub own_decides : (f : Fault) → Some f ≡ first_fault (own_tests bytes b n) → Some f ≡ first_fault (block_tests file b)
  unfolding block_tests
  own_decides f e =
      sym (fault_stays (own_tests (block file b) b (blocks file)) (in_turn (record_tests file b) (record_count (block file b))) f (own_same ∙ sym e))

  pub records_decide : (m : ℕ) (o : Option Fault) → m ≡ record_count bytes → None ≡ first_fault (own_tests bytes b n)
      → o ≡ first_fault (in_turn (record_tests file b) m) → o ≡ first_fault (block_tests file b)
  unfolding block_tests
  records_decide m o count e k =
      k ∙ ap (λ (i : ℕ). first_fault (in_turn (record_tests file b) i)) (count ∙ ap record_count same)
      ∙ sym (fault_past (own_tests (block file b) b (blocks file)) (in_turn (record_tests file b) (record_count (block file b))) (own_same ∙ sym e))

pub length_fails : (file : List ℕ) → length_passes file ≡ false → Some (in_whole 1) ≡ first_fault (file_tests file)
unfolding file_tests
length_fails file e = sym (ap (λ (t : Bool). cond t (first_fault (in_turn (block_tests file) (blocks file))) (Some (in_whole 1))) e)

pub blocks_decide : (file : List ℕ) (n : ℕ) (o : Option Fault) → length_passes file ≡ true → n ≡ blocks file
    → o ≡ first_fault (in_turn (block_tests file) n) → o ≡ first_fault (file_tests file)
unfolding file_tests
blocks_decide file n o e all k =
    k ∙ ap (λ (i : ℕ). first_fault (in_turn (block_tests file) i)) all
    ∙ sym (ap (λ (t : Bool). cond t (first_fault (in_turn (block_tests file) (blocks file))) (Some (in_whole 1))) e)
