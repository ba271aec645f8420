-- The records in more and more places, and tests of them.
use Rattle.std.proofs.Common.{◌≡◌, ℕ, zero, suc, ◌+◌, ◌-◌, ◌/◌, ◌%◌, ◌<◌, ◌≤◌, Bool, true, false, cond, ◌||◌, List, [], ◌∷◌, ◌++◌, is_some, Some, None, Option, sym, refl, ap, ◌∙◌, inl, inr, add-zero, zero-add, add-one, append_assoc, append-nil, arith}
use Rattle.std.specs.Option.{option_to_list, MatchOption}
use Rattle.std.specs.List.{list_any as any, count_by as count}
use Rattle.std.proofs.lemmas.List.Folds.{list_any-append}
use Rattle.std.proofs.lemmas.List.Sums.{sum_by-append}
use Rattle.std.proofs.lemmas.Bool.{cond_below, cond_above, or_cases, or_left, or_right, both_ways}
use Rattle.scheme_records.specs.declared.record.Record.{Record}
use Rattle.scheme_records.specs.Bytes.{block, record_count, record_slice}
use Rattle.scheme_records.specs.Decoded.{decoded}
use Rattle.scheme_records.specs.Listed.{in_turn, records, record_at}
use Rattle.scheme_records.specs.Walked.{records_from}

pub in_turn_more : {X : Type 0} (f : ℕ → List X) (n : ℕ) → in_turn f (n + 1) ≡ in_turn f n ++ f n
in_turn_more f n = ap (λ (k : ℕ). in_turn f k) (add-one n)

pub records_more : (file : List ℕ) (p : ℕ) → records file (p + 1) ≡ records file p ++ option_to_list (record_at file p)
unfolding records
records_more file p = in_turn_more (λ q. option_to_list (record_at file q)) p

-- what a place has, by its block and the block's count
module _ (file bytes : List ℕ) (p n : ℕ) (b : bytes ≡ block file (p / 15)) (e : n ≡ record_count bytes) where
  pub record_there : p % 15 < n → decoded (record_slice bytes (p % 15)) ≡ record_at file p
  unfolding record_at
  record_there h =
      let k : n ≡ record_count (block file (p / 15)) = e ∙ ap record_count b in
      ap (λ (x : List ℕ). decoded (record_slice x (p % 15))) b ∙ cond_below (p % 15) (record_count (block file (p / 15))) _ None (omega (arith, k))

  pub record_absent : n ≤ p % 15 → None ≡ record_at file p
  unfolding record_at
  record_absent h =
      let k : n ≡ record_count (block file (p / 15)) = e ∙ ap record_count b in
      cond_above (p % 15) (record_count (block file (p / 15))) _ None None (omega (arith, k)) refl

-- there is no record in no place
pub records_none : (file : List ℕ) → records file 0 ≡ []
unfolding records
records_none file = refl

-- a walk: one place more, and the end
pub left_more : (file : List ℕ) (p q : ℕ) → p < q → records_from file p (q - p) ≡ option_to_list (record_at file p) ++ records_from file (p + 1) (q - (p + 1))
unfolding records_from
left_more file p q l = let n : q - p ≡ suc (q - (p + 1)) = omega arith in rw n refl

pub left_none : (file : List ℕ) (p q : ℕ) → q ≤ p → records_from file p (q - p) ≡ []
unfolding records_from
left_none file p q l = let n : q - p ≡ 0 = omega arith in rw n refl

-- a walk from the first place on comes to all records
from_last : (file : List ℕ) (p n : ℕ) → records_from file p (suc n) ≡ records_from file p n ++ option_to_list (record_at file (p + n))
unfolding records_from
from_last file p zero = append-nil (option_to_list (record_at file p)) ∙ ap (λ (q : ℕ). option_to_list (record_at file q)) (sym (add-zero p))
from_last file p (suc n) =
    ap (λ (rs : List Record). option_to_list (record_at file p) ++ rs) (from_last file (p + 1) n)
    ∙ sym (append_assoc (option_to_list (record_at file p)) (records_from file (p + 1) n) (option_to_list (record_at file (p + 1 + n))))
    ∙ ap (λ (q : ℕ). (option_to_list (record_at file p) ++ records_from file (p + 1) n) ++ option_to_list (record_at file q)) (omega arith)

walked_none : (file : List ℕ) → records_from file 0 0 ≡ records file 0
unfolding records_from records
walked_none file = refl

pub records_walked : (file : List ℕ) (n : ℕ) → records_from file 0 n ≡ records file n
records_walked file zero = walked_none file
records_walked file (suc n) =
    from_last file 0 n ∙ ap (λ (q : ℕ). records_from file 0 n ++ option_to_list (record_at file q)) (zero-add n)
    ∙ ap (λ (rs : List Record). rs ++ option_to_list (record_at file n)) (records_walked file n)
    ∙ sym (records_more file n) ∙ ap (λ (q : ℕ). records file q) (add-one n)

-- one record more
pub any_more : (w : Record → Bool) (rs : List Record) (r : Record) → any w (rs ++ r ∷ []) ≡ (any w rs || w r)
any_more w rs r = list_any-append w rs (r ∷ []) ∙ ap (λ (b : Bool). any w rs || b) (or_false (w r))
  where
    or_false : (b : Bool) → (b || false) ≡ b
    or_false true = refl
    or_false false = refl

pub count_more : (w : Record → Bool) (rs : List Record) (r : Record) → count w (rs ++ r ∷ []) ≡ count w rs + cond (w r) 1 0
count_more w rs r = omega (arith, sum_by-append (λ x. cond (w x) 1 0) rs (r ∷ []))

-- what passes a test passes a weaker one
pub any_weaker : (w v : Record → Bool) → ((r : Record) → w r ≡ true → v r ≡ true) → (rs : List Record) → any w rs ≡ true → any v rs ≡ true
any_weaker w v f [] e = e
any_weaker w v f (r ∷ rs) e = elim (or_cases (w r) (any w rs) e) [ inl h ↦ or_left (v r) (any v rs) (f r h) | inr h ↦ or_right (v r) (any v rs) (any_weaker w v f rs h) ]

-- a step of a walk: the record in its place, if there is one, and what is left after it
pub walk_step : (file : List ℕ) (p e p' e' at : ℕ) (o : Option Record) → 0 < e - p → at ≡ p → p' ≡ p + 1 → e' ≡ e → o ≡ record_at file at
    → records_from file p (e - p) ≡ option_to_list o ++ records_from file p' (e' - p')
walk_step file p e p' e' at o l a n m r =
    let here : o ≡ record_at file p = r ∙ ap (record_at file) a in
    rw (here, m, n) (left_more file p e (omega arith))

pub walk_yields : (o : Option Record) (old new : List Record) → is_some o ≡ true → old ≡ option_to_list o ++ new
    → MatchOption o ((old ≡ []) × (new ≡ [])) (λ x. old ≡ x ∷ new)
walk_yields (Some x) old new s e = e
walk_yields None old new s e = absurd (both_ways false refl s)

pub walk_passes : (o : Option Record) (old new : List Record) → is_some o ≡ false → old ≡ option_to_list o ++ new → new ≡ old
walk_passes (Some x) old new s e = absurd (both_ways true s refl)
walk_passes None old new s e = sym e
