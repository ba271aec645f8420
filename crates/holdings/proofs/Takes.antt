-- The rows that are taken, where one is taken more and where those after a place move up.
use Rattle.std.proofs.Common.{◌≡◌, ℕ, zero, suc, ◌+◌, ◌-◌, ◌<◌, ◌≤◌, List, [], ◌∷◌, ◌++◌, length, take, drop, set, length-drop, sym, refl, ap, ◌∙◌, subst, ap₂, add-one, arith}
use Rattle.std.proofs.lemmas.List.{length-set, length-take-le, take_more_set}
use Rattle.std.proofs.lemmas.Bool.{cond-true, lt-ltb, le-leb, ltb-true, leb-true}
use Rattle.model.specs.declared.tickets.Entity.{Entity}
use Rattle.model.specs.Refusals.{granted}
use Rattle.model.specs.Tickets.{none}
use Rattle.model.specs.State.{State, added}
use Rattle.model.specs.Laws.{Rising}
use Rattle.model.specs.Calls.{add_answer, passed, row_checks}
use Rattle.model.proofs.Checks.{passed_all}
use Rattle.std.specs.List.{copy_within}
use Rattle.std.proofs.Math.Seq.{paste, take-nil}
use Rattle.std.proofs.lemmas.List.{drop-take}
use Rattle.std.proofs.lemmas.List.Edits.{take-paste, length-paste}
use Rattle.holdings.specs.Filing.{Filed}
use Rattle.holdings.specs.Rows.{row_room, remove_at}
use Rattle.holdings.proofs.Places.{rising_push, rising_remove}

-- taking out the entity at a place leaves those before it and those after it
removed_split : (es : List Entity) (i : ℕ) → remove_at es i ≡ take i es ++ drop (suc i) es
removed_split [] zero = refl
removed_split [] (suc i) = refl
removed_split (e ∷ es) zero = refl
removed_split (e ∷ es) (suc i) = ap (λ (l : List Entity). e ∷ l) (removed_split es i)

take_front : (es : List Entity) (i n : ℕ) → i ≤ n → take i (take n es) ≡ take i es
take_front [] zero n h = refl
take_front [] (suc i) n h = ap (take (suc i)) (take-nil n)
take_front (e ∷ es) zero n h = refl
take_front (e ∷ es) (suc i) zero h = absurd (omega arith)
take_front (e ∷ es) (suc i) (suc n) h = ap (λ (l : List Entity). e ∷ l) (take_front es i n (omega arith))

-- the front of rows in which those after place i have been copied one up
copied_up : (es : List Entity) (i m : ℕ) → suc i + m ≤ length es → take (i + m) (copy_within es (suc i) (suc i + m) i) ≡ remove_at (take (suc i + m) es) i
copied_up es i m h =
    let n : suc i + m - suc i ≡ m = omega arith in
    let rest : m ≤ length (drop (suc i) es) = omega (arith, length-drop (suc i) es) in
    ap (λ (k : ℕ). take (i + m) (paste es i (drop (suc i) es) k)) n
    ∙ take-paste es i (drop (suc i) es) m (omega arith) rest
    ∙ ap₂ (λ (f r : List Entity). f ++ r) (sym (take_front es i (suc i + m) (omega arith))) (sym (drop-take (suc i) m es))
    ∙ sym (removed_split (take (suc i + m) es) i)

pub closed_up : (es : List Entity) (i count : ℕ) → i < count → count ≤ length es → take (count - 1) (copy_within es (i + 1) count i) ≡ remove_at (take count es) i
closed_up es i count l h =
    let m = count - suc i in
    let c : count ≡ suc i + m = omega arith in
    let d : count - 1 ≡ i + m = omega arith in
    ap₂ (λ (a b : ℕ). take a (copy_within es b count i)) d (add-one i)
    ∙ subst (λ (n : ℕ). take (i + m) (copy_within es (suc i) n i) ≡ remove_at (take n es) i) (sym c) (copied_up es i m (omega arith))

pub length_copied : (es : List Entity) (i count : ℕ) → i < count → count ≤ length es → length (copy_within es (i + 1) count i) ≡ length es
length_copied es i count l h = length-paste es i (drop (i + 1) es) (count - (i + 1)) (omega arith) (omega (arith, length-drop (i + 1) es))

-- removing past the end removes nothing
pub remove_past : (es : List Entity) (i : ℕ) → length es ≤ i → remove_at es i ≡ es
remove_past [] i h = refl
remove_past (e ∷ es) zero h = absurd (omega arith)
remove_past (e ∷ es) (suc i) h = ap (λ (l : List Entity). e ∷ l) (remove_past es i (omega arith))

module _ (rows : List Entity) (count next : ℕ) (filed : Filed rows count next) where
  pub past_last : (i : ℕ) → count ≤ i → take count rows ≡ remove_at (take count rows) i
  past_last i h = sym (remove_past (take count rows) i (omega (arith, length-take-le count rows filed.fits)))

  -- the rows that a removal leaves
  pub filed_less : (i : ℕ) → i < count → Filed (copy_within rows (i + 1) count i) (count - 1) next
  filed_less i h =
      let is = closed_up rows i count h filed.fits in
      record {
        fits = omega (arith, filed.fits, length_copied rows i count h filed.fits);
        rising = subst (λ (es : List Entity). Rising 1 es next) (sym is) (rising_remove 1 next i (take count rows) filed.rising);
        numbers = filed.numbers;
      }

  -- there is a row and a number more
  pub has_room : granted tt ≡ passed (row_checks (row_room (length rows)) record { next = next; entities = take count rows; tickets = λ h y. none })
      → (count < length rows) × (next ≤ 999999)
  has_room p =
      let all = passed_all (row_checks (row_room (length rows)) record { next = next; entities = take count rows; tickets = λ h y. none }) (sym p) in
      (omega (arith, ltb-true (length (take count rows)) (length rows) all.0, length-take-le count rows filed.fits), leb-true next 999999 all.1.0)

  -- the rows after one entity more
  module _ (kind : ℕ) (room : count < length rows) (left : next ≤ 999999) where
    abbrev more : List Entity
    more = set rows count record { number = next; kind = kind }

    is_more : take (count + 1) more ≡ take count rows ++ record { number = next; kind = kind } ∷ []
    is_more = take_more_set rows count record { number = next; kind = kind } room

    pub filed_more : Filed more (count + 1) (next + 1)
    filed_more = record {
      fits = omega (arith, length-set rows count record { number = next; kind = kind });
      rising = rw (is_more, add-one) (rising_push 1 next kind (take count rows) filed.rising);
      numbers = omega arith;
    }

    pub state_more : ◌≡◌ {A = State} (record { next = next + 1; entities = take (count + 1) more; tickets = λ h y. none })
        (added record { next = next; entities = take count rows; tickets = λ h y. none } kind)
    state_more = ap₂ (λ (n : ℕ) (es : List Entity). record { next = n; entities = es; tickets = λ h y. none }) (add-one next) is_more

    pub answer_more : granted next ≡ add_answer (row_room (length rows)) record { next = next; entities = take count rows; tickets = λ h y. none }
    answer_more =
        sym (cond-true _ _ _ (lt-ltb (length (take count rows)) (length rows) (omega (arith, length-take-le count rows filed.fits)))
        ∙ cond-true _ _ _ (le-leb next 999999 left))
