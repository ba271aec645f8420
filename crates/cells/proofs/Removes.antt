-- What squeezing the cells does to them, and with one row less to the table's meaning.
use Rattle.std.proofs.Common.{◌≡◌, ℕ, suc, ◌+◌, ◌*◌, ◌/◌, ◌%◌, ◌<◌, ◌≤◌, true, false, cond, ◌&&◌, ◌||◌, eqb, ltb, ◌⊎◌, List, length, get_or, set, Some, None, Option, sym, refl, ap, ◌∙◌, subst, ap₂, inl, inr, arith}
use mathlib.Core.Path.{fun_ext}
use Rattle.std.specs.Option.{option_map}
use Rattle.std.proofs.lemmas.Nat.{mul-add-lt, mul-le, div-mul-add, mod-mul-add}
use Rattle.std.proofs.lemmas.List.{get_or-set_same, get_or-set_other}
use Rattle.std.proofs.lemmas.Bool.{cases_Bool, cases_eq, cases_lt, cond-true, cond-false, cond_both, eqb-true, eqb-false, lt-ltb, le-ltb, and_left, and_right, and_from, or_parts, or_cases}
use Rattle.model.specs.declared.tickets.Entity.{Entity}
use Rattle.model.specs.Tickets.{none}
use Rattle.model.specs.State.{State, Table, remove, removed, without}
use Rattle.holdings.specs.declared.rows.Rows.{Rows}
use Rattle.holdings.specs.Rows.{size, in_rows, roll, place_of, remove_at, past}
use Rattle.holdings.proofs.Places.{past_from, place_some, place_left, place_removed, remove_place, remove_none, length_left}
use Rattle.cells.specs.Layout.{Laid, Nested, unpack, cell_at, in_cell, held, meant}
use Rattle.cells.specs.Squeeze.{squeezed, Squeezed}
use Rattle.cells.proofs.Cells.{count_is, few, none_held}

-- one cell more is squeezed: what moves to it comes from a later cell
pub squeeze_more : (old cells : List ℕ) (n r count i j w : ℕ) → j < n → i * n + j < length cells → w ≡ squeezed cells n r count i j
    → Squeezed old cells n r count (i * n + j) → Squeezed old (set cells (i * n + j) w) n r count (i * n + j + 1)
squeeze_more old cells n r count i j w hj l is q =
    let k : ℕ = i * n + j in
    let later : k ≤ past r i * n + past r j = omega (arith, mul-le i n (past r i) n (past_from r i) (omega arith), past_from r j) in
    let new : w ≡ squeezed old n r count (k / n) (k % n) =
    is ∙ ap (λ (x : ℕ). cond (ltb (i + 1) count && ltb (j + 1) count) x 0) (q.still (past r i * n + past r j) later)
    ∙ ap₂ (squeezed old n r count) (sym (div-mul-add i n j hj)) (sym (mod-mul-add i n j hj)) in
    record {
      moved = λ c h. elim (cases_eq c k) [
        | inl e ↦ ap (λ (x : ℕ). get_or (set cells k w) x 0) e ∙ get_or-set_same cells k w 0 l ∙ new ∙ ap (λ (x : ℕ). squeezed old n r count (x / n) (x % n)) (sym e)
        | inr ne ↦ get_or-set_other cells k c w 0 ne ∙ q.moved c (omega arith)
      ];
      still = λ c h. get_or-set_other cells k c w 0 (λ e. omega arith) ∙ q.still c (omega arith);
    }

-- squeezed cells, with the sizes as the rows tell them
pub at_sizes : (old cells : List ℕ) (r n m count k : ℕ) → n ≡ m → count ≡ k → Squeezed old cells n r count (count * n) → Squeezed old cells m r k (k * m)
at_sizes old cells r n m count k e f q = subst (λ (x : ℕ). Squeezed old cells x r k (k * x)) e (subst (λ (x : ℕ). Squeezed old cells n r x (x * n)) f q)

-- removing what does not stand changes nothing
pub removed_none : (st : State) (n : ℕ) (cells : List ℕ) (m : ℕ) → place_of st.entities m ≡ None → meant st n cells ≡ removed (meant st n cells) m
removed_none st n cells m h =
    let es = st.entities in
    let none_at : (a : ℕ) → eqb a m ≡ true → place_of es a ≡ None = (λ a t. ap (place_of es) (eqb-true a m t) ∙ h) in
    let same : held es n cells ≡ without (held es n cells) m =
    fun_ext (λ a. fun_ext (λ b. elim (cases_Bool (eqb a m || eqb b m)) [
      | inl t ↦ none_held cells n (place_of es a) (place_of es b) (elim (or_cases (eqb a m) (eqb b m) t) [ inl u ↦ inl (none_at a u) | inr u ↦ inr (none_at b u) ]) ∙ sym (cond-true _ _ _ t)
      | inr f ↦ sym (cond-false _ _ _ f)
    ])) in
    ap₂ (λ (l : List Entity) (t : Table). record { next = st.next; entities = l; tickets = t }) (sym (remove_none es m h)) same

module _ (rows left : Rows) (cells moved : List ℕ) (m r : ℕ) (laid : Laid rows cells) (at : place_of (in_rows rows) m ≡ Some r)
    (kept : size left ≡ size rows) (next : left.next ≡ rows.next) (is_left : in_rows left ≡ remove_at (in_rows rows) r)
    (long : length moved ≡ length cells) (q : Squeezed cells moved (size rows) r (length (in_rows rows)) (length (in_rows rows) * size rows)) where
  abbrev es : List Entity
  es = in_rows rows

  abbrev n : ℕ
  n = size rows

  abbrev count : ℕ
  count = length es

  at_row : (i j : ℕ) → i < n → j < n → get_or moved (i * n + j) 0 ≡ squeezed cells n r count i j
  at_row i j hi hj = elim (cases_lt i count) [
    | inl l ↦
        q.moved (i * n + j) (omega (arith, mul-add-lt i n j count l hj))
        ∙ ap₂ (squeezed cells n r count) (div-mul-add i n j hj) (mod-mul-add i n j hj)
    | inr l ↦
        q.still (i * n + j) (omega (arith, mul-le count n i n l (omega arith)))
        ∙ laid.clear i j hi hj (inl (omega (arith, count_is rows)))
        ∙ sym (cond-false _ _ _ (and_left _ _ (le-ltb (i + 1) count (omega arith))))
  ]

  cell_moved : (i j : ℕ) → i + 1 < count → j + 1 < count → get_or moved (i * n + j) 0 ≡ get_or cells (past r i * n + past r j) 0
  cell_moved i j hi hj =
      let l = few rows cells laid in
      at_row i j (omega arith) (omega arith) ∙ cond-true _ _ _ (and_from _ _ (lt-ltb (i + 1) count hi) (lt-ltb (j + 1) count hj))

  -- those that stay hold what they held
  held_moved : (o p : Option ℕ) → ((i : ℕ) → o ≡ Some i → i + 1 < count) → ((j : ℕ) → p ≡ Some j → j + 1 < count)
      → in_cell moved (cell_at n o p) ≡ in_cell cells (cell_at n (option_map (past r) o) (option_map (past r) p))
  held_moved (Some i) (Some j) f g = ap unpack (cell_moved i j (f i refl) (g j refl))
  held_moved (Some i) None f g = refl
  held_moved None (Some j) f g = refl
  held_moved None None f g = refl

  here : r < count
  here = (place_some es m r at).0

  stays : (a : ℕ) → eqb a m ≡ false → option_map (past r) (place_of (remove_at es r) a) ≡ place_of es a
  stays a f = place_left es r a here (λ e. eqb-false a m f (sym e ∙ (place_some es m r at).1))

  within : (a i : ℕ) → place_of (remove_at es r) a ≡ Some i → i + 1 < count
  within a i e = omega (arith, (place_some (remove_at es r) a i e).0, length_left es r here)

  removed_is : remove_at es r ≡ remove es m
  removed_is = remove_place 1 rows.next es m r rows.order.rising at

  gone : (a : ℕ) → eqb a m ≡ true → place_of (remove_at es r) a ≡ None
  gone a t = ap₂ place_of removed_is (eqb-true a m t) ∙ place_removed es m

  held_left : (a b : ℕ) → held (remove_at es r) n moved a b ≡ without (held es n cells) m a b
  held_left a b = elim (cases_Bool (eqb a m || eqb b m)) [
    | inl t ↦
        none_held moved n (place_of (remove_at es r) a) (place_of (remove_at es r) b) (elim (or_cases (eqb a m) (eqb b m) t) [ inl u ↦ inl (gone a u) | inr u ↦ inr (gone b u) ])
        ∙ sym (cond-true _ _ _ t)
    | inr f ↦
        let p = or_parts (eqb a m) (eqb b m) f in
        held_moved (place_of (remove_at es r) a) (place_of (remove_at es r) b) (within a) (within b)
        ∙ ap₂ (λ (x y : Option ℕ). in_cell cells (cell_at n x y)) (stays a p.0) (stays b p.1) ∙ sym (cond-false _ _ _ f)
  ]

  pub removed_state : meant (roll left) (size left) moved ≡ removed (meant (roll rows) n cells) m
  removed_state =
      ap₂ (λ (s : State) (k : ℕ). meant s k moved) (ap₂ (λ (x : ℕ) (l : List Entity). record { next = x; entities = l; tickets = λ h y. none }) next is_left) kept
      ∙ ap₂ (λ (l : List Entity) (t : Table). record { next = rows.next; entities = l; tickets = t }) removed_is (fun_ext (λ a. fun_ext (held_left a)))

  pub removed_laid : Laid left moved
  removed_laid =
      let less : suc left.count ≡ count = omega (arith, count_is left, ap length is_left, length_left es r here) in
      record {
        fits = rw (kept, long) laid.fits;
        nested = λ k. elim (cases_lt k (count * n)) [
          | inl l ↦ subst Nested (sym (q.moved k l)) (cond_both (ltb (k / n + 1) count && ltb (k % n + 1) count) _ _ Nested (λ e. laid.nested _) (λ e. refl))
          | inr l ↦ subst Nested (sym (q.still k l)) (laid.nested k)
        ];
        clear = subst (λ (k : ℕ). (i j : ℕ) → i < k → j < k → (left.count ≤ i) ⊎ (left.count ≤ j) → get_or moved (i * k + j) 0 ≡ 0) (sym kept)
            (λ i j hi hj out. at_row i j hi hj ∙ cond-false _ _ _ (elim out [
              | inl o ↦ and_left _ _ (le-ltb (i + 1) count (omega arith))
              | inr o ↦ and_right (ltb (i + 1) count) _ (le-ltb (j + 1) count (omega arith))
            ]));
      }
