-- Lists of keys with values, in rising order of the keys: what is found, put, taken out and kept.
use Rattle.std.specs.Prelude.{◌≡◌, Bool, cond, List, [], ◌∷◌, ◌++◌, Some, None, filter, Option, ⊤}
use Rattle.std.specs.Coded.{×_prop, Π_prop, →_prop, Unit-prop}
use Rattle.std.specs.List.{All}
use Rattle.std.specs.declared.cmp.Ordering.{Ordering}
use Rattle.std.specs.declared.cmp.Ordering.TheVariants.{Less}
use Rattle.std.specs.Ordering.{Ordering-set, is_lt, is_eq}
use Rattle.ordered.specs.declared.entry.Entry.{Entry}

-- how two keys compare
abbrev pub Order : Type 0 → Type 0
Order K = K → K → Ordering

-- whether the first key comes before the second
abbrev pub before : {K : Type 0} → Order K → K → K → Bool
before cmp j k = is_lt (cmp j k)

-- neither key comes before the other: it is the same key
abbrev pub same_key : {K : Type 0} → Order K → K → K → Bool
same_key cmp j k = is_eq (cmp j k)

-- keys rise strictly: each comes before all that follow
abbrev pub Rising : {K V : Type 0} → Order K → List (Entry K V) → Type 0
Rising cmp [] = ⊤
Rising cmp (e ∷ es) = All (λ f. cmp e.key f.key ≡ Less) es × Rising cmp es

-- in one way only
pub Rising-prop : {K V : Type 0} (cmp : Order K) (es : List (Entry K V)) → IsProp (Rising cmp es)
Rising-prop cmp [] = Unit-prop
Rising-prop cmp (e ∷ es) = ×_prop (Π_prop (λ k. Π_prop (λ d. →_prop (Ordering-set _ _)))) (Rising-prop cmp es)

-- the value of key k, where it is in the list
abbrev pub value_of : {K V : Type 0} → Order K → List (Entry K V) → K → Option V
value_of cmp [] k = None
value_of cmp (e ∷ es) k = cond (same_key cmp e.key k) (Some e.value) (value_of cmp es k)

-- the entries before key k, and those after it
abbrev pub entries_before : {K V : Type 0} → Order K → List (Entry K V) → K → List (Entry K V)
entries_before cmp es k = filter (λ e. before cmp e.key k) es

abbrev pub entries_after : {K V : Type 0} → Order K → List (Entry K V) → K → List (Entry K V)
entries_after cmp es k = filter (λ e. before cmp k e.key) es

-- the list with value v for key k, whether or not k was there
abbrev pub put : {K V : Type 0} → Order K → List (Entry K V) → K → V → List (Entry K V)
put cmp es k v = entries_before cmp es k ++ record { key = k; value = v } ∷ entries_after cmp es k

-- the list without key k
abbrev pub take_out : {K V : Type 0} → Order K → List (Entry K V) → K → List (Entry K V)
take_out cmp es k = entries_before cmp es k ++ entries_after cmp es k

-- the entries whose keys stay
abbrev pub keep : {K V : Type 0} → (K → Bool) → List (Entry K V) → List (Entry K V)
keep stays es = filter (λ e. stays e.key) es

-- an answer to the key of an entry
abbrev pub AtKey : {K V : Type 0} → (K → Bool → Type 0) → ⊤ → Entry K V → Bool → ⊤ → Type 0
AtKey post was e b is = post e.key b

-- every answer to a key is what the test says
abbrev pub Answers : {K : Type 0} → (K → Bool → Type 0) → (K → Bool) → Type 0
Answers {K} post test = (k : K) (b : Bool) → post k b → b ≡ test k
