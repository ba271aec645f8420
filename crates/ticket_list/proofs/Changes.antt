-- What a ticket list keeps true, and means, where an entity is added or removed and where a pair is stored.
use Rattle.std.proofs.Common.{◌≡◌, ℕ, Bool, true, false, cond, not, ◌&&◌, ◌||◌, eqb, ltb, leb, List, [], ◌∷◌, length, is_some, Some, None, Option, Ok, Err, Result, is_ok, sym, refl, ap, ◌∙◌, subst, ap₂, inl, inr, arith}
use mathlib.Core.Path.{fun_ext}
use Rattle.std.specs.List.{All}
use Rattle.std.proofs.lemmas.List.Elements.{All-cons, All-head, All-tail, All-weaker, All-filter, filter_passes, All-append}
use Rattle.std.proofs.lemmas.Bool.Decides.{nat_tests}
use Rattle.std.proofs.lemmas.Bool.{cases_Bool, cond-true, cond-false, cond_both, and_parts, and_from, and_left, and_right, or_cases, both_ways, lt-leb, le-leb, lt-ltb, le-ltb, eqb-true, cases_lt}
use Rattle.model.specs.declared.tickets.Entity.{Entity}
use Rattle.model.specs.declared.tickets.TicketSet.{TicketSet}
use Rattle.std.specs.Result.{MatchResult, IsErrAnd}
use Rattle.model.specs.declared.refusal.Refusal.{Refusal}
use Rattle.model.specs.declared.refusal.Refusal.TheVariants.{PairsTaken}
use Rattle.model.specs.Refusals.{Answer, granted, refused, told, refusal_number}
use Rattle.model.specs.Tickets.{tickets_of, none, empty}
use Rattle.model.specs.State.{State, Table, kind_in, standing, put, without, remove, added, removed, stored, filled, stores, holding}
use Rattle.model.specs.Calls.{after, store_answer}
use Rattle.model.proofs.Entities.{some_inside, push_old, still_kind}
use Rattle.model.proofs.Filling.{none_of, empty_by}
use Rattle.holdings.specs.declared.rows.Rows.{Rows}
use Rattle.holdings.specs.Rows.{size, in_rows, roll, place_of, remove_at}
use Rattle.holdings.proofs.Places.{standing_place, remove_place, remove_none}
use Rattle.ordered.specs.declared.entry.Entry.{Entry}
use Rattle.ordered.specs.declared.entry.Full.{Full}
use Rattle.ordered.specs.Entries.{Rising, before, same_key, value_of, entries_before, entries_after, take_out, keep}
use Rattle.ordered.specs.Entries.{put as put_entry}
use Rattle.ordered.specs.Lists.{has_place}
use Rattle.ticket_list.specs.declared.pairs.Pair.{Pair}
use Rattle.ticket_list.specs.Pairs.{pair_cmp, apart_from}
use Rattle.ticket_list.specs.Sizes.{fit}
use Rattle.ticket_list.specs.Listing.{Entries, tickets_in, held, meant, FilledPair, list_room, KeptList}
use Rattle.ticket_list.specs.Keeps.{standing_held}
use Rattle.ticket_list.proofs.Helds.{pair, held_put, held_out, held_others}
use Rattle.ticket_list.proofs.Counts.{filled_listed}

-- pairs stay filled while their parties stand
still_filled : (old now : List Entity) (es : Entries) → ((a : ℕ) → is_some (kind_in old a) ≡ true → is_some (kind_in now a) ≡ true) → All (FilledPair old) es → All (FilledPair now) es
still_filled old now es f a = All-weaker (FilledPair old) (FilledPair now) (λ e p. record { holder = f _ p.holder; target = f _ p.target; filled = p.filled }) es a

-- one entity more
module _ (rows left : Rows) (n : ℕ) (es : Entries) (kind : ℕ) (r : Answer ℕ) (kept : KeptList rows n es) (same : size left ≡ size rows)
    (state : roll left ≡ after r (added (roll rows) kind) (roll rows)) where
  more_standing : (a : Answer ℕ) (e : ℕ) → is_some (kind_in (in_rows rows) e) ≡ true → is_some (kind_in (after a (added (roll rows) kind) (roll rows)).entities e) ≡ true
  more_standing (granted v) e h =
      let k = some_inside (kind_in (in_rows rows) e) h in
      ap is_some (push_old (in_rows rows) record { number = rows.next; kind = kind } e k.0 k.1)
  more_standing (refused v) e h = h

  pub added_kept : KeptList left n es
  added_kept = record {
    fits = ap (λ (k : ℕ). fit k n) same ∙ kept.fits;
    filled = still_filled (in_rows rows) (in_rows left) es (λ e h. ap (λ (s : State). is_some (kind_in s.entities e)) state ∙ more_standing r e h) kept.filled;
  }

  added_meant : (a : Answer ℕ) → meant (after a (added (roll rows) kind) (roll rows)) es ≡ after a (added (meant (roll rows) es) kind) (meant (roll rows) es)
  added_meant (granted v) = refl
  added_meant (refused v) = refl

  pub added_state : meant (roll left) es ≡ after r (added (meant (roll rows) es) kind) (meant (roll rows) es)
  added_state = ap (λ (s : State). meant s es) state ∙ added_meant r

-- one entity less
module _ (rows left : Rows) (n k : ℕ) (es less : Entries) (m i : ℕ) (kept : KeptList rows n es) (at : place_of (in_rows rows) m ≡ Some i) (same : size left ≡ size rows)
    (next : left.next ≡ rows.next) (is_left : in_rows left ≡ remove_at (in_rows rows) i) (long : k ≡ n) (is_less : less ≡ keep (apart_from m) es) where
  gone : in_rows left ≡ remove (in_rows rows) m
  gone = is_left ∙ remove_place 1 rows.next (in_rows rows) m i rows.order.rising at

  apart_parts : (p : Pair) → apart_from m p ≡ true → (eqb p.holder m ≡ false) × (eqb p.target m ≡ false)
  apart_parts p e = (grind (arith, nat_tests), grind (arith, nat_tests))

  stays : (a : ℕ) → eqb a m ≡ false → is_some (kind_in (in_rows rows) a) ≡ true → is_some (kind_in (in_rows left) a) ≡ true
  stays a f h = ap (λ (es : List Entity). is_some (kind_in es a)) gone ∙ ap is_some (still_kind (in_rows rows) m a f) ∙ h

  still : (e : Entry Pair TicketSet) → FilledPair (in_rows rows) e → apart_from m e.key ≡ true → FilledPair (in_rows left) e
  still e f h =
      let p = apart_parts e.key h in
      record { holder = stays _ p.0 f.holder; target = stays _ p.1 f.target; filled = f.filled }

  pub removed_kept : KeptList left k less
  removed_kept = record {
    fits = ap₂ fit same long ∙ kept.fits;
    filled = subst (All (FilledPair (in_rows left))) (sym is_less)
        (λ j d l. still _ (All-filter (λ (e : Entry Pair TicketSet). apart_from m e.key) (FilledPair (in_rows rows)) es kept.filled j d l)
        (filter_passes (λ (e : Entry Pair TicketSet). apart_from m e.key) es j d l));
  }

  pub removed_state : meant (roll left) less ≡ removed (meant (roll rows) es) m
  removed_state =
      let tickets : held less ≡ without (held es) m = ap held is_less ∙ held_others es m in
      ap₂ (λ (n : ℕ) (es : List Entity). meant record { next = n; entities = es; tickets = λ h y. none } less) next gone
      ∙ ap (λ (t : Table). record { next = rows.next; entities = remove (in_rows rows) m; tickets = t }) tickets

-- what does not stand is not removed
module _ (rows : Rows) (n : ℕ) (es : Entries) (kept : KeptList rows n es) (m : ℕ) (away : place_of (in_rows rows) m ≡ None) where
  not_standing : (a : ℕ) → eqb a m ≡ true → is_some (kind_in (in_rows rows) a) ≡ true → ⊥
  not_standing a t h =
      both_ways (is_some (kind_in (in_rows rows) a)) (standing_place (in_rows rows) a ∙ ap (λ (n : ℕ). is_some (place_of (in_rows rows) n)) (eqb-true a m t) ∙ ap is_some away) h

  nothing_held : (a b : ℕ) → (eqb a m || eqb b m) ≡ true → held es a b ≡ none
  nothing_held a b t =
      none_of (held es a b) (empty_by (held es a b) (λ x c h.
      let s = standing_held (in_rows rows) es kept.filled (pair a b) x c h in
      elim (or_cases (eqb a m) (eqb b m) t) [ inl u ↦ not_standing a u s.0 | inr u ↦ not_standing b u s.1 ]))

  pub removed_none : meant (roll rows) es ≡ removed (meant (roll rows) es) m
  removed_none =
      ap₂ (λ (es : List Entity) (t : Table). record { next = rows.next; entities = es; tickets = t }) (sym (remove_none (in_rows rows) m away))
      (fun_ext (λ a. fun_ext (λ b. cond_both (eqb a m || eqb b m) none (held es a b) (λ s. held es a b ≡ s) (nothing_held a b) (λ f. refl))))

-- a pair is empty exactly where it is not listed
empty_unlisted : (standing : List Entity) (es : Entries) → All (FilledPair standing) es → (p : Pair) → empty (tickets_in (value_of pair_cmp es p)) ≡ not (is_some (value_of pair_cmp es p))
empty_unlisted standing [] a p = refl
empty_unlisted standing (e ∷ es) a p = elim (cases_Bool (same_key pair_cmp e.key p)) [
  | inl t ↦
      let is : value_of pair_cmp (e ∷ es) p ≡ Some e.value = cond-true _ _ _ t in
      ap (λ (o : Option TicketSet). empty (tickets_in o)) is ∙ (All-head (FilledPair standing) e es a).filled ∙ sym (ap (λ (o : Option TicketSet). not (is_some o)) is)
  | inr f ↦
      let is : value_of pair_cmp (e ∷ es) p ≡ value_of pair_cmp es p = cond-false _ _ _ f in
      ap (λ (o : Option TicketSet). empty (tickets_in o)) is ∙ empty_unlisted standing es (All-tail (FilledPair standing) e es a) p ∙ sym (ap (λ (o : Option TicketSet). not (is_some o)) is)
]

-- what is told of a pair that is put: that it has its place, or that no pair is left
abbrev pub put_told : Bool → Answer (Unit {0})
put_told true = granted tt
put_told false = refused 11

-- a full list is told as the refusal that no pair is left
pub told_full : (r : Result (Unit {0}) Full) (m : Result (Unit {0}) Refusal) (P : Full → Refusal → Type 0) → ((e : Full) (f : Refusal) → P e f → f ≡ PairsTaken)
    → MatchResult r (λ x. m ≡ Ok x) (λ e. IsErrAnd m (P e)) → told m ≡ put_told (is_ok r)
told_full (Ok x) m P h v = ap told v
told_full (Err e) (Ok x) P h v = absurd v
told_full (Err e) (Err f) P h v = ap (λ (g : Refusal). refused (refusal_number g)) (h e f v)

not_leb : (m n : ℕ) → not (leb m n) ≡ ltb n m
not_leb m n = grind (arith, nat_tests)

-- a pair is stored
module _ (rows : Rows) (n : ℕ) (es : Entries) (kept : KeptList rows n es) (rising : Rising pair_cmp es) where
  abbrev st : State
  st = meant (roll rows) es

  pub filled_is : filled st ≡ length es
  filled_is = filled_listed (roll rows) es rows.order.rising kept.filled rising

  module _ (h y : ℕ) (stand_h : is_some (kind_in (in_rows rows) h) ≡ true) (stand_y : is_some (kind_in (in_rows rows) y) ≡ true) (s : TicketSet) where
    stand : (standing st h && standing st y) ≡ true
    stand = and_from (standing st h) (standing st y) stand_h stand_y

    -- an empty set always finds a place, and another one where the pair is listed or a place is left
    pub stores_none : empty (tickets_of s) ≡ true → granted tt ≡ store_answer (list_room rows n) st h y (tickets_of s)
    stores_none e =
        let off : (empty (held es h y) && not (empty (tickets_of s)) && leb n (filled st)) ≡ false =
        and_left _ (leb n (filled st)) (and_right (empty (held es h y)) _ (ap not e)) in
        sym (cond-true _ _ _ stand ∙ cond-true _ _ _ (ap not off))

    by_place : empty (tickets_of s) ≡ false → stores (list_room rows n) st h y (tickets_of s) ≡ has_place pair_cmp es n (pair h y)
    by_place e =
        ap₂ (λ (a b : Bool). not (a && not b && leb n (filled st))) (empty_unlisted (in_rows rows) es kept.filled (pair h y)) e
        ∙ ap (λ (k : ℕ). not (not (is_some (value_of pair_cmp es (pair h y))) && true && leb n k)) filled_is
        ∙ either (is_some (value_of pair_cmp es (pair h y)))
      where
        either : (b : Bool) → not (not b && true && leb n (length es)) ≡ (b || ltb (length es) n)
        either true = refl
        either false = not_leb n (length es)

    stores_some : empty (tickets_of s) ≡ false → has_place pair_cmp es n (pair h y) ≡ true → granted tt ≡ store_answer (list_room rows n) st h y (tickets_of s)
    stores_some e p = sym (cond-true _ _ _ stand ∙ cond-true _ _ _ (by_place e ∙ p))

    stores_not : empty (tickets_of s) ≡ false → has_place pair_cmp es n (pair h y) ≡ false → refused 11 ≡ store_answer (list_room rows n) st h y (tickets_of s)
    stores_not e p = sym (cond-true _ _ _ stand ∙ cond-false _ _ _ (by_place e ∙ p))

    pub stores_by : empty (tickets_of s) ≡ false → (b : Bool) → b ≡ has_place pair_cmp es n (pair h y) → put_told b ≡ store_answer (list_room rows n) st h y (tickets_of s)
    stores_by e true p = stores_some e (sym p)
    stores_by e false p = stores_not e (sym p)

    -- the list afterwards
    module _ (k : ℕ) (left : Entries) (long : k ≡ n) where
      kept_with : All (FilledPair (in_rows rows)) left → KeptList rows k left
      kept_with a = record { fits = ap (fit (size rows)) long ∙ kept.fits; filled = a }

      abbrev fronts : Entries
      fronts = entries_before pair_cmp es (pair h y)

      abbrev behinds : Entries
      behinds = entries_after pair_cmp es (pair h y)

      before_filled : All (FilledPair (in_rows rows)) fronts
      before_filled = All-filter (λ (e : Entry Pair TicketSet). before pair_cmp e.key (pair h y)) (FilledPair (in_rows rows)) es kept.filled

      after_filled : All (FilledPair (in_rows rows)) behinds
      after_filled = All-filter (λ (e : Entry Pair TicketSet). before pair_cmp (pair h y) e.key) (FilledPair (in_rows rows)) es kept.filled

      put_kept : empty (tickets_of s) ≡ false → left ≡ put_entry pair_cmp es (pair h y) s → KeptList rows k left
      put_kept e is =
          let new : Entry Pair TicketSet = record { key = pair h y; value = s } in
          kept_with (subst (All (FilledPair (in_rows rows))) (sym is) (All-append (FilledPair (in_rows rows)) fronts (new ∷ behinds) before_filled
          (All-cons (FilledPair (in_rows rows)) new behinds record { holder = stand_h; target = stand_y; filled = e } after_filled)))

      put_state : left ≡ put_entry pair_cmp es (pair h y) s → meant (roll rows) left ≡ stored st h y (tickets_of s)
      put_state is = ap (holding (roll rows)) (ap held is ∙ held_put es h y s)

      pub out_kept : left ≡ take_out pair_cmp es (pair h y) → KeptList rows k left
      out_kept is =
          kept_with (subst (All (FilledPair (in_rows rows))) (sym is) (All-append (FilledPair (in_rows rows)) fronts behinds before_filled after_filled))

      pub out_state : empty (tickets_of s) ≡ true → left ≡ take_out pair_cmp es (pair h y) → meant (roll rows) left ≡ stored st h y (tickets_of s)
      out_state e is = ap (holding (roll rows)) (ap held is ∙ held_out es h y ∙ ap (put (held es) h y) (sym (none_of (tickets_of s) e)))

      same_kept : left ≡ es → KeptList rows k left
      same_kept is = kept_with (subst (All (FilledPair (in_rows rows))) (sym is) kept.filled)

      pub by_kept : empty (tickets_of s) ≡ false → (b : Bool) → left ≡ cond b (put_entry pair_cmp es (pair h y) s) es → KeptList rows k left
      by_kept e true is = put_kept e is
      by_kept e false is = same_kept is

      pub by_state : (b : Bool) → left ≡ cond b (put_entry pair_cmp es (pair h y) s) es → meant (roll rows) left ≡ after (put_told b) (stored st h y (tickets_of s)) st
      by_state true is = put_state is
      by_state false is = ap (meant (roll rows)) is
