-- What a ticket list keeps true makes its meaning orderly.
use Rattle.std.specs.Prelude.{◌≡◌, ℕ, Bool, true, false, List, [], ◌∷◌, is_some, Some, None, Option}
use Rattle.std.proofs.Common.{inl, inr, sym, ap, subst, ◌∙◌}
use Rattle.std.specs.List.{All}
use Rattle.std.proofs.lemmas.List.Elements.{All-head, All-tail}
use Rattle.std.proofs.lemmas.Bool.{cases_Bool, cond-false}
use Rattle.model.specs.declared.tickets.Entity.{Entity}
use Rattle.model.specs.declared.tickets.TicketSet.{TicketSet}
use Rattle.model.specs.Tickets.{has}
use Rattle.model.specs.State.{kind_in}
use Rattle.model.specs.Laws.{Orderly}
use Rattle.model.proofs.Bits.{bit_within}
use Rattle.model.proofs.Tables.{none_has}
use Rattle.holdings.specs.declared.rows.Rows.{Rows}
use Rattle.holdings.specs.Rows.{in_rows, roll}
use Rattle.ordered.specs.Entries.{same_key, value_of}
use Rattle.ordered.proofs.Orders.{is_equal}
use Rattle.ticket_list.specs.declared.pairs.Pair.{Pair}
use Rattle.ticket_list.specs.Pairs.{pair_cmp}
use Rattle.ticket_list.specs.PairOrder.{equal_same}
use Rattle.ticket_list.specs.Listing.{Entries, tickets_in, meant, FilledPair, KeptList}

-- holder and target of a ticket that is held stand
pub standing_held : (standing : List Entity) (es : Entries) → All (FilledPair standing) es → (p : Pair) (x : ℕ) (c : Bool)
    → has (tickets_in (value_of pair_cmp es p)) x c ≡ true → (is_some (kind_in standing p.holder) ≡ true) × (is_some (kind_in standing p.target) ≡ true)
standing_held standing [] a p x c h = none_has x c h
standing_held standing (e ∷ es) a p x c h = elim (cases_Bool (same_key pair_cmp e.key p)) [
  | inl t ↦
      let first = All-head (FilledPair standing) e es a in
      subst (λ (q : Pair). (is_some (kind_in standing q.holder) ≡ true) × (is_some (kind_in standing q.target) ≡ true)) (equal_same e.key p (is_equal _ t)) (first.holder, first.target)
  | inr f ↦ standing_held standing es (All-tail (FilledPair standing) e es a) p x c (ap (λ (o : Option TicketSet). has (tickets_in o) x c) (sym (cond-false _ _ _ f)) ∙ h)
]

-- a ticket set has its copyable rights among the plain ones
nested_in : (o : Option TicketSet) (x : ℕ) → has (tickets_in o) x true ≡ true → has (tickets_in o) x false ≡ true
nested_in (Some s) x h = bit_within s.plain s.copyable x s.nested h
nested_in None x h = h

pub list_orderly : (rows : Rows) (n : ℕ) (es : Entries) → KeptList rows n es → Orderly (meant (roll rows) es)
list_orderly rows n es kept = record {
  rising = rows.order.rising;
  numbers = rows.order.numbers;
  only_standing = λ h y x c e. standing_held (in_rows rows) es kept.filled record { holder = h; target = y } x c e;
  nested = λ h y x e. nested_in (value_of pair_cmp es record { holder = h; target = y }) x e;
}
