-- As many pairs are filled as are listed.
use Rattle.std.proofs.Common.{◌≡◌, ℕ, ◌+◌, ◌-◌, ◌≤◌, leb, List, [], ◌∷◌, length, sym, refl, ap, ◌∙◌, inl, inr, arith}
use Rattle.std.specs.List.{All}
use Rattle.std.proofs.lemmas.List.Elements.{All-head, All-tail}
use Rattle.std.proofs.lemmas.Bool.{cond-false}
use Rattle.std.proofs.lemmas.Bool.Decides.{nat_tests}
use Rattle.model.specs.declared.tickets.Entity.{Entity}
use Rattle.model.specs.Tickets.{tickets_of, empty}
use Rattle.model.specs.State.{State, Table, count_targets, count_pairs, filled, put, takes}
use Rattle.model.specs.Laws.{Rising}
use Rattle.model.proofs.Filling.{pairs_put}
use Rattle.ordered.specs.Entries.{Rising as KeysRise}
use Rattle.ordered.proofs.Orders.{not_there}
use Rattle.ticket_list.specs.Pairs.{pair_cmp}
use Rattle.ticket_list.specs.PairOrder.{pair_total}
use Rattle.ticket_list.specs.Listing.{Entries, tickets_in, held, meant, FilledPair}
use Rattle.ticket_list.proofs.Helds.{held_first}

no_targets : (h : ℕ) (ys : List Entity) → count_targets (held []) h ys ≡ 0
no_targets h [] = refl
no_targets h (y ∷ ys) = omega (arith, no_targets h ys)

no_pairs : (hs ys : List Entity) → count_pairs (held []) hs ys ≡ 0
no_pairs [] ys = refl
no_pairs (h ∷ hs) ys = omega (arith, no_targets h.number ys, no_pairs hs ys)

pub filled_listed : (st : State) (es : Entries) → Rising 1 st.entities st.next → All (FilledPair st.entities) es → KeysRise pair_cmp es
    → filled (meant st es) ≡ length es
filled_listed st [] r a k = no_pairs st.entities st.entities
filled_listed st (e ∷ es) r a k =
    let first = All-head (FilledPair st.entities) e es a in
    let h = e.key.holder in
    let y = e.key.target in
    let s = tickets_of e.value in
    let was : ◌≡◌ {A = ℕ} (takes (held es h y)) 0 = ap (λ o. takes (tickets_in o)) (not_there pair_total es e.key k.0) in
    let now : ◌≡◌ {A = ℕ} (takes s) 1 = cond-false (empty s) 0 1 first.filled in
    let whole : count_pairs (held (e ∷ es)) st.entities st.entities ≡ count_pairs (put (held es) h y s) st.entities st.entities =
    ap (λ (t : Table). count_pairs t st.entities st.entities) (held_first e es) in
    omega (arith, filled_listed st es r (All-tail (FilledPair st.entities) e es a) k.1, pairs_put (held es) h y s 1 1 st.next st.entities st.entities r r first.holder first.target)

-- so many fit beside n of m exactly where n and they fit in m
pub beside : (more n m : ℕ) → n ≤ m → leb more (m - n) ≡ leb (n + more) m
beside more n m h = grind (arith, nat_tests)
