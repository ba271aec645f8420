-- What is held once a pair was put or taken out, and once an entity's pairs are gone.
use Rattle.std.proofs.Common.{◌≡◌, ℕ, Bool, true, false, cond, not, ◌&&◌, ◌||◌, eqb, ◌∷◌, Some, None, Option, sym, refl, ap, ◌∙◌, ap₂, inl, inr, arith}
use mathlib.Core.Path.{fun_ext}
use Rattle.std.proofs.lemmas.Bool.Decides.{nat_tests}
use Rattle.std.proofs.lemmas.Bool.{cases_Bool, and_parts, and_from, eqb-true, eq-eqb, both_ways}
use Rattle.model.specs.declared.tickets.TicketSet.{TicketSet}
use Rattle.model.specs.Tickets.{Tickets, tickets_of, none}
use Rattle.model.specs.State.{put, without}
use Rattle.ordered.specs.declared.entry.Entry.{Entry}
use Rattle.ordered.specs.Entries.{same_key, value_of, take_out, keep}
use Rattle.ordered.specs.Entries.{put as put_entry}
use Rattle.std.specs.Ordering.{is_eq}
use Rattle.std.proofs.lemmas.Cmp.{tied_itself}
use Rattle.ordered.proofs.Orders.{is_equal}
use Rattle.ordered.proofs.Values.{value_keep, value_put, value_out}
use Rattle.ticket_list.specs.declared.pairs.Pair.{Pair}
use Rattle.ticket_list.specs.Pairs.{pair_cmp, apart_from}
use Rattle.ticket_list.specs.PairOrder.{pair_total, equal_same}
use Rattle.ticket_list.specs.Listing.{Entries, tickets_in, held}

abbrev pub pair : ℕ → ℕ → Pair
pair h y = record { holder = h; target = y }

-- two pairs are the same where holder and target are
pub same_pair : (p : Pair) (a b : ℕ) → same_key pair_cmp p (pair a b) ≡ (eqb a p.holder && eqb b p.target)
same_pair p a b = grind (arith, nat_tests)

in_cond : (b : Bool) (o p : Option TicketSet) → tickets_in (cond b o p) ≡ cond b (tickets_in o) (tickets_in p)
in_cond true o p = refl
in_cond false o p = refl

-- one entry in front
pub held_first : (e : Entry Pair TicketSet) (es : Entries) → held (e ∷ es) ≡ put (held es) e.key.holder e.key.target (tickets_of e.value)
held_first e es = fun_ext (λ a. fun_ext (λ b.
    in_cond (same_key pair_cmp e.key (pair a b)) (Some e.value) (value_of pair_cmp es (pair a b))
    ∙ ap (λ (t : Bool). cond t (tickets_of e.value) (held es a b)) (same_pair e.key a b)))

pub held_put : (es : Entries) (h y : ℕ) (s : TicketSet) → held (put_entry pair_cmp es (pair h y) s) ≡ put (held es) h y (tickets_of s)
held_put es h y s = fun_ext (λ a. fun_ext (λ b.
    ap tickets_in (value_put pair_total es (pair h y) (pair a b) s)
    ∙ in_cond (same_key pair_cmp (pair h y) (pair a b)) (Some s) (value_of pair_cmp es (pair a b))
    ∙ ap (λ (t : Bool). cond t (tickets_of s) (held es a b)) (same_pair (pair h y) a b)))

pub held_out : (es : Entries) (h y : ℕ) → held (take_out pair_cmp es (pair h y)) ≡ put (held es) h y none
held_out es h y = fun_ext (λ a. fun_ext (λ b.
    ap tickets_in (value_out pair_total es (pair h y) (pair a b))
    ∙ in_cond (same_key pair_cmp (pair h y) (pair a b)) None (value_of pair_cmp es (pair a b))
    ∙ ap (λ (t : Bool). cond t none (held es a b)) (same_pair (pair h y) a b)))

either : (p q : Bool) (s : Tickets) → cond (not p && not q) s none ≡ cond (p || q) none s
either true q s = refl
either false true s = refl
either false false s = refl

pub held_others : (es : Entries) (e : ℕ) → held (keep (apart_from e) es) ≡ without (held es) e
held_others es e = fun_ext (λ a. fun_ext (λ b.
    ap tickets_in (value_keep pair_total (apart_from e) (λ p q h. ap (apart_from e) (equal_same p q h)) es (pair a b))
    ∙ in_cond (apart_from e (pair a b)) (value_of pair_cmp es (pair a b)) None ∙ either (eqb a e) (eqb b e) (held es a b)))
