-- The card scheme is well formed.
use Rattle.std.specs.Prelude.{◌==◌, refl}
use Rattle.std.proofs.Common.{lit<, lit≤}
use Rattle.model.specs.Scheme.{Monotone, WellFormed}
use Rattle.model.proofs.Bits.{bit_below}
use Rattle.scheme.specs.Card.{card_scheme, filters, is_on, demands, is_by, x_holds, y_holds, t, g, o, take_grant, owner}
use Rattle.scheme.specs.Lawful.{looked_up_proper, child_by, first_by, second_by, distinct_by, or_more, cond_more}

-- more rights never turn a link off
links_monotone : Monotone card_scheme
links_monotone i s s' m h =
    cond_more (i == take_grant) _ _ _ _
    (or_more (x_holds s g) (y_holds s t) (x_holds s' g) (y_holds s' t) (m.xy g) (m.yx t))
    (cond_more (i == owner) _ _ _ _ (or_more (x_holds s o) (y_holds s o) (x_holds s' o) (y_holds s' o) (m.xy o) (m.yx o)) (λ z. z))
    h

pub card_well_formed : WellFormed card_scheme
card_well_formed = record {
  few_kinds = lit≤ tt;
  few_rights = lit≤ tt;
  few_links = lit≤ tt;
  control_known = λ x. bit_below card_scheme.rights card_scheme.control x (lit< tt);
  monotone = links_monotone;
  filters = λ i a b y. looked_up_proper card_scheme (is_on i a b y) (λ e. e.passes) filters refl;
  demands = λ b y. looked_up_proper card_scheme (is_by b y) (λ e. e.demands) demands refl;
  children = child_by card_scheme refl;
  firsts = first_by card_scheme refl;
  seconds = λ i r p e q. second_by card_scheme refl i r e p q;
  distinct = distinct_by card_scheme refl;
}
