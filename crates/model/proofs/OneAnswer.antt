-- A spread and an outlook have at most one answer, and leave at most one table.
use Rattle.std.proofs.Common.{◌≡◌, ℕ, ◌-◌, length, sym, refl, ap, ◌∙◌, subst, arith}
use Rattle.model.specs.Refusals.{Answer, granted}
use Rattle.model.specs.Scheme.{Scheme, Monotone}
use Rattle.model.specs.State.{State, Table, holding}
use Rattle.model.specs.Spread.{Closure}
use Rattle.model.specs.Outlook.{Drawing, Complete, Exceeds, limit, Outlook}
use Rattle.model.specs.Counts.{Counts, all_rights, Spreads, crowded, done, Outlooks, circle, few_rows, few_numbers, shown}
use Rattle.model.proofs.Closures.{one_closure}
use Rattle.model.proofs.Turns.{either_way}

module _ (S : Scheme) (m : Monotone S) (st : State) (w : ℕ) where
  abbrev Same : Answer Counts → Answer Counts → State → State → Type 0
  Same a b y z = (a ≡ b) × (y ≡ z)

  pub one_spread : (a b : Answer Counts) (y z : State) → Spreads S st w a y → Spreads S st w b z → Same a b y z
  one_spread a b y z (crowded k) (crowded l) = (refl, refl)
  one_spread a b y z (crowded k) (done u l q) = absurd (omega arith)
  one_spread a b y z (done t k p) (crowded l) = absurd (omega arith)
  one_spread a b y z (done t k p) (done u l q) =
      let e : t ≡ u = one_closure S st m t u p q in (
        ap (λ (v : Table). granted (record { made = 0; added = all_rights (holding st v) - all_rights st })) e,
        ap (holding st) e,
      )

  -- a drawing that is complete within the limit does not pass it
  fits : (d : Drawing) (t : Table) → Outlook S st w d t → Exceeds S st (limit st w) → ⊥
  fits d t o x = (either_way S st (limit st w)).not_both (subst (Complete S) o.drawn o.complete) x

  abbrev told : Drawing → Table → Answer Counts
  told d t = granted (record { made = length d.made; added = all_rights (holding d.state t) - all_rights st })

  one_shown : (d e : Drawing) (t u : Table) → d ≡ e → Closure S d.state t → Closure S e.state u → Same (told d t) (told e u) (holding d.state t) (holding e.state u)
  one_shown d e t u is p q =
      let v : t ≡ u = one_closure S e.state m t u (subst (λ (z : Drawing). Closure S z.state t) is p) q in (
        ap (λ (z : Drawing). told z t) is ∙ ap (told e) v,
        ap (λ (z : Drawing). holding z.state t) is ∙ ap (holding e.state) v,
      )

  pub one_outlook : (a b : Answer Counts) (y z : State) → Outlooks S st w a y → Outlooks S st w b z → Same a b y z
  one_outlook a b y z (circle c) (circle d) = (refl, refl)
  one_outlook a b y z (circle c) (crowded n l) = absurd (n c)
  one_outlook a b y z (circle c) (few_rows n l x k) = absurd (n c)
  one_outlook a b y z (circle c) (few_numbers n l x k) = absurd (n c)
  one_outlook a b y z (circle c) (shown d t o) = absurd (o.no_circle c)
  one_outlook a b y z (crowded n l) (circle c) = absurd (n c)
  one_outlook a b y z (crowded n l) (crowded p k) = (refl, refl)
  one_outlook a b y z (crowded n l) (few_rows p k x j) = (refl, refl)
  one_outlook a b y z (crowded n l) (few_numbers p k x j) = absurd (omega arith)
  one_outlook a b y z (crowded n l) (shown d t o) = absurd (omega (arith, o.fits))
  one_outlook a b y z (few_rows n l x k) (circle c) = absurd (n c)
  one_outlook a b y z (few_rows n l x k) (crowded p j) = (refl, refl)
  one_outlook a b y z (few_rows n l x k) (few_rows p j v i) = (refl, refl)
  one_outlook a b y z (few_rows n l x k) (few_numbers p j v i) = absurd (omega arith)
  one_outlook a b y z (few_rows n l x k) (shown d t o) = absurd (fits d t o x)
  one_outlook a b y z (few_numbers n l x k) (circle c) = absurd (n c)
  one_outlook a b y z (few_numbers n l x k) (crowded p j) = absurd (omega arith)
  one_outlook a b y z (few_numbers n l x k) (few_rows p j v i) = absurd (omega arith)
  one_outlook a b y z (few_numbers n l x k) (few_numbers p j v i) = (refl, refl)
  one_outlook a b y z (few_numbers n l x k) (shown d t o) = absurd (fits d t o x)
  one_outlook a b y z (shown d t o) (circle c) = absurd (o.no_circle c)
  one_outlook a b y z (shown d t o) (crowded n l) = absurd (omega (arith, o.fits))
  one_outlook a b y z (shown d t o) (few_rows n l x k) = absurd (fits d t o x)
  one_outlook a b y z (shown d t o) (few_numbers n l x k) = absurd (fits d t o x)
  one_outlook a b y z (shown d t o) (shown e u q) = one_shown d e t u (o.drawn ∙ sym q.drawn) o.spread q.spread
