-- Sets gained one after another: for one pair they are joined, and for two pairs the order does not matter. So one entity that is
-- both parents of a child gains what its two parts join to.
use Rattle.std.proofs.Common.{◌≡◌, ℕ, Bool, true, false, ◌&&◌, ◌||◌, eqb, sym, refl, ap, ◌∙◌, ap₂, inl, inr}
use mathlib.Core.Path.{fun_ext}
use lib.Bits.{bit_or}
use Rattle.std.proofs.lemmas.Bool.{cases_Bool, cond-true, eqb-true, and_parts, and_left, and_right}
use Rattle.model.specs.Tickets.{Tickets, bit, join}
use Rattle.model.specs.Scheme.{Part}
use Rattle.model.specs.State.{Table, gain}
use Rattle.model.specs.Calls.{give}
use Rattle.model.proofs.Bits.{bit-bit_or, same_bits}
use Rattle.model.proofs.Filling.{put_at, put_off}

join_assoc : (s t u : Tickets) → join (join s t) u ≡ join s (join t u)
join_assoc s t u = ap₂ (λ (p q : ℕ). record { plain = p; copyable = q }) (masks s.plain t.plain u.plain) (masks s.copyable t.copyable u.copyable)
  where
    either : (a b c : Bool) → ((a || b) || c) ≡ (a || (b || c))
    either true b c = refl
    either false b c = refl

    masks : (a b c : ℕ) → bit_or (bit_or a b) c ≡ bit_or a (bit_or b c)
    masks a b c = same_bits (bit_or (bit_or a b) c) (bit_or a (bit_or b c)) (λ x.
        bit-bit_or x (bit_or a b) c ∙ ap (λ (q : Bool). q || bit x c) (bit-bit_or x a b) ∙ either (bit x a) (bit x b) (bit x c)
        ∙ sym (bit-bit_or x a (bit_or b c) ∙ ap (λ (q : Bool). bit x a || q) (bit-bit_or x b c)))

-- one pair gains twice
pub gain_twice : (t : Table) (h y : ℕ) (s u : Tickets) → gain (gain t h y s) h y u ≡ gain t h y (join s u)
gain_twice t h y s u = fun_ext (λ a. fun_ext (λ b. elim (cases_Bool (eqb a h && eqb b y)) [
  | inl e ↦
      cond-true (eqb a h && eqb b y) _ _ e ∙ ap (λ (v : Tickets). join v u) (put_at t h y (join (t h y) s)) ∙ join_assoc (t h y) s u
      ∙ sym (cond-true (eqb a h && eqb b y) (join (t h y) (join s u)) (t a b) e)
  | inr f ↦ put_off (gain t h y s) h y _ a b f ∙ put_off t h y _ a b f ∙ sym (put_off t h y (join (t h y) (join s u)) a b f)
]))

-- two pairs that differ gain in either order
module _ (t : Table) (h y k z : ℕ) (s u : Tickets) (far : (eqb k h && eqb z y) ≡ false) (near : (eqb h k && eqb y z) ≡ false) where
  not_both : (a b : ℕ) → (eqb a k && eqb b z) ≡ true → (eqb a h && eqb b y) ≡ false
  not_both a b e =
      let p = and_parts (eqb a k) (eqb b z) e in
      ap₂ (λ (i j : ℕ). eqb i h && eqb j y) (eqb-true a k p.0) (eqb-true b z p.1) ∙ far

  pub gain_swap : gain (gain t h y s) k z u ≡ gain (gain t k z u) h y s
  gain_swap = fun_ext (λ a. fun_ext (λ b. elim (cases_Bool (eqb a k && eqb b z)) [
    | inl e ↦
        cond-true (eqb a k && eqb b z) _ _ e ∙ ap (λ (v : Tickets). join v u) (put_off t h y (join (t h y) s) k z far)
        ∙ sym (put_off (gain t k z u) h y _ a b (not_both a b e) ∙ cond-true (eqb a k && eqb b z) (join (t k z) u) (t a b) e)
    | inr f ↦ put_off (gain t h y s) k z _ a b f ∙ elim (cases_Bool (eqb a h && eqb b y)) [
      | inl e ↦
          cond-true (eqb a h && eqb b y) (join (t h y) s) (t a b) e
          ∙ sym (cond-true (eqb a h && eqb b y) _ _ e ∙ ap (λ (v : Tickets). join v s) (put_off t k z (join (t k z) u) h y near))
      | inr g ↦ put_off t h y _ a b g ∙ sym (put_off (gain t k z u) h y _ a b g ∙ put_off t k z _ a b f)
    ]
  ]))

-- two parts of one parent are one part: the joined sets
pub give_twice : (t : Table) (p q r : Part) (a n : ℕ) → eqb a n ≡ false → eqb n a ≡ false
    → r.for_child ≡ join p.for_child q.for_child → r.for_self ≡ join p.for_self q.for_self → r.to_child ≡ join p.to_child q.to_child
    → give t r a n ≡ give (give t p a n) q a n
give_twice t p q r a n e f c s g =
    let C : Table = gain t a n p.for_child in
    let CS : Table = gain C a a p.for_self in
    let CC : Table = gain C a n q.for_child in
    let CCS : Table = gain CC a a p.for_self in
    let CCSS : Table = gain CCS a a q.for_self in
    sym (
    ap (λ (u : Table). gain (gain u a a q.for_self) n a q.to_child)
    (gain_swap CS n a a n p.to_child q.for_child (and_left (eqb a n) (eqb n a) e) (and_left (eqb n a) (eqb a n) f)
    ∙ ap (λ (u : Table). gain u n a p.to_child) (gain_swap C a a a n p.for_self q.for_child (and_right (eqb a a) (eqb n a) f) (and_right (eqb a a) (eqb a n) e)))
    ∙ ap (λ (u : Table). gain u n a q.to_child) (gain_swap CCS n a a a p.to_child q.for_self (and_left (eqb a n) (eqb a a) e) (and_left (eqb n a) (eqb a a) f))
    ∙ gain_twice CCSS n a p.to_child q.to_child
    ∙ ap (λ (u : Table). gain u n a (join p.to_child q.to_child)) (gain_twice CC a a p.for_self q.for_self)
    ∙ ap (λ (u : Table). gain (gain u a a (join p.for_self q.for_self)) n a (join p.to_child q.to_child)) (gain_twice t a n p.for_child q.for_child)
    ∙ ap (λ (v : Tickets). gain (gain (gain t a n v) a a (join p.for_self q.for_self)) n a (join p.to_child q.to_child)) (sym c)
    ∙ ap (λ (v : Tickets). gain (gain (gain t a n r.for_child) a a v) n a (join p.to_child q.to_child)) (sym s)
    ∙ ap (λ (v : Tickets). gain (gain (gain t a n r.for_child) a a r.for_self) n a v) (sym g))
