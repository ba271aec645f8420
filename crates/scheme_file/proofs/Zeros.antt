-- Masks of rights below a number.
use Rattle.std.proofs.Common.{◌≡◌, ℕ, ◌*◌, ◌/◌, ◌^◌, ◌<◌, ◌≤◌, eqb, ltb, leb, sym, ap, ◌∙◌, inl, inr, zero-mul, arith, pow_mono}
use native.Mathlib.Nat.{div-eq_of_lt}
use lib.Pow.{split}
use Rattle.std.proofs.lemmas.Nat.{pow_pos, mod_below}
use Rattle.std.proofs.lemmas.Bool.{ne_eqb, eq-eqb, le-leb, lt-ltb, le-ltb, cases_lt}

-- a mask of 16 bits has only rights below 16
pub below_all : (m r : ℕ) → 16 ≤ r → m < 65536 → leb 16 r ≡ ltb m (2 ^ r)
below_all m r h l = let p : 2 ^ 16 ≤ 2 ^ r = pow_mono h in le-leb 16 r h ∙ sym (lt-ltb m (2 ^ r) (omega arith))

-- nothing is left of a mask that is shifted past its rights
pub below_shift : (m r : ℕ) → eqb (m / 2 ^ r) 0 ≡ ltb m (2 ^ r)
below_shift m r = elim (cases_lt m (2 ^ r)) [
  | inl l ↦ eq-eqb (m / 2 ^ r) 0 (div-eq_of_lt l) ∙ sym (lt-ltb m (2 ^ r) l)
  | inr g ↦
      let none : m / 2 ^ r ≡ 0 → m / 2 ^ r * 2 ^ r ≡ 0 = λ e. ap (λ (k : ℕ). k * 2 ^ r) e ∙ zero-mul (2 ^ r) in
      ne_eqb (m / 2 ^ r) 0 (λ e. omega (arith, none e, split m r, mod_below m (2 ^ r) (pow_pos r))) ∙ sym (le-ltb m (2 ^ r) g)
]
