-- Bits of masks: of a union, a meet and a power of two; and masks with the same bits are the same.
use Rattle.std.proofs.Common.{◌≡◌, ℕ, zero, suc, ◌+◌, ◌-◌, ◌*◌, ◌/◌, ◌%◌, ◌^◌, ◌<◌, ◌≤◌, min, max, Bool, true, false, not, ◌&&◌, ◌||◌, eqb, sym, refl, ap, ◌∙◌, subst, inl, inr, suc-mul, pow-suc, zero-mul, arith, pow_mono, pow-add}
use native.Mathlib.Nat.{zero-div, div-eq_of_lt, div_self, mul-mod_left}
use lib.Bits.{bit_or, bit_and, or_shr, or_step, and_shr, and_block, or_disjoint, and_step, and_zero_r}
use lib.Pow.{pow-lt, shl-shr, split, high}
use Rattle.std.proofs.lemmas.Nat.{pow_pos, mod_below, shr-shr}
use Rattle.std.proofs.lemmas.Bool.{eqb-true, eq-eqb, ne_eqb, eqb-false, cases_order, cases_Bool, cases_lt, both_ways, or_right}
use Rattle.std.proofs.lemmas.Bool.Decides.{nat_tests}
use Rattle.model.specs.Tickets.{bit}
use Rattle.model.specs.Calls.{less}

pub bit_zero : (x : ℕ) → bit x 0 ≡ false
bit_zero x = rw zero-div

or_odd : (p q : ℕ) → bit_or p q % 2 ≡ max (p % 2) (q % 2)
or_odd p q = omega (arith, or_step p q)

odd_max : (p q : ℕ) → eqb (max (p % 2) (q % 2)) 1 ≡ (eqb (p % 2) 1 || eqb (q % 2) 1)
odd_max p q = grind (arith, nat_tests)

pub bit-bit_or : (x a b : ℕ) → bit x (bit_or a b) ≡ (bit x a || bit x b)
bit-bit_or x a b = rw (or_shr a b x, or_odd (a / 2 ^ x) (b / 2 ^ x)) (odd_max (a / 2 ^ x) (b / 2 ^ x))

and_odd : (p q : ℕ) → bit_and p q % 2 ≡ min (p % 2) (q % 2)
and_odd p q = omega (arith, and_step p q)

odd_min : (p q : ℕ) → eqb (min (p % 2) (q % 2)) 1 ≡ (eqb (p % 2) 1 && eqb (q % 2) 1)
odd_min p q = grind (arith, nat_tests)

pub bit-bit_and : (x a b : ℕ) → bit x (bit_and a b) ≡ (bit x a && bit x b)
bit-bit_and x a b = rw (and_shr a b x, and_odd (a / 2 ^ x) (b / 2 ^ x)) (odd_min (a / 2 ^ x) (b / 2 ^ x))

-- a mask below 2 ^ k has only rights below k
pub bit_below : (k m x : ℕ) → m < 2 ^ k → bit x m ≡ true → x < k
bit_below k m x l h = elim (cases_lt x k) [
  | inl b ↦ b
  | inr b ↦ let p : 2 ^ k ≤ 2 ^ x = pow_mono b in
      let z : m / 2 ^ x ≡ 0 = div-eq_of_lt (omega arith) in
      absurd (both_ways (bit x m) (ap (λ (n : ℕ). eqb (n % 2) 1) z) h)
]

-- rights of one mask are among those of another
pub bit_within : (m n x : ℕ) → bit_or m n ≡ m → bit x n ≡ true → bit x m ≡ true
bit_within m n x e h = sym (ap (λ (i : ℕ). bit x i) e) ∙ bit-bit_or x m n ∙ or_right (bit x m) (bit x n) h

-- the bit above is the bit of the half
bit_suc : (x m : ℕ) → bit (suc x) m ≡ bit x (m / 2)
bit_suc x m =
    let e : 2 ^ suc x ≡ 2 ^ (1 + x) = ap (λ n. 2 ^ n) (omega arith) in
    ap (λ n. eqb (n % 2) 1) (ap (λ n. m / n) e ∙ sym (shr-shr m 1 x))

same_low : (m n : ℕ) → bit 0 m ≡ bit 0 n → m % 2 ≡ n % 2
same_low m n e = go (bit 0 m) (bit 0 n) refl refl e
  where
    go : (a b : Bool) → bit 0 m ≡ a → bit 0 n ≡ b → a ≡ b → m % 2 ≡ n % 2
    go true true p q r = omega (arith, eqb-true (m / 1 % 2) 1 p, eqb-true (n / 1 % 2) 1 q)
    go true false p q r = absurd (both_ways true r refl)
    go false true p q r = absurd (both_ways false refl r)
    go false false p q r = omega (arith, eqb-false (m / 1 % 2) 1 p, eqb-false (n / 1 % 2) 1 q)

-- masks with the same bits are the same
same_to : (k m n : ℕ) → m ≤ k → n ≤ k → ((x : ℕ) → bit x m ≡ bit x n) → m ≡ n
same_to zero m n a b f = omega arith
same_to (suc k) m n a b f =
    let h : m / 2 ≡ n / 2 = same_to k (m / 2) (n / 2) (omega arith) (omega arith) (λ x. sym (bit_suc x m) ∙ f (suc x) ∙ bit_suc x n) in
    omega (arith, same_low m n (f 0))

pub same_bits : (m n : ℕ) → ((x : ℕ) → bit x m ≡ bit x n) → m ≡ n
same_bits m n f = same_to (m + n) m n (omega arith) (omega arith) f

higher_even : (j x : ℕ) → (2 ^ (suc j + x)) / 2 ^ x % 2 ≡ 0
higher_even j x = rw (pow-add 2 (suc j) x, shl-shr (2 ^ suc j) x, pow-suc 2 j) (mul-mod_left (2 ^ j) 2)

not_higher : (x y : ℕ) → x < y → bit x (2 ^ y) ≡ false
not_higher x y l =
    let e : suc (y - x - 1) + x ≡ y = omega arith in
    let q : 2 ^ y / 2 ^ x % 2 ≡ 0 = rw e at (higher_even (y - x - 1) x) in
    rw q

not_lower : (x y : ℕ) → y < x → bit x (2 ^ y) ≡ false
not_lower x y l = rw (div-eq_of_lt (pow-lt l))

-- right y alone is in the mask of right y
pub bit_pow : (x y : ℕ) → bit x (2 ^ y) ≡ eqb x y
bit_pow x y = elim (cases_order x y) [
  | inl e ↦ rw (e, div_self (pow_pos y)) (sym (eq-eqb y y refl))
  | inr (inl l) ↦ not_higher x y l ∙ sym (ne_eqb x y (λ e. omega arith))
  | inr (inr l) ↦ not_lower x y l ∙ sym (ne_eqb x y (λ e. omega arith))
]

even_and_one : (k : ℕ) → bit_and (k * 2) 1 ≡ 0
even_and_one k = omega (arith, and_step (k * 2) 1, and_zero_r (k * 2 / 2))

-- a mask with right x is the mask without it, and that right
module _ (m x : ℕ) (on : bit x m ≡ true) where
  abbrev high_part : ℕ
  high_part = m / 2 ^ x / 2 * 2

  abbrev rest : ℕ
  rest = high_part * 2 ^ x + m % 2 ^ x

  odd : m / 2 ^ x ≡ suc (m / 2 ^ x / 2 * 2)
  odd = omega (arith, eqb-true (m / 2 ^ x % 2) 1 on)

  rest_more : rest + 2 ^ x ≡ m
  rest_more =
      let a : m / 2 ^ x * 2 ^ x ≡ high_part * 2 ^ x + 2 ^ x = ap (λ (k : ℕ). k * 2 ^ x) odd ∙ suc-mul high_part (2 ^ x) in
      omega (arith, split m x, a)

  pub less_is : m - 2 ^ x ≡ rest
  less_is = omega (arith, rest_more)

  apart : bit_and rest (2 ^ x) ≡ 0
  apart =
      let p : 1 * 2 ^ x + 0 ≡ 2 ^ x = omega arith in
      let b = and_block x high_part 1 (m % 2 ^ x) 0 (mod_below m (2 ^ x) (pow_pos x)) (pow_pos x) in
      let z : bit_and high_part 1 * 2 ^ x + bit_and (m % 2 ^ x) 0 ≡ 0 = rw (even_and_one (m / 2 ^ x / 2), and_zero_r (m % 2 ^ x)) (omega (arith, zero-mul (2 ^ x))) in
      (rw p at b) ∙ z

  pub less_joins : bit_or (m - 2 ^ x) (2 ^ x) ≡ m
  less_joins = rw less_is (or_disjoint rest (2 ^ x) apart ∙ rest_more)

  pub less_lacks : bit x (m - 2 ^ x) ≡ false
  less_lacks = rw (less_is, high high_part x (mod_below m (2 ^ x) (pow_pos x)), mul-mod_left (m / 2 ^ x / 2) 2)

and_true : (b : Bool) → (b && true) ≡ b
and_true true = refl
and_true false = refl

or_false : (b : Bool) → (b || false) ≡ b
or_false true = refl
or_false false = refl

-- a mask without right x has the same rights but x
module _ (m x y : ℕ) where
  differs : bit x m ≡ true → eqb y x ≡ false → bit y m ≡ bit y (m - 2 ^ x)
  differs on e =
      let j : bit y (bit_or (m - 2 ^ x) (2 ^ x)) ≡ (bit y (m - 2 ^ x) || bit y (2 ^ x)) = bit-bit_or y (m - 2 ^ x) (2 ^ x) in
      let k : bit y m ≡ (bit y (m - 2 ^ x) || bit y (2 ^ x)) = subst (λ (n : ℕ). bit y n ≡ (bit y (m - 2 ^ x) || bit y (2 ^ x))) (less_joins m x on) j in
      k ∙ ap (λ (b : Bool). bit y (m - 2 ^ x) || b) (bit_pow y x ∙ e) ∙ or_false (bit y (m - 2 ^ x))

  less_on : bit x m ≡ true → bit y (m - 2 ^ x) ≡ (bit y m && not (eqb y x))
  less_on on = elim (cases_Bool (eqb y x)) [
    | inl e ↦ rw (eqb-true y x e, less_lacks m x on, eq-eqb x x refl, on)
    | inr e ↦ sym (differs on e) ∙ sym (ap (λ (b : Bool). bit y m && not b) e ∙ and_true (bit y m))
  ]

  less_off : bit x m ≡ false → bit y m ≡ (bit y m && not (eqb y x))
  less_off off = elim (cases_Bool (eqb y x)) [
    | inl e ↦ rw (eqb-true y x e, off)
    | inr e ↦ sym (ap (λ (b : Bool). bit y m && not b) e ∙ and_true (bit y m))
  ]

  pub bit_less : bit y (less m x) ≡ (bit y m && not (eqb y x))
  bit_less = elim (cases_Bool (bit x m)) [ inl on ↦ rw on (less_on on) | inr off ↦ rw off (less_off off) ]

or_again : (a b : Bool) → ((a || b) || b) ≡ (a || b)
or_again true b = refl
or_again false true = refl
or_again false false = refl

-- rights that are in a mask already add nothing to it
pub or_absorbs : (p c : ℕ) → bit_or (bit_or p c) c ≡ bit_or p c
or_absorbs p c = same_bits (bit_or (bit_or p c) c) (bit_or p c)
    (λ x. bit-bit_or x (bit_or p c) c ∙ ap (λ (b : Bool). b || bit x c) (bit-bit_or x p c) ∙ or_again (bit x p) (bit x c) ∙ sym (bit-bit_or x p c))
