-- What making, asking and joining ticket sets comes to.
use Rattle.std.proofs.Common.{◌≡◌, ℕ, zero, suc, ◌-◌, ◌*◌, ◌%◌, ◌^◌, ◌<◌, ◌≤◌, Bool, true, false, cond, not, ◌&&◌, ◌||◌, eqb, ltb, sym, refl, ap, ◌∙◌, ap₂, inl, inr, arith}
use lib.Bits.{bit_and, bit_or, or_self, or_zero_r}
use Rattle.std.proofs.lemmas.Nat.{one_shl}
use Rattle.std.proofs.lemmas.Bool.{cases_Bool, cases_eq, cond-true, cond-false, lt-ltb, and_parts}
use Rattle.model.specs.Tickets.{bit, has, ticket_of, none, with_plain, join}
use Rattle.model.specs.Calls.{less, without_right}
use Rattle.model.proofs.Bits.{bit-bit_or, bit-bit_and, bit_below, bit_less, same_bits}

or_both : (a b c d : Bool) → (a || c) ≡ a → (b || d) ≡ b → ((a || b) || (c || d)) ≡ (a || b)
or_both true b c d p q = refl
or_both false true c d p q = refl
or_both false false true d p q = p
or_both false false false true p q = q
or_both false false false false p q = refl

-- sets whose copyable rights are plain ones join to such a set
pub or_nested : (p q c d : ℕ) → bit_or p c ≡ p → bit_or q d ≡ q → bit_or (bit_or p q) (bit_or c d) ≡ bit_or p q
or_nested p q c d e f = same_bits (bit_or (bit_or p q) (bit_or c d)) (bit_or p q) (λ x.
    bit-bit_or x (bit_or p q) (bit_or c d) ∙ ap₂ (λ (a b : Bool). a || b) (bit-bit_or x p q) (bit-bit_or x c d)
    ∙ or_both (bit x p) (bit x q) (bit x c) (bit x d) (sym (bit-bit_or x p c) ∙ ap (bit x) e) (sym (bit-bit_or x q d) ∙ ap (bit x) f)
    ∙ sym (bit-bit_or x p q))

pub joined : (p q c d : ℕ) → bit_or p c ≡ p → bit_or q d ≡ q
    → with_plain (bit_or p q) (bit_or c d) ≡ join (record { plain = p; copyable = c }) (record { plain = q; copyable = d })
joined p q c d e f = ap (λ (m : ℕ). record { plain = m; copyable = bit_or c d }) (or_nested p q c d e f)

-- a shifted one is the mask of that right
pub plain_ticket : (x : ℕ) → x < 16 → with_plain ((1 * 2 ^ x) % 65536) 0 ≡ cond (ltb x 16) (ticket_of x false) none
plain_ticket x l =
    ap (λ (m : ℕ). with_plain m 0) (one_shl x 16 l) ∙ ap (λ (m : ℕ). record { plain = m; copyable = 0 }) (or_zero_r (2 ^ x))
    ∙ sym (cond-true (ltb x 16) (ticket_of x false) none (lt-ltb x 16 l))

pub copyable_ticket : (x : ℕ) → x < 16 → with_plain ((1 * 2 ^ x) % 65536) ((1 * 2 ^ x) % 65536) ≡ cond (ltb x 16) (ticket_of x true) none
copyable_ticket x l =
    ap (λ (m : ℕ). with_plain m m) (one_shl x 16 l) ∙ ap (λ (m : ℕ). record { plain = m; copyable = 2 ^ x }) (or_self (2 ^ x))
    ∙ sym (cond-true (ltb x 16) (ticket_of x true) none (lt-ltb x 16 l))

-- a mask of 16 bits has no right above 15
pub no_right : (m x : ℕ) → m < 65536 → 16 ≤ x → bit x m ≡ false
no_right m x l h = elim (cases_Bool (bit x m)) [ inl t ↦ absurd (let b = bit_below 16 m x l t in omega arith) | inr f ↦ f ]

pub no_ticket : (p q x : ℕ) (c : Bool) → p < 65536 → q < 65536 → 16 ≤ x → has (record { plain = p; copyable = q }) x c ≡ false
no_ticket p q x true l k h = no_right q x k h
no_ticket p q x false l k h = no_right p x l h

-- each right below n is in the mask of all 16
abbrev all_in : ℕ → Bool
all_in zero = true
all_in (suc n) = bit n 65535 && all_in n

in_all : (n x : ℕ) → all_in n ≡ true → x < n → bit x 65535 ≡ true
in_all zero x t l = absurd (omega arith)
in_all (suc n) x t l =
    let b = and_parts (bit n 65535) (all_in n) t in
    elim (cases_eq x n) [ inl e ↦ rw e b.0 | inr e ↦ in_all n x b.1 (omega arith) ]

-- all rights but one: what the complement of its mask is
pub others : (x : ℕ) → x < 16 → 65535 - (1 * 2 ^ x) % 65536 ≡ less 65535 x
others x l = ap (λ (m : ℕ). 65535 - m) (one_shl x 16 l) ∙ sym (cond-true (bit x 65535) (65535 - 2 ^ x) 65535 (in_all 16 x refl l))

but_one : (p q r : Bool) → (p ≡ true → q ≡ true) → (p && (q && r)) ≡ (p && r)
but_one true q r h = ap (λ (b : Bool). b && r) (h refl)
but_one false q r h = refl

-- a mask's rights among all but one are its rights without that one
pub and_others : (m x : ℕ) → m < 65536 → bit_and m (less 65535 x) ≡ less m x
and_others m x l = same_bits (bit_and m (less 65535 x)) (less m x) (λ y.
    bit-bit_and y m (less 65535 x) ∙ ap (λ (b : Bool). bit y m && b) (bit_less 65535 x y)
    ∙ but_one (bit y m) (bit y 65535) (not (eqb y x)) (λ h. in_all 16 y refl (bit_below 16 m y l h)) ∙ sym (bit_less m x y))

and_or : (p q r : Bool) → ((p && r) || (q && r)) ≡ ((p || q) && r)
and_or true true true = refl
and_or true true false = refl
and_or true false true = refl
and_or true false false = refl
and_or false q r = refl

-- a set without a right is still such that its copyable rights are plain ones
pub less_nested : (p c x : ℕ) → bit_or p c ≡ p → with_plain (less p x) (less c x) ≡ without_right (record { plain = p; copyable = c }) x
less_nested p c x e = ap (λ (m : ℕ). record { plain = m; copyable = less c x }) (same_bits (bit_or (less p x) (less c x)) (less p x) (λ y.
    bit-bit_or y (less p x) (less c x) ∙ ap₂ (λ (a b : Bool). a || b) (bit_less p x y) (bit_less c x y)
    ∙ and_or (bit y p) (bit y c) (not (eqb y x)) ∙ ap (λ (b : Bool). b && not (eqb y x)) (sym (bit-bit_or y p c) ∙ ap (bit y) e) ∙ sym (bit_less p x y)))

-- a mask of 16 bits is as it was without a right above 15
pub less_none : (p c x : ℕ) → p < 65536 → c < 65536 → 16 ≤ x → record { plain = p; copyable = c } ≡ without_right (record { plain = p; copyable = c }) x
less_none p c x l k h =
    ap₂ (λ (m n : ℕ). record { plain = m; copyable = n }) (sym (cond-false (bit x p) (p - 2 ^ x) p (no_right p x l h))) (sym (cond-false (bit x c) (c - 2 ^ x) c (no_right c x k h)))
