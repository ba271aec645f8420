-- Which words are numbers, in the words of `parse`.
use Rattle.std.proofs.Common.{◌≡◌, ℕ, ◌^◌, ◌<◌, Bool, true, false, cond, not, ◌&&◌, eqb, ltb, List, [], ◌∷◌, ◌++◌, length, get_or, Some, None, Ok, Err, Option, Result, sym, refl, ap, ◌∙◌, arith, rules, lt-ltb, ltb-true, ne_eqb, ◌≢◌}
use Rattle.std.proofs.lemmas.Bool.{and_parts}
use Rattle.std.proofs.lemmas.Bool.Decides.{nat_tests}
use Rattle.std.proofs.lemmas.Str.Parse.{IsNumeralModel, numerals_by_fold, not_in_digits, parse_plain}
use Rattle.std.specs.Char.{is_ascii_digit}
use Rattle.std.specs.Result.{OkIff, result_ok}
use Rattle.std.specs.Str.Parse.{ParsesUnsigned}
use Rattle.protocol.specs.Numbers.{all_digits, value_after, value, is_number, number_of}

-- the digits and values of numbers are those that `parse` reads
own : IsNumeralModel (λ w. all_digits w ≡ true) value
own = numerals_by_fold _ (search rules) value_after (search rules)

-- what makes a word a number
number_parts : (w : List ℕ) → is_number w ≡ true → (all_digits w ≡ true) × (0 < length w) × (value w < 2 ^ 32)
number_parts w e =
    let parts : ((not (eqb (length w) 0) && all_digits w) ≡ true) × (ltb (value w) (2 ^ 32) ≡ true) = and_parts _ _ e in
    let first : (not (eqb (length w) 0) ≡ true) × (all_digits w ≡ true) = and_parts _ _ parts.0 in
    let filled : not (eqb (length w) 0) ≡ true = first.0 in
    let some : 0 < length w = grind (arith, nat_tests) in
    let small : value w < 2 ^ 32 = ltb-true _ _ parts.1 in
    (first.1, some, small)

number_made : (w : List ℕ) → all_digits w ≡ true → 0 < length w → value w < 2 ^ 32 → is_number w ≡ true
number_made w d some small = rw (ne_eqb (length w) 0 (λ e. omega arith), d, lt-ltb _ _ small) refl

chosen : (b : Bool) (x : Option ℕ) → b ≡ true → cond b x None ≡ x
chosen b x e = rw e refl

refused : (b : Bool) (x : Option ℕ) → (b ≡ true → ⊥) → None ≡ cond b x None
refused b x never = go b refl
  where
    go : (d : Bool) → b ≡ d → None ≡ cond b x None
    go true e = absurd (never e)
    go false e = rw e refl

-- a word with no plus in front is parsed as a number
pub number_parsed : {E : Type 0} (w : List ℕ) (r : Result ℕ E) → ParsesUnsigned 32 10 w r → get_or w 0 0 ≢ 43 → result_ok r ≡ number_of w
number_parsed w r h plain = go r (parse_plain own 32 w r h plain)
  where
    go : {E : Type 0} (r : Result ℕ E) → OkIff r ((all_digits w ≡ true) × (0 < length w) × (value w < 2 ^ 32)) (value w) → result_ok r ≡ number_of w
    go (Ok x) p = ap Some p.1 ∙ sym (chosen _ (Some (value w)) (number_made w p.0.0 p.0.1 p.0.2))
    go (Err e) never = refused _ _ (λ is. never (number_parts w is))

-- a number is digits
number_digits : (w : List ℕ) (n : ℕ) → number_of w ≡ Some n → is_number w ≡ true
number_digits w n e = go (is_number w) refl
  where
    go : (b : Bool) → is_number w ≡ b → is_number w ≡ true
    go true h = h
    go false h = cc

-- a byte that is no digit is not in a number
pub number_has_no : (b : ℕ) → is_ascii_digit b ≡ false → (w : List ℕ) (n : ℕ) → number_of w ≡ Some n → (i : ℕ) → i < length w → get_or w i 0 ≡ b → ⊥
number_has_no b other w n e i h is = not_in_digits own w b (number_parts w (number_digits w n e)).0 (λ digit. grind (arith, digit, other)) i h is

-- digits that end in a byte are digits and that byte
pub digits_end : (w : List ℕ) (b : ℕ) → is_ascii_digit b ≡ false → all_digits (w ++ (b ∷ [])) ≡ false
digits_end [] b e = rw e refl
digits_end (x ∷ w) b e = rw (digits_end w b e) (elim (is_ascii_digit x) as (λ d. (d && false) ≡ false) [ true ↦ refl | false ↦ refl ])

pub not_number : (w : List ℕ) → all_digits w ≡ false → number_of w ≡ None
not_number w e = sym (refused _ _ (λ is. let p = number_parts w is in cc))
