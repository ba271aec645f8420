-- Numbers in base ten: which words are numbers, and of what value.
use Rattle.std.specs.Prelude.{ℕ, ◌+◌, ◌-◌, ◌*◌, ◌^◌, Bool, true, cond, not, ◌&&◌, List, [], ◌∷◌, length, Some, None, Option, ◌==◌, nat_lt}
use Rattle.std.specs.Char.{is_ascii_digit}

abbrev pub all_digits : List ℕ → Bool
all_digits [] = true
all_digits (b ∷ bs) = is_ascii_digit b && all_digits bs

-- the value of digits that stand behind digits of value v
abbrev pub value_after : ℕ → List ℕ → ℕ
value_after v [] = v
value_after v (b ∷ bs) = value_after (v * 10 + (b - 48)) bs

-- the value of digits
abbrev pub value : List ℕ → ℕ
value bs = value_after 0 bs

-- some digits, whose value is at most 4,294,967,295
abbrev pub is_number : List ℕ → Bool
is_number w = not (length w == 0) && all_digits w && nat_lt (value w) (2 ^ 32)

-- what a word says as a number
abbrev pub number_of : List ℕ → Option ℕ
number_of w = cond (is_number w) (Some (value w)) None
