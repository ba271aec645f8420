-- What turning a part of a list by one place leaves: room for an element that is let in, and one taken out.
use Rattle.std.proofs.Common.{◌≡◌, ℕ, zero, suc, ◌+◌, ◌-◌, ◌<◌, ◌≤◌, List, [], ◌∷◌, ◌++◌, length, get_or, take, drop, sym, ap, ◌∙◌, ap₂, arith}
use Rattle.std.specs.List.{insert, remove}
use Rattle.std.proofs.lemmas.List.{append_assoc, length-take-le, get_or-take, take-take, take_at, drop_more, drop_all}

-- the last of the k elements from i on is turned to the front of them
pub turned_in : {X : Type 0} (xs ys : List X) (i k n : ℕ) (x : X) → i + k ≡ n + 1 → 1 ≤ k → n < length xs → x ≡ get_or xs n x
    → ys ≡ drop (length (take k (drop i xs)) - 1) (take k (drop i xs)) ++ take (length (take k (drop i xs)) - 1) (take k (drop i xs))
    → take (suc n) (take i xs ++ (ys ++ drop k (drop i xs))) ≡ insert (take n xs) i x
turned_in {X} xs ys zero k n x e h l at is =
    let m = take k xs in
    let long : length m ≡ k = length-take-le k xs (omega arith) in
    let n_is : length m - 1 ≡ n = omega (arith, long) in
    let own : get_or m (length m - 1) x ≡ x = ap (λ (q : ℕ). get_or m q x) n_is ∙ get_or-take k xs n x (omega arith) ∙ sym at in
    let last : drop (length m - 1) m ≡ x ∷ [] = drop_more m (length m - 1) x (omega (arith, long)) ∙ ap₂ ◌∷◌ own (drop_all (length m - 1 + 1) m (omega (arith, long))) in
    let rest : take (length m - 1) m ≡ take n xs = ap (λ (q : ℕ). take q m) n_is ∙ take-take n k xs (omega arith) in
    ap (λ (q : List X). take (suc n) (q ++ drop k xs)) (is ∙ ap₂ ◌++◌ last rest)
    ∙ ap (λ (q : List X). x ∷ q) (take_at (take n xs) (drop k xs) n (length-take-le n xs (omega arith)))
turned_in [] ys (suc i) k n x e h l at is = absurd (omega arith)
turned_in (z ∷ zs) ys (suc i) k zero x e h l at is = absurd (omega arith)
turned_in {X} (z ∷ zs) ys (suc i) k (suc n) x e h l at is = ap (λ (q : List X). z ∷ q) (turned_in zs ys i k n x (omega arith) h (omega arith) at is)

-- the first of the k elements from i on is turned behind them
pub turned_out : {X : Type 0} (xs ys : List X) (i k n : ℕ) → i + k ≡ n + 1 → 1 ≤ k → n < length xs → ys ≡ drop 1 (take k (drop i xs)) ++ take 1 (take k (drop i xs))
    → take n (take i xs ++ (ys ++ drop k (drop i xs))) ≡ remove (take (suc n) xs) i
turned_out xs ys i zero n e h l is = absurd (omega arith)
turned_out [] ys zero (suc k) n e h l is = absurd (omega arith)
turned_out {X} (z ∷ zs) ys zero (suc k) n e h l is =
    let same : k ≡ n = omega arith in
    ap (λ (q : List X). take n (q ++ drop k zs)) is ∙ ap (take n) (append_assoc (take k zs) (z ∷ []) (drop k zs))
    ∙ take_at (take k zs) (z ∷ drop k zs) n (length-take-le k zs (omega arith) ∙ same) ∙ ap (λ (q : ℕ). take q zs) same
turned_out [] ys (suc i) (suc k) n e h l is = absurd (omega arith)
turned_out (z ∷ zs) ys (suc i) (suc k) zero e h l is = absurd (omega arith)
turned_out {X} (z ∷ zs) ys (suc i) (suc k) (suc n) e h l is = ap (λ (q : List X). z ∷ q) (turned_out zs ys i (suc k) n (omega arith) h (omega arith) is)
