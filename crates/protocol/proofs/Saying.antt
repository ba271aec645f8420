-- Taking a ticket's word apart: there is one way only.
use Rattle.std.proofs.Common.{◌≡◌, ℕ, Bool, true, false, List, [], ◌∷◌, ◌++◌, length, Some, None, Option, sym, refl, ap, ◌∙◌, append-nil, arith, lit<, length-append, Bor, MatchOption, get_or, ◌<◌, suc, not}
use Rattle.std.specs.Bool.{then_some}
use Rattle.std.proofs.lemmas.Str.Pattern.{IsSplitOnceResult, split_after}
use Rattle.protocol.specs.declared.words.TicketFor.{TicketFor}
use Rattle.protocol.specs.Numbers.{number_of}
use Rattle.protocol.specs.Words.{right_of, flag, Says, SaysPlain}
use Rattle.protocol.proofs.Digits.{digits_end, not_number, number_has_no}
use Rattle.protocol.proofs.Choosing.{otherwise}

-- a word of one letter that ends in c is c
letter_c : (front : List ℕ) (x : ℕ) → front ++ (99 ∷ []) ≡ x ∷ [] → 99 ≡ x
letter_c [] x e = cc
letter_c (y ∷ front) x e = absurd (omega (arith, ap length e, length-append front (99 ∷ [])))

-- no right ends in c
pub ends_in_c : (front : List ℕ) → right_of (front ++ (99 ∷ [])) ≡ None
ends_in_c front =
    let w = front ++ (99 ∷ []) in
    let not_byte = not_number w (digits_end front 99 refl) in
    otherwise w _ _ _ (λ e. omega (arith, letter_c front 114 e))
    ∙ otherwise w _ _ _ (λ e. omega (arith, letter_c front 119 e))
    ∙ otherwise w _ _ _ (λ e. omega (arith, letter_c front 116 e))
    ∙ otherwise w _ _ _ (λ e. omega (arith, letter_c front 103 e))
    ∙ otherwise w _ _ _ (λ e. omega (arith, letter_c front 111 e))
    ∙ rw not_byte refl

same_front : (a b : List ℕ) (c : ℕ) → a ++ (c ∷ []) ≡ b ++ (c ∷ []) → a ≡ b
same_front [] [] c e = refl
same_front [] (y ∷ b) c e = absurd (omega (arith, ap length e, length-append b (c ∷ [])))
same_front (x ∷ a) [] c e = absurd (omega (arith, ap length e, length-append a (c ∷ [])))
same_front (x ∷ a) (y ∷ b) c e =
    let rest : a ++ (c ∷ []) ≡ b ++ (c ∷ []) = cc in
    let first : x ≡ y = cc in
    let same = same_front a b c rest in
    cc

-- a text that is a right and a flag has no other right
apart : {text : List ℕ} {x : ℕ} (right letter : List ℕ) (own copy : Bool) → text ≡ right ++ flag own → text ≡ letter ++ flag copy → (copy ≡ false → (front : List ℕ) → text ≡ front ++ flag true → ⊥) → right_of right ≡ Some x → None ≡ right_of letter → ⊥
apart right letter true true p q cut is none =
    let same = ap right_of (same_front right letter 99 (sym p ∙ q)) in
    let z : ◌≡◌ {A = ℕ} 0 1 = cc in
    omega arith
apart right letter true false p q cut is none = cut refl right p
apart right letter false true p q cut is none =
    let same = ap right_of (sym (append-nil right) ∙ sym p ∙ q) ∙ ends_in_c letter in
    let z : ◌≡◌ {A = ℕ} 0 1 = cc in
    omega arith
apart right letter false false p q cut is none =
    let same = ap right_of (sym (append-nil right) ∙ sym p ∙ q ∙ append-nil letter) in
    let z : ◌≡◌ {A = ℕ} 0 1 = cc in
    omega arith

module _ {w : List ℕ} {t : TicketFor} (said : Says w t) where
  -- a search for the slash comes upon the one behind the number
  pub slash : (r : Option (Bor (List ℕ) × Bor (List ℕ))) → IsSplitOnceResult 47 w r → MatchOption r ⊥ (λ x. (x.0.now ≡ said.number) × (x.1.now ≡ said.right ++ flag t.ticket.copy))
  slash r h = split_after 47 w said.number (said.right ++ flag t.ticket.copy) r h (lit< tt) said.parts (number_has_no 47 refl said.number _ said.target)

  pub has_number : (x : Bor (List ℕ) × Bor (List ℕ)) → IsSplitOnceResult 47 w (Some x) → None ≡ number_of x.0.now → ⊥
  has_number x h e =
      let same = ap number_of (slash (Some x) h).0 in
      let is = said.target in
      let z : ◌≡◌ {A = ℕ} 0 1 = cc in
      omega arith

  pub has_right : (x : Bor (List ℕ) × Bor (List ℕ)) → IsSplitOnceResult 47 w (Some x) → (letter : List ℕ) (copy : Bool) → x.1.now ≡ letter ++ flag copy → (copy ≡ false → (front : List ℕ) → x.1.now ≡ front ++ flag true → ⊥) → None ≡ right_of letter → ⊥
  has_right x h letter copy whole cut e = apart said.right letter t.ticket.copy copy (slash (Some x) h).1 whole cut said.right_is e

-- a text is cut in one way at a byte that is not in front
same_rest : (c : ℕ) (a b x y : List ℕ) → a ++ (c ∷ x) ≡ b ++ (c ∷ y) → ((i : ℕ) → i < length a → get_or a i 0 ≡ c → ⊥) → ((i : ℕ) → i < length b → get_or b i 0 ≡ c → ⊥) → x ≡ y
same_rest c [] [] x y e p q = cc
same_rest c [] (z ∷ b) x y e p q = absurd (q 0 (omega arith) cc)
same_rest c (z ∷ a) [] x y e p q = absurd (p 0 (omega arith) cc)
same_rest c (z ∷ a) (v ∷ b) x y e p q =
    let e' : a ++ (c ∷ x) ≡ b ++ (c ∷ y) = cc in
    same_rest c a b x y e' (λ i h k. p (suc i) (omega arith) k) (λ i h k. q (suc i) (omega arith) k)

-- a word that says a ticket with the copy flag says none without it
flag_once : {w : List ℕ} {t u : TicketFor} → Says w t → t.ticket.copy ≡ true → SaysPlain w u → ⊥
flag_once {w} {t} {u} said flagged plain =
    let other : Says w u = plain.0 in
    let rest : said.right ++ flag t.ticket.copy ≡ other.right ++ flag u.ticket.copy =
    same_rest 47 said.number other.number _ _ (sym said.parts ∙ other.parts) (number_has_no 47 refl said.number _ said.target) (number_has_no 47 refl other.number _ other.target)
    in
    let longer : said.right ++ flag true ≡ other.right ++ flag false = ap (λ b. said.right ++ flag b) (sym flagged) ∙ rest ∙ ap (λ b. other.right ++ flag b) plain.1 in
    let none : right_of other.right ≡ None = ap right_of (sym (append-nil other.right) ∙ sym longer) ∙ ends_in_c said.right in
    let some = other.right_is in
    cc

-- where a word says a ticket, it says it plainly just where the flag is not set
pub plain_of : (w : List ℕ) (t : TicketFor) → Says w t → MatchOption (then_some (not t.ticket.copy) t) ((u : TicketFor) → SaysPlain w u → ⊥) (λ u. SaysPlain w u)
plain_of w t said = go t.ticket.copy refl
  where
    go : (copy : Bool) → t.ticket.copy ≡ copy → MatchOption (then_some (not copy) t) ((u : TicketFor) → SaysPlain w u → ⊥) (λ u. SaysPlain w u)
    go true e = λ u plain. flag_once said e plain
    go false e = (said, e)
