-- Cutting a line into words.
use Rattle.std.proofs.Common.{◌≡◌, ℕ, ◌<◌, ◌≤◌, Bool, true, false, not, eqb, List, [], ◌∷◌, ◌++◌, length, get_or, Some, None, Option, sym, refl, ap, ◌∙◌, arith, Bor, is_some, slice_get, suc, ltb, ltb-true, append-nil, ne_eqb}
use Rattle.std.proofs.lemmas.Bool.Decides.{nat_tests}
use Rattle.std.proofs.lemmas.List.Splits.{slice_split_none, slice_split_at}
use Rattle.std.proofs.lemmas.List.Elements.{All-from_get_or}
use Rattle.std.proofs.lemmas.Str.{NoCharPasses-byte}
use Rattle.std.specs.Char.{is_ascii_whitespace}
use Rattle.std.specs.List.{filter, slice_split, All, AllPass}
use Rattle.std.specs.Str.{NoCharPasses}
use Rattle.std.specs.Str.Iter.{CutsAsciiWord}
use Rattle.std.specs.Option.{option_map}
use Rattle.protocol.specs.declared.command.Command.{Command}
use Rattle.protocol.specs.Commands.{Means, WordsSay, Tells}

-- the words of a text without a comment
abbrev pub cut : List ℕ → List (List ℕ)
cut bs = filter (λ w. not (eqb (length w) 0)) (slice_split is_ascii_whitespace bs)

gap_skipped : (gap rest : List ℕ) → AllPass is_ascii_whitespace gap → cut (gap ++ rest) ≡ cut rest
gap_skipped [] rest all = refl
gap_skipped (g ∷ gap) rest all =
    let here : is_ascii_whitespace g ≡ true = all 0 0 (omega arith) in
    rw here (gap_skipped gap rest (λ k d h. all (suc k) d (omega arith)))

-- no byte of a word is white space
word_bytes : (w : List ℕ) → NoCharPasses is_ascii_whitespace w → All (λ b. is_ascii_whitespace b ≡ false) w
word_bytes w none = All-from_get_or (λ b. is_ascii_whitespace b ≡ false) w 0 (λ i h. go i h (ltb (get_or w i 0) 128) refl)
  where
    go : (i : ℕ) → i < length w → (small : Bool) → ltb (get_or w i 0) 128 ≡ small → is_ascii_whitespace (get_or w i 0) ≡ false
    go i h true e = NoCharPasses-byte is_ascii_whitespace w i none h (ltb-true _ _ e)
    go i h false e = grind (arith, nat_tests)

word_kept : (w : List ℕ) (words : List (List ℕ)) → 0 < length w → filter (λ w. not (eqb (length w) 0)) (w ∷ words) ≡ w ∷ filter (λ w. not (eqb (length w) 0)) words
word_kept w words some = rw (ne_eqb (length w) 0 (λ e. omega arith)) refl

-- a word, and the white space behind it, come off the front
word_cut : (x sep rest : List ℕ) → 0 < length x → NoCharPasses is_ascii_whitespace x → AllPass is_ascii_whitespace sep → length sep ≤ 1 → (length sep ≡ 0 → length rest ≡ 0) → cut (x ++ (sep ++ rest)) ≡ x ∷ cut rest
word_cut x [] [] some none all short end =
    rw append-nil (rw (slice_split_none is_ascii_whitespace x (word_bytes x none)) (word_kept x [] some))
word_cut x [] (r ∷ rest) some none all short end = absurd (omega (arith, end refl))
word_cut x (b ∷ []) rest some none all short end =
    rw (slice_split_at is_ascii_whitespace x b rest (word_bytes x none) (all 0 0 (omega arith))) (word_kept x (slice_split is_ascii_whitespace rest) some)
word_cut x (b ∷ c ∷ sep) rest some none all short end = absurd (omega arith)

-- a word in front of others, or none and no others
abbrev pub more : Option (Bor (List ℕ)) → List (List ℕ) → List (List ℕ)
more None words = []
more (Some x) words = x.now ∷ words

-- what one call of the iterator over words gives
pub one_cut : (bs rest : List ℕ) (r : Option (Bor (List ℕ))) → CutsAsciiWord bs r rest (λ gap x sep. gap ++ (x ++ (sep ++ rest))) → (cut bs ≡ more r (cut rest)) × (r ≡ None → cut rest ≡ [])
one_cut bs [] None p = (sym (ap cut (append-nil bs)) ∙ gap_skipped bs [] p.0, λ e. refl)
one_cut bs (b ∷ rest) None p = absurd (omega (arith, p.1))
one_cut bs rest (Some x) p =
    let gap : List ℕ = p.3.0 in
    let sep : List ℕ = p.3.1 in
    let laid : bs ≡ gap ++ (x.now ++ (sep ++ rest)) = p.3.2 in
    let white : AllPass is_ascii_whitespace gap = p.3.3 in
    (ap cut laid ∙ gap_skipped gap (x.now ++ (sep ++ rest)) white ∙ word_cut x.now sep rest p.0 p.1 p.3.4.0 p.3.4.1 p.3.4.2, λ e. cc)

abbrev word : Option (Bor (List ℕ)) → Option (List ℕ)
word r = option_map (λ x. x.now) r

-- a line of a name, and of at most three words that follow it
pub record IsLine (a : List (List ℕ)) (name : List ℕ) (first second third : Option (List ℕ)) : Type 0 where
  words : List (List ℕ)
  all : a ≡ name ∷ words
  at_first : slice_get words 0 ≡ first
  at_second : slice_get words 1 ≡ second
  at_third : slice_get words 2 ≡ third
  few : length words ≤ 3

-- such a line says what these words say
pub line_tells : {a : List (List ℕ)} {name : List ℕ} {first second third : Option (List ℕ)} → IsLine a name first second third → (r : Option Command) → Tells r (Means name first second third) → Tells r (WordsSay a)
line_tells {a} {name} {first} {second} {third} l r h = rw l.all (go r h)
  where
    go : (r : Option Command) → Tells r (Means name first second third) → Tells r (WordsSay (name ∷ l.words))
    go None h = λ k said. h k (rw (l.at_first, l.at_second, l.at_third) at said.0)
    go (Some k) h = (rw (l.at_first, l.at_second, l.at_third) h, l.few)

-- a line of which five calls gave a name, up to three words, and no more
pub five_cuts : (name : List ℕ) (first second third : Option (Bor (List ℕ))) (a b c d e : List (List ℕ)) → a ≡ name ∷ b → b ≡ more first c → (first ≡ None → c ≡ []) → c ≡ more second d → (second ≡ None → d ≡ []) → d ≡ more third e → e ≡ [] → IsLine a name (word first) (word second) (word third)
five_cuts name None None None a b c d e p q q' r r' s t = record { words = []; all = cc; at_first = refl; at_second = refl; at_third = refl; few = omega arith }
five_cuts name None None (Some z) a b c d e p q q' r r' s t = let end : d ≡ [] = r' refl in absurd cc
five_cuts name None (Some y) third a b c d e p q q' r r' s t = let end : c ≡ [] = q' refl in absurd cc
five_cuts name (Some x) None None a b c d e p q q' r r' s t = record { words = x.now ∷ []; all = cc; at_first = refl; at_second = refl; at_third = refl; few = omega arith }
five_cuts name (Some x) None (Some z) a b c d e p q q' r r' s t = let end : d ≡ [] = r' refl in absurd cc
five_cuts name (Some x) (Some y) None a b c d e p q q' r r' s t = record { words = x.now ∷ y.now ∷ []; all = cc; at_first = refl; at_second = refl; at_third = refl; few = omega arith }
five_cuts name (Some x) (Some y) (Some z) a b c d e p q q' r r' s t = record { words = x.now ∷ y.now ∷ z.now ∷ []; all = cc; at_first = refl; at_second = refl; at_third = refl; few = omega arith }

-- a line with a word more says no command
pub too_many : (name : List ℕ) (first second third fourth : Option (Bor (List ℕ))) (a b c d e f : List (List ℕ)) → a ≡ name ∷ b → b ≡ more first c → (first ≡ None → c ≡ []) → c ≡ more second d → (second ≡ None → d ≡ []) → d ≡ more third e → (third ≡ None → e ≡ []) → e ≡ more fourth f → is_some fourth ≡ true → (k : Command) → WordsSay a k → ⊥
too_many name first second third None a b c d e f p q q' r r' s s' t more_follow k said = absurd cc
too_many name first second None (Some w) a b c d e f p q q' r r' s s' t more_follow k said = let end : e ≡ [] = s' refl in absurd cc
too_many name first None (Some z) (Some w) a b c d e f p q q' r r' s s' t more_follow k said = let end : d ≡ [] = r' refl in absurd cc
too_many name None (Some y) (Some z) (Some w) a b c d e f p q q' r r' s s' t more_follow k said = let end : c ≡ [] = q' refl in absurd cc
too_many name (Some x) (Some y) (Some z) (Some w) a b c d e f p q q' r r' s s' t more_follow k said =
    let all : a ≡ name ∷ x.now ∷ y.now ∷ z.now ∷ w.now ∷ f = cc in
    let long : WordsSay (name ∷ x.now ∷ y.now ∷ z.now ∷ w.now ∷ f) k = rw all at said in
    omega (arith, long.1)

pub named : (r : Option (Bor (List ℕ))) (x : Bor (List ℕ)) (words : List (List ℕ)) → r ≡ Some x → more r words ≡ x.now ∷ words
named r x words e = rw e refl

pub ended : (r : Option (Bor (List ℕ))) (words : List (List ℕ)) → is_some r ≡ false → more r words ≡ []
ended None words e = refl
ended (Some x) words e = absurd cc

-- a line with no word says no command
pub no_words : (r : Option (Bor (List ℕ))) (a words : List (List ℕ)) → a ≡ more r words → r ≡ None → (k : Command) → WordsSay a k → ⊥
no_words r a words e none k said =
    let empty : a ≡ [] = e ∙ ended r words (rw none refl) in
    rw empty at said
