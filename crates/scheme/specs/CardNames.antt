-- The numbers and words of the card scheme's types, rights and links.
use Rattle.std.specs.Prelude.{◌≡◌, ℕ, ◌<◌, cond, List, Ok, Err, Result, MatchResult, codes}
use Rattle.std.specs.Str.{bytes_eq as same_text}
use Rattle.scheme.specs.declared.card_names.CardKind.{CardKind}
use Rattle.scheme.specs.declared.card_names.CardKind.TheVariants.{Person, Folder, Yard, Card}
use Rattle.scheme.specs.declared.card_names.CardRight.{CardRight}
use Rattle.scheme.specs.declared.card_names.CardRight.TheVariants.{Read, Write, Take, Grant, Own}
use Rattle.scheme.specs.declared.card_names.CardLink.{CardLink}
use Rattle.scheme.specs.declared.card_names.CardLink.TheVariants.{TakeGrant, Owner}
use Rattle.scheme.specs.declared.card_names.Undeclared.{Undeclared}
use Rattle.scheme.specs.declared.card_names.Undeclared.TheVariants as undeclared
use Rattle.scheme.specs.Card.{person, folder, yard, card, r, w, t, g, o, take_grant, owner}

-- the number of each type, right and link
abbrev pub kind_number : CardKind → ℕ
kind_number Person = person
kind_number Folder = folder
kind_number Yard = yard
kind_number Card = card

abbrev pub right_number : CardRight → ℕ
right_number Read = r
right_number Write = w
right_number Take = t
right_number Grant = g
right_number Own = o

abbrev pub link_number : CardLink → ℕ
link_number TakeGrant = take_grant
link_number Owner = owner

-- the result is the type, the right or the link with a number, or an error where none has it
abbrev pub IsKind : ℕ → Result CardKind Undeclared → Type 0
IsKind n result = MatchResult result (λ kind. kind_number kind ≡ n) (λ e. (e ≡ undeclared.Kind) × (card < n))

abbrev pub IsRight : ℕ → Result CardRight Undeclared → Type 0
IsRight n result = MatchResult result (λ right. right_number right ≡ n) (λ e. (e ≡ undeclared.Right) × (o < n))

abbrev pub IsLink : ℕ → Result CardLink Undeclared → Type 0
IsLink n result = MatchResult result (λ link. link_number link ≡ n) (λ e. (e ≡ undeclared.Link) × (owner < n))

-- the word of each type and right
abbrev pub kind_word : CardKind → List ℕ
kind_word Person = codes "person"
kind_word Folder = codes "folder"
kind_word Yard = codes "yard"
kind_word Card = codes "card"

abbrev pub right_word : CardRight → List ℕ
right_word Read = codes "r"
right_word Write = codes "w"
right_word Take = codes "t"
right_word Grant = codes "g"
right_word Own = codes "o"

-- the type or the right with a word, or an error where none has it
abbrev pub kind_said : List ℕ → Result CardKind Undeclared
kind_said word =
    cond (same_text word (codes "person")) (Ok Person)
    (cond (same_text word (codes "folder")) (Ok Folder)
    (cond (same_text word (codes "yard")) (Ok Yard)
    (cond (same_text word (codes "card")) (Ok Card)
    (Err undeclared.Kind))))

abbrev pub right_said : List ℕ → Result CardRight Undeclared
right_said word =
    cond (same_text word (codes "r")) (Ok Read)
    (cond (same_text word (codes "w")) (Ok Write)
    (cond (same_text word (codes "t")) (Ok Take)
    (cond (same_text word (codes "g")) (Ok Grant)
    (cond (same_text word (codes "o")) (Ok Own)
    (Err undeclared.Right)))))
