-- How a script is cut into lines, a line into words, and how much of a script has not been read.
use Rattle.std.specs.Prelude.{ℕ, ◌<◌, ◌≤◌, Bool, not, List, length, filter, ◌==◌, Option, MatchOption}
use Rattle.std.specs.Char.{is_ascii_whitespace}
use Rattle.std.specs.List.{before_first, slice_split}
use Rattle.std.specs.Str.Iter.{lines_rest}
use Rattle.protocol.specs.declared.script.Script.{Script}

-- the text that is left to read, and how many bytes it has
abbrev pub unread : Script → List ℕ
unread s = lines_rest s.lines

abbrev pub left_of : Script → ℕ
left_of s = length (unread s)

-- a script is read from s on to t; where that gives something, there is less of it left
abbrev pub ReadsOn : {X : Type 0} → Script → Option X → Script → Type 0
ReadsOn s given t = MatchOption given (left_of t ≤ left_of s) (λ _. left_of t < left_of s)

-- the byte #, which starts a comment
abbrev pub is_hash : ℕ → Bool
is_hash b = b == 35

-- what a line says: all that stands before its comment
abbrev pub said : List ℕ → List ℕ
said line = before_first is_hash line

-- its words: what stands between white space
abbrev pub words_of : List ℕ → List (List ℕ)
words_of line = filter (λ w. not (length w == 0)) (slice_split is_ascii_whitespace (said line))
