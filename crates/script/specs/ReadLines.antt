-- What is read of a line at a time.
use Rattle.std.specs.Prelude.{◌≡◌, ◌≢◌, ℕ, ◌≤◌, Bool, true, false, List, [], ◌∷◌, ◌++◌, All, length, take, Option, OnSome}
use Rattle.std.specs.Io.{StopsAt, IsEmptyOrEndsWith}
use Rattle.std.specs.Io.KnownBytes.{Consumes, IsAtEnd}
use Rattle.script.specs.Lines.{line_of}
use Rattle.script.specs.declared.line_reader.Part.{Part}
use Rattle.script.specs.declared.line_reader.Part.TheVariants.{Line, End, More}

-- How many of these bytes belong to the line that they begin, and whether the line ends with them: up to the first newline, or all.
-- Where there are none, the input has ended, and the line with it.
pub record IsFrontOfLine (bytes : List ℕ) (size : ℕ) (ends : Bool) : Type 0 where
  pub within : size ≤ length bytes
  pub stops : StopsAt (take size bytes) 10
  pub goes_on : ends ≡ false → All (λ x. x ≢ 10) (take size bytes)
  pub ended : ends ≡ true → IsEmptyOrEndsWith (take size bytes) 10 × (length (take size bytes) ≡ 0 → length bytes ≡ 0)

-- what the whole bytes of a line say; without any, the input has ended
abbrev pub whole_part : List ℕ → Part
whole_part [] = End
whole_part (b ∷ bs) = Line (line_of (b ∷ bs))

-- the bytes that the input lost end the line, at a newline or at the input's end
pub record EndsLine (before after : Option (List ℕ)) (bytes : List ℕ) : Type 0 where
  pub lost : Consumes before after bytes
  pub stops : StopsAt bytes 10
  pub ends : IsEmptyOrEndsWith bytes 10
  pub at_end : length bytes ≡ 0 → OnSome before (IsAtEnd after)

-- the bytes that the input lost go on with a line that the memory has the start of, and do not end it
pub record GoesOn (before after : Option (List ℕ)) (start now : List ℕ) : Type 0 where
  pub bytes : List ℕ
  pub lost : Consumes before after bytes
  pub kept : now ≡ start ++ bytes
  pub no_newline : All (λ x. x ≢ 10) bytes

-- What was read of a line that the memory had the start of: the rest of it, or a further part, which the memory has too.
abbrev pub ReadsPart : Part → Option (List ℕ) → Option (List ℕ) → List ℕ → List ℕ → Type 0
ReadsPart (Line l) before after start now = (bytes : List ℕ) × (Line l ≡ whole_part (start ++ bytes)) × EndsLine before after bytes
ReadsPart End before after start now = (bytes : List ℕ) × (End ≡ whole_part (start ++ bytes)) × EndsLine before after bytes
ReadsPart More before after start now = GoesOn before after start now
