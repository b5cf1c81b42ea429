-- What was written of a text, and what an error says of the rest of it.
use Rattle.std.specs.Prelude.{◌≡◌, ℕ, ◌-◌, ◌^◌, ◌<◌, ◌≤◌, Bool, true, false, List, length, ⊤, Result, Ok, Err, Option}
use Rattle.std.specs.Io.KnownBytes.{Appends}
use Rattle.book.specs.Outputs.{AppendsFront}
use Rattle.script.specs.Sinks.{Sink, each_sink}
use Rattle.script.specs.declared.error.PlayError.{PlayError}
use Rattle.script.specs.declared.error.PlayError.TheVariants.{Input, Output, Book, Messages, Memory, TooManyLines}

-- Is this error answered only where something is left to be written to the output? Of a line the book and the messages get
-- theirs first, and then it is printed.
abbrev pub leaves_some : PlayError → Sink → Bool
leaves_some (Input e) = each_sink false false false
leaves_some (Output e) = each_sink true false false
leaves_some (Book e) = each_sink true true false
leaves_some (Messages e) = each_sink true false true
leaves_some Memory = each_sink true false false
leaves_some TooManyLines = each_sink false false false

-- so much is left to be written to the output where the error is one that is answered only where something is left
abbrev pub LeavesSome : Sink → PlayError → List ℕ → Type 0
LeavesSome k e rest = leaves_some e k ≡ true → 0 < length rest

-- the input failed
abbrev pub IsInput : PlayError → Type 0
IsInput (Input e) = ⊤
IsInput (Output e) = ⊥
IsInput (Book e) = ⊥
IsInput (Messages e) = ⊥
IsInput Memory = ⊥
IsInput TooManyLines = ⊥

-- what is to be written could not be
abbrev pub IsOutput : PlayError → Type 0
IsOutput (Input e) = ⊥
IsOutput (Output e) = ⊤
IsOutput (Book e) = ⊤
IsOutput (Messages e) = ⊤
IsOutput Memory = ⊤
IsOutput TooManyLines = ⊥

-- Can the writing to this output end with this error?
abbrev pub ends_with : PlayError → Sink → Bool
ends_with (Input e) = each_sink false false false
ends_with (Output e) = each_sink true false false
ends_with (Book e) = each_sink false true false
ends_with (Messages e) = each_sink false false true
ends_with Memory = each_sink true false true
ends_with TooManyLines = each_sink false false false

-- A text was written to one output: the whole, or a front of it, and the error is one that can come there.
abbrev pub LeavesUnwritten : Sink → PlayError → List ℕ → Type 0
LeavesUnwritten k e rest = (ends_with e k ≡ true) × 0 < length rest

abbrev pub Writes : Sink → Result (Unit {0}) PlayError → Option (List ℕ) → Option (List ℕ) → List ℕ → Type 0
Writes k (Ok u) before after text = Appends before after text
Writes k (Err e) before after text = AppendsFront (LeavesUnwritten k e) before after text

-- What a line adds to an output was written to it: the whole, or a front of it, and an error that can come there.
abbrev pub LeavesBehind : Sink → PlayError → List ℕ → Type 0
LeavesBehind k e rest = IsOutput e × LeavesSome k e rest

abbrev pub Adds : Sink → Result (Unit {0}) PlayError → Option (List ℕ) → Option (List ℕ) → List ℕ → Type 0
Adds k (Ok u) before after text = Appends before after text
Adds k (Err e) before after text = AppendsFront (LeavesBehind k e) before after text

-- the same of each output
abbrev pub AddsAll : Result (Unit {0}) PlayError → (Sink → Option (List ℕ)) → (Sink → Option (List ℕ)) → (Sink → List ℕ) → Type 0
AddsAll r before after text = (k : Sink) → Adds k r (before k) (after k) (text k)

-- the playing of so many lines ends with this error only where so much is left to write, or the lines are too many
abbrev pub LeavesUnplayed : Sink → PlayError → ℕ → List ℕ → Type 0
LeavesUnplayed k e lines rest = LeavesSome k e rest × (e ≡ TooManyLines → 2 ^ 64 - 1 ≤ lines)
