-- What an output gains where not all of a text is written.
use Rattle.std.specs.Prelude.{◌≡◌, ℕ, List, ◌++◌, Option}
use Rattle.std.specs.Io.KnownBytes.{Appends}

-- known bytes grow by a front of the text, and P holds of the rest of it
abbrev pub AppendsFront : (List ℕ → Type 0) → Option (List ℕ) → Option (List ℕ) → List ℕ → Type 0
AppendsFront P before after text = (front : List ℕ) × (rest : List ℕ) × (text ≡ front ++ rest) × P rest × Appends before after front
