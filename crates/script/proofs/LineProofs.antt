-- What is read of a line, and what the whole of it says.
use Rattle.std.proofs.Common.{◌≡◌, ◌≢◌, ℕ, Bool, true, false, List, [], ◌∷◌, ◌++◌, All, length, take, Option, Some, None, IfSome, OnSome, refl, sym, ap, subst, ◌∙◌}
use Rattle.std.proofs.lemmas.List.Elements.{All-append}
use Rattle.std.proofs.BufReadLemmas.{Consumes_through, take_through-nil}
use Rattle.std.proofs.KnownBytes.{Consumes-trans}
use Rattle.std.specs.Io.BufRead.{DropsThrough, take_through}
use Rattle.std.specs.Io.KnownBytes.{Consumes, IsAtEnd}
use Rattle.script.specs.Lines.{line_of}
use Rattle.script.specs.ReadLines.{EndsLine, GoesOn, IsFrontOfLine, ReadsPart, whole_part}
use Rattle.script.specs.declared.line.Line.{Line as ScriptLine}
use Rattle.script.specs.declared.line_reader.Part.{Part}
use Rattle.script.specs.declared.line_reader.Part.TheVariants.{Line, End, More}
use Rattle.script.proofs.PlayProofs.{has_line, next_parsed}

-- What was read of a line.

not_more : (bytes : List ℕ) → More ≡ whole_part bytes → ⊥
not_more [] e = cc
not_more (b ∷ bs) e = cc

reads_whole : (p : Part) (before after : Option (List ℕ)) (start now bytes : List ℕ) → p ≡ whole_part (start ++ bytes) → EndsLine before after bytes → ReadsPart p before after start now
reads_whole (Line l) before after start now bytes is ends = (bytes, is, ends)
reads_whole End before after start now bytes is ends = (bytes, is, ends)
reads_whole More before after start now bytes is ends = absurd (not_more (start ++ bytes) is)

pub reads_part : (p : Part) (before after : Option (List ℕ)) (start now shown : List ℕ) (size : ℕ) (ends : Bool) → IsFrontOfLine shown size ends → Consumes before after (take size shown) × (length shown ≡ 0 → OnSome before (IsAtEnd after)) → (ends ≡ true → p ≡ whole_part (start ++ take size shown)) → (ends ≡ false → p ≡ More) → (ends ≡ false → now ≡ start ++ take size shown) → ReadsPart p before after start now
reads_part p before after start now shown size true front moved whole more kept =
    let ended = front.ended refl in
    reads_whole p before after start now (take size shown) (whole refl) (record {
      lost = moved.0;
      stops = front.stops;
      ends = ended.0;
      at_end = λ none. moved.1 (ended.1 none);
    })
reads_part p before after start now shown size false front moved whole more kept =
    rw (more refl) (record { bytes = take size shown; lost = moved.0; kept = kept refl; no_newline = front.goes_on refl })

-- What the whole line says.

line_said : (before : Option (List ℕ)) (bytes : List ℕ) (l : ScriptLine) → Line l ≡ whole_part bytes → IfSome before (λ rest. bytes ≡ take_through 10 rest) → IfSome before (λ rest. Some l ≡ next_parsed rest)
line_said None bytes l is taken = tt
line_said (Some rest) [] l is taken = absurd (line_end l is)
  where
    line_end : (l : ScriptLine) → Line l ≡ End → ⊥
    line_end l e = cc
line_said (Some []) (b ∷ bs) l is taken = absurd (cons_nil b bs taken)
  where
    cons_nil : (b : ℕ) (bs : List ℕ) → ◌≡◌ {A = List ℕ} (b ∷ bs) [] → ⊥
    cons_nil b bs e = cc
line_said (Some (x ∷ xs)) (b ∷ bs) l is taken =
    let same : l ≡ line_of (b ∷ bs) = cc in
    ap Some (same ∙ ap line_of taken) ∙ sym (has_line x xs)

end_said : (before : Option (List ℕ)) (bytes : List ℕ) → End ≡ whole_part bytes → IfSome before (λ rest. bytes ≡ take_through 10 rest) → IfSome before (λ rest. None ≡ next_parsed rest)
end_said None bytes is taken = tt
end_said (Some rest) [] is taken = rw (take_through-nil 10 rest (sym (ap length taken))) refl
end_said (Some rest) (b ∷ bs) is taken = absurd (end_line _ is)
  where
    end_line : (l : ScriptLine) → End ≡ Line l → ⊥
    end_line l e = cc

-- the line, and what the input has left behind it

pub line_read : (before now after : Option (List ℕ)) (start : List ℕ) (l : ScriptLine) → Consumes before now start → All (λ x. x ≢ 10) start → ReadsPart (Line l) now after start start → IfSome before (λ rest. Some l ≡ next_parsed rest) × DropsThrough before after 10
line_read before now after start l lost none part =
    let ends = part.2 in
    let through = Consumes_through 10 before now after start part.0 lost none ends.lost ends.stops ends.ends ends.at_end in
    (line_said before (start ++ part.0) l part.1 through.0, through.1)

pub end_read : (before now after : Option (List ℕ)) (start : List ℕ) → Consumes before now start → All (λ x. x ≢ 10) start → ReadsPart End now after start start → IfSome before (λ rest. None ≡ next_parsed rest) × DropsThrough before after 10
end_read before now after start lost none part =
    let ends = part.2 in
    let through = Consumes_through 10 before now after start part.0 lost none ends.lost ends.stops ends.ends ends.at_end in
    (end_said before (start ++ part.0) part.1 through.0, through.1)

-- the line goes on, and so far it has no newline
pub goes_on : (before now after : Option (List ℕ)) (start longer : List ℕ) → Consumes before now start → All (λ x. x ≢ 10) start → GoesOn now after start longer → Consumes before after longer × All (λ x. x ≢ 10) longer
goes_on before now after start longer lost none more = (
  subst (Consumes before after) (sym more.kept) (Consumes-trans before now after start more.bytes lost more.lost),
  subst (All (λ x. x ≢ 10)) (sym more.kept) (All-append (λ x. x ≢ 10) start more.bytes none more.no_newline),
)
