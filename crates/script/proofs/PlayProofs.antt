-- What is still to be printed, while lines are played.
use Rattle.std.proofs.Common.{◌≡◌, ℕ, ◌+◌, ◌-◌, ◌^◌, ◌≤◌, ◌==◌, cond, List, [], ◌∷◌, ◌++◌, length, map, Option, Some, None, ◌<◌, Bool, true, false, eqb, refl, sym, ap, ◌∙◌, append-nil, append_assoc, subst, arith, length-append}
use Rattle.std.proofs.KnownBytes.{Appends-kept, Appends-nil, Appends-trans, Keeps-refl}
use Rattle.std.proofs.lemmas.Bool.Decides.{nat_tests}
use Rattle.std.specs.Io.BufRead.{drop_through, take_through}
use Rattle.std.specs.Io.KnownBytes.{Appends, Keeps}
use Rattle.std.specs.List.{onto_first}
use Rattle.std.specs.Prelude.{IfSome, Result, Ok, Err, if◌then◌else◌}
use Rattle.book.specs.Outputs.{AppendsFront}
use Rattle.script.specs.Failures.{IsInput, IsOutput, LeavesUnplayed, LeavesBehind, leaves_some}
use Rattle.script.specs.Lines.{line_of}
use Rattle.script.specs.Played.{Prints, lines_of, parsed_lines}
use Rattle.script.specs.declared.error.PlayError.{PlayError}
use Rattle.script.specs.declared.error.PlayError.TheVariants.{Input, Output, Book, Messages, Memory, TooManyLines}
use Rattle.script.specs.Sinks.{Sink, each_sink, to_printed, to_book, to_messages}
use Rattle.script.specs.declared.line.Line.{Line}

-- what the next line says
abbrev pub next_parsed : List ℕ → Option Line
next_parsed rest = if length rest == 0 then None else Some (line_of (take_through 10 rest))

-- The first line of what is left.

line_by : (b : ℕ) (bs : List ℕ) (ends : Bool) → (0 < length bs → lines_of bs ≡ take_through 10 bs ∷ lines_of (drop_through 10 bs)) → cond ends ((b ∷ []) ∷ lines_of bs) (onto_first b (lines_of bs)) ≡ cond ends (b ∷ []) (b ∷ take_through 10 bs) ∷ lines_of (cond ends bs (drop_through 10 bs))
line_by b bs true ih = refl
line_by b [] false ih = refl
line_by b (x ∷ xs) false ih = ap (onto_first b) (ih (omega arith))

pub first_line : (bs : List ℕ) → 0 < length bs → lines_of bs ≡ take_through 10 bs ∷ lines_of (drop_through 10 bs)
first_line [] some = absurd (omega arith)
first_line (b ∷ bs) some = line_by b bs (eqb b 10) (λ more. first_line bs more)

-- What the line that was read says of the lines that are left.

true_false : ◌≡◌ {A = Bool} false true → ⊥
true_false e = cc

none_some : {X : Type 0} (x : X) → ◌≡◌ {A = Option X} None (Some x) → ⊥
none_some x e = cc

pub has_line : (b : ℕ) (bs : List ℕ) → next_parsed (b ∷ bs) ≡ Some (line_of (take_through 10 (b ∷ bs)))
has_line b bs = grind (arith, nat_tests)

ended : (rest : List ℕ) → next_parsed rest ≡ None → rest ≡ []
ended [] e = refl
ended (b ∷ bs) e = absurd (none_some _ (sym e ∙ has_line b bs))

same_line : (x l : Line) (o : Option Line) → o ≡ Some x → o ≡ Some l → x ≡ l
same_line x l o p q = cc

parsed : (rest : List ℕ) (l : Line) → next_parsed rest ≡ Some l → parsed_lines rest ≡ l ∷ parsed_lines (drop_through 10 rest)
parsed [] l e = absurd (none_some l e)
parsed (b ∷ bs) l e =
    let same = same_line (line_of (take_through 10 (b ∷ bs))) l (next_parsed (b ∷ bs)) (has_line b bs) e in
    ap (map line_of) (first_line (b ∷ bs) (omega arith)) ∙ ap (λ x. x ∷ parsed_lines (drop_through 10 (b ∷ bs))) same

-- Fronts of texts.

-- a front of what stands behind a text that was written
further : (P : List ℕ → Type 0) (old cur new : Option (List ℕ)) (front text whole : List ℕ) → whole ≡ front ++ text → Appends old cur front → AppendsFront P cur new text → AppendsFront P old new whole
further P old cur new front text whole splits wrote part =
    (front ++ part.0, part.1, splits ∙ (ap (λ t. front ++ t) part.2 ∙ sym (append_assoc front part.0 part.1)), part.3, Appends-trans old cur new front part.0 wrote part.4)

-- a front of a text is one of a longer text
longer : (P Q : List ℕ → Type 0) (cur new : Option (List ℕ)) (text more : List ℕ) → ((rest : List ℕ) → P rest → Q (rest ++ more)) → AppendsFront P cur new text → AppendsFront Q cur new (text ++ more)
longer P Q cur new text more grows part =
    (part.0, part.1 ++ more, ap (λ t. t ++ more) part.2 ∙ append_assoc part.0 part.1 more, grows part.1 part.3, part.4)

not_too_many : (e : PlayError) → IsOutput e → e ≡ TooManyLines → ⊥
not_too_many e is same = rw same at is

unplayed : (k : Sink) (e : PlayError) (lines : ℕ) (more rest : List ℕ) → LeavesBehind k e rest → LeavesUnplayed k e lines (rest ++ more)
unplayed k e lines more rest left =
    (λ some. omega (arith, length-append rest more, left.1 some), λ same. absurd (not_too_many e left.0 same))

-- The input has `rest` left, the output has grown by `front`, and both together make the whole; so many lines there are, and so
-- many were read.
pub record Going (now old cur : Option (List ℕ)) (whole : List ℕ) (left : List ℕ → List ℕ) (lines read : ℕ) : Type 0 where
  pub rest : List ℕ
  pub known : now ≡ Some rest
  pub front : List ℕ
  pub splits : whole ≡ front ++ left rest
  pub wrote : Appends old cur front
  pub counted : lines ≡ read + length (lines_of rest)

pub begins : (now old : Option (List ℕ)) (left : List ℕ → List ℕ) (read : ℕ) → IfSome now (λ rest. Going now old old (left rest) left (read + length (lines_of rest)) read)
begins None old left read = tt
begins (Some xs) old left read = record { rest = xs; known = refl; front = []; splits = refl; wrote = Appends-nil old; counted = refl }

-- what was flushed has only been passed on

pub flushed : (p b m p' : Option (List ℕ)) → Keeps p p' → (k : Sink) → Keeps (each_sink p b m k) (each_sink p' b m k)
flushed p b m p' kept to_printed = kept
flushed p b m p' kept to_book = Keeps-refl b
flushed p b m p' kept to_messages = Keeps-refl m

-- nothing is left
all_played : (now old cur : Option (List ℕ)) (whole : List ℕ) (left : List ℕ → List ℕ) (lines read : ℕ) (next : Option Line) → Going now old cur whole left lines read → IfSome now (λ rest. next ≡ next_parsed rest) → next ≡ None → left [] ≡ [] → Appends old cur whole
all_played now old cur whole left lines read next going reads none empty =
    let is_next : next ≡ next_parsed going.rest = rw going.known at reads in
    let all = ended going.rest (sym is_next ∙ none) in
    let same : whole ≡ going.front = going.splits ∙ (ap (λ t. going.front ++ t) (ap left all ∙ empty) ∙ append-nil going.front) in
    subst (λ t. Appends old cur t) (sym same) going.wrote

-- the line that was read, and what it adds to the text
record Next (now after : Option (List ℕ)) (left left_after : List ℕ → List ℕ) (text : List ℕ) (rest : List ℕ) : Type 0 where
  pub dropped : after ≡ Some (drop_through 10 rest)
  pub adds : left rest ≡ text ++ left_after (drop_through 10 rest)
  pub one_fewer : length (lines_of rest) ≡ 1 + length (lines_of (drop_through 10 rest))

fewer : (rest : List ℕ) (l : Line) → next_parsed rest ≡ Some l → length (lines_of rest) ≡ 1 + length (lines_of (drop_through 10 rest))
fewer [] l e = absurd (none_some l e)
fewer (b ∷ bs) l e = ap length (first_line (b ∷ bs) (omega arith)) ∙ omega arith

next_line : (now after : Option (List ℕ)) (left left_after : List ℕ → List ℕ) (rest : List ℕ) (next : Option Line) (l : Line) (text : List ℕ) → now ≡ Some rest → IfSome now (λ rest. next ≡ next_parsed rest) → IfSome now (λ rest. after ≡ Some (drop_through 10 rest)) → next ≡ Some l → ((rest : List ℕ) → parsed_lines rest ≡ l ∷ parsed_lines (drop_through 10 rest) → left rest ≡ text ++ left_after (drop_through 10 rest)) → Next now after left left_after text rest
next_line now after left left_after rest next l text known reads drops some step =
    let is_next : next ≡ next_parsed rest = rw known at reads in
    let dropped : after ≡ Some (drop_through 10 rest) = rw known at drops in
    record { dropped = dropped; adds = step rest (parsed rest l (sym is_next ∙ some)); one_fewer = fewer rest l (sym is_next ∙ some) }

one_line : (now after old cur new : Option (List ℕ)) (whole : List ℕ) (left left_after : List ℕ → List ℕ) (lines read : ℕ) (text : List ℕ) (going : Going now old cur whole left lines read) → Next now after left left_after text going.rest → Appends cur new text → Going after old new whole left_after lines (read + 1)
one_line now after old cur new whole left left_after lines read text going next wrote =
    let behind = left_after (drop_through 10 going.rest) in
    record {
      rest = drop_through 10 going.rest;
      known = next.dropped;
      front = going.front ++ text;
      splits = going.splits ∙ (ap (λ t. going.front ++ t) next.adds ∙ sym (append_assoc going.front text behind));
      wrote = Appends-trans old cur new going.front text going.wrote wrote;
      counted = omega (arith, going.counted, next.one_fewer);
    }

-- The same where it is not known whether the input's bytes are known. `lines` were read before the first of these lines.

-- a playing that is going on
abbrev pub Playing : Option (List ℕ) → Option (List ℕ) → Option (List ℕ) → Option (List ℕ) → (List ℕ → List ℕ) → (List ℕ → List ℕ) → ℕ → ℕ → Type 0
Playing start now old cur whole left lines read =
    IfSome start (λ first. Going now old cur (whole first) left (lines + length (lines_of first)) read)

pub still : (start now old cur cur' : Option (List ℕ)) (whole left : List ℕ → List ℕ) (lines read : ℕ) → Playing start now old cur whole left lines read → Keeps cur cur' → Playing start now old cur' whole left lines read
still None now old cur cur' whole left lines read going kept = tt
still (Some first) now old cur cur' whole left lines read going kept =
    record { rest = going.rest; known = going.known; front = going.front; splits = going.splits; wrote = Appends-kept old cur cur' going.front going.wrote kept; counted = going.counted }

pub ends : (start now old cur passed : Option (List ℕ)) (whole left : List ℕ → List ℕ) (lines read : ℕ) (next : Option Line) → Playing start now old cur whole left lines read → Keeps cur passed → IfSome now (λ rest. next ≡ next_parsed rest) → next ≡ None → left [] ≡ [] → IfSome start (λ first. Appends old passed (whole first))
ends None now old cur passed whole left lines read next going kept reads none empty = tt
ends (Some first) now old cur passed whole left lines read next going kept reads none empty =
    all_played now old passed (whole first) left _ read next (still (Some first) now old cur passed whole left lines read going kept) reads none empty

pub steps : (start now after old cur passed new : Option (List ℕ)) (whole left left_after : List ℕ → List ℕ) (lines read : ℕ) (next : Option Line) (l : Line) (text : List ℕ) → Playing start now old cur whole left lines read → Keeps cur passed → IfSome now (λ rest. next ≡ next_parsed rest) → IfSome now (λ rest. after ≡ Some (drop_through 10 rest)) → next ≡ Some l → Appends passed new text → ((rest : List ℕ) → parsed_lines rest ≡ l ∷ parsed_lines (drop_through 10 rest) → left rest ≡ text ++ left_after (drop_through 10 rest)) → Playing start after old new whole left_after lines (read + 1)
steps None now after old cur passed new whole left left_after lines read next l text going kept reads drops some wrote step = tt
steps (Some first) now after old cur passed new whole left left_after lines read next l text going kept reads drops some wrote step =
    let here = still (Some first) now old cur passed whole left lines read going kept in
    one_line now after old passed new (whole first) left left_after _ read text here
    (next_line now after left left_after here.rest next l text here.known reads drops some step)
    wrote

-- An error, and the front that was written before it.

-- an input's error leaves nothing that has to be written, nor do too many lines
no_input : (e : PlayError) → IsInput e → (k : Sink) → leaves_some e k ≡ true → ⊥
no_input (Input f) is to_printed some = true_false some
no_input (Input f) is to_book some = true_false some
no_input (Input f) is to_messages some = true_false some
no_input (Output f) is k some = is
no_input (Book f) is k some = is
no_input (Messages f) is k some = is
no_input Memory is k some = is
no_input TooManyLines is k some = is

counts_all : (k : Sink) → leaves_some TooManyLines k ≡ true → ⊥
counts_all to_printed some = true_false some
counts_all to_book some = true_false some
counts_all to_messages some = true_false some

module _ (k : Sink) where
  failed : (r : Result (Unit {0}) PlayError) (e : PlayError) (lines : ℕ) (start old cur : Option (List ℕ)) (whole : List ℕ → List ℕ) → r ≡ Err e → IfSome start (λ first. AppendsFront (LeavesUnplayed k e (lines + length (lines_of first))) old cur (whole first)) → Prints k r lines start old cur whole
  failed r e lines start old cur whole is front = subst (λ r'. Prints k r' lines start old cur whole) (sym is) front

  so_far : (e : PlayError) (start now old cur : Option (List ℕ)) (whole left : List ℕ → List ℕ) (lines read : ℕ) → Playing start now old cur whole left lines read → ((first rest : List ℕ) → lines + length (lines_of first) ≡ read + length (lines_of rest) → LeavesUnplayed k e (lines + length (lines_of first)) (left rest)) → IfSome start (λ first. AppendsFront (LeavesUnplayed k e (lines + length (lines_of first))) old cur (whole first))
  so_far e None now old cur whole left lines read going leaves = tt
  so_far e (Some first) now old cur whole left lines read going leaves =
      (going.front, left going.rest, going.splits, leaves first going.rest going.counted, going.wrote)

  input_leaves : (e : PlayError) (lines : ℕ) (rest : List ℕ) → IsInput e → LeavesUnplayed k e lines rest
  input_leaves e lines rest is = (λ some. absurd (no_input e is k some), λ same. absurd (rw same at is))

  -- the next line could not be read
  pub unread : (r : Result (Unit {0}) PlayError) (e : PlayError) (start now old cur passed : Option (List ℕ)) (whole left : List ℕ → List ℕ) (lines read : ℕ) → r ≡ Err e → IsInput e → Playing start now old cur whole left lines read → Keeps cur passed → Prints k r lines start old passed whole
  unread r e start now old cur passed whole left lines read is input going kept =
      failed r e lines start old passed whole is (so_far e start now old passed whole left lines read (still start now old cur passed whole left lines read going kept) (λ first rest same. input_leaves e _ (left rest) input))

  -- the lines could not be counted
  pub uncounted : (start now old cur : Option (List ℕ)) (whole left : List ℕ → List ℕ) (lines read : ℕ) → 2 ^ 64 - 1 ≤ read → Playing start now old cur whole left lines read → Prints k (Err TooManyLines) lines start old cur whole
  uncounted start now old cur whole left lines read many going =
      so_far TooManyLines start now old cur whole left lines read going (λ first rest same. (λ some. absurd (counts_all k some), λ is. omega (arith, same, many)))

  -- what the line adds could not be written
  pub unwritten : (r : Result (Unit {0}) PlayError) (e : PlayError) (start now after old cur passed new : Option (List ℕ)) (whole left left_after : List ℕ → List ℕ) (lines read : ℕ) (next : Option Line) (l : Line) (text : List ℕ) → r ≡ Err e → Playing start now old cur whole left lines read → Keeps cur passed → IfSome now (λ rest. next ≡ next_parsed rest) → IfSome now (λ rest. after ≡ Some (drop_through 10 rest)) → next ≡ Some l → AppendsFront (LeavesBehind k e) passed new text → ((rest : List ℕ) → parsed_lines rest ≡ l ∷ parsed_lines (drop_through 10 rest) → left rest ≡ text ++ left_after (drop_through 10 rest)) → Prints k r lines start old new whole
  unwritten r e None now after old cur passed new whole left left_after lines read next l text is going kept reads drops some part step = failed r e lines None old new whole is tt
  unwritten r e (Some first) now after old cur passed new whole left left_after lines read next l text is going kept reads drops some part step =
      let going = still (Some first) now old cur passed whole left lines read going kept in
      let here = next_line now after left left_after going.rest next l text going.known reads drops some step in
      let total = lines + length (lines_of first) in
      let behind = left_after (drop_through 10 going.rest) in
      failed r e lines (Some first) old new whole is
      (further (LeavesUnplayed k e total) old passed new going.front (text ++ behind) (whole first)
      (going.splits ∙ ap (λ t. going.front ++ t) here.adds)
      going.wrote
      (longer (LeavesBehind k e) (LeavesUnplayed k e total) passed new text behind (unplayed k e total behind) part))

  -- the line is played by a call that plays all that is left
  pub closes : (r : Result (Unit {0}) PlayError) (start now after old cur passed new : Option (List ℕ)) (whole left left_after : List ℕ → List ℕ) (lines read : ℕ) (next : Option Line) (l : Line) → Playing start now old cur whole left lines read → Keeps cur passed → IfSome now (λ rest. next ≡ next_parsed rest) → IfSome now (λ rest. after ≡ Some (drop_through 10 rest)) → next ≡ Some l → Prints k r (read + 1) after passed new left_after → ((rest : List ℕ) → parsed_lines rest ≡ l ∷ parsed_lines (drop_through 10 rest) → left rest ≡ left_after (drop_through 10 rest)) → Prints k r lines start old new whole
  closes (Ok u) None now after old cur passed new whole left left_after lines read next l going kept reads drops some prints step = tt
  closes (Err e) None now after old cur passed new whole left left_after lines read next l going kept reads drops some prints step = tt
  closes (Ok u) (Some first) now after old cur passed new whole left left_after lines read next l going kept reads drops some prints step =
      let going = still (Some first) now old cur passed whole left lines read going kept in
      let here = next_line now after left left_after going.rest next l [] going.known reads drops some step in
      let behind = left_after (drop_through 10 going.rest) in
      let wrote : Appends passed new behind = rw here.dropped at prints in
      subst (λ t. Appends old new t) (sym (going.splits ∙ ap (λ t. going.front ++ t) here.adds)) (Appends-trans old passed new going.front behind going.wrote wrote)
  closes (Err e) (Some first) now after old cur passed new whole left left_after lines read next l going kept reads drops some prints step =
      let going = still (Some first) now old cur passed whole left lines read going kept in
      let here = next_line now after left left_after going.rest next l [] going.known reads drops some step in
      let behind = left_after (drop_through 10 going.rest) in
      let count = read + 1 + length (lines_of (drop_through 10 going.rest)) in
      let part : AppendsFront (LeavesUnplayed k e count) passed new behind = rw here.dropped at prints in
      let same : count ≡ lines + length (lines_of first) = omega (arith, going.counted, here.one_fewer) in
      further (LeavesUnplayed k e (lines + length (lines_of first))) old passed new going.front behind (whole first)
      (going.splits ∙ ap (λ t. going.front ++ t) here.adds)
      going.wrote
      (subst (λ n. AppendsFront (LeavesUnplayed k e n) passed new behind) same part)

  -- a text is printed, and then what is left
  pub line_then : (r : Result (Unit {0}) PlayError) (lines : ℕ) (now old cur new : Option (List ℕ)) (text : List ℕ) (left whole : List ℕ → List ℕ) → Appends old cur text → Prints k r lines now cur new left → ((rest : List ℕ) → whole rest ≡ text ++ left rest) → Prints k r lines now old new whole
  line_then (Ok u) lines None old cur new text left whole wrote prints step = tt
  line_then (Err e) lines None old cur new text left whole wrote prints step = tt
  line_then (Ok u) lines (Some rest) old cur new text left whole wrote prints step =
      subst (λ t. Appends old new t) (sym (step rest)) (Appends-trans old cur new text (left rest) wrote prints)
  line_then (Err e) lines (Some rest) old cur new text left whole wrote prints step =
      further (LeavesUnplayed k e (lines + length (lines_of rest))) old cur new text (left rest) (whole rest) (step rest) wrote prints

  -- the first text could not be written
  pub line_unwritten : (r : Result (Unit {0}) PlayError) (e : PlayError) (lines : ℕ) (now old cur : Option (List ℕ)) (text : List ℕ) (left whole : List ℕ → List ℕ) → r ≡ Err e → AppendsFront (LeavesBehind k e) old cur text → ((rest : List ℕ) → whole rest ≡ text ++ left rest) → Prints k r lines now old cur whole
  line_unwritten r e lines None old cur text left whole is part step = failed r e lines None old cur whole is tt
  line_unwritten r e lines (Some rest) old cur text left whole is part step =
      let total = lines + length (lines_of rest) in
      let front = longer (LeavesBehind k e) (LeavesUnplayed k e total) old cur text (left rest) (unplayed k e total (left rest)) part in
      failed r e lines (Some rest) old cur whole is
      (subst (λ t. AppendsFront (LeavesUnplayed k e total) old cur t) (sym (step rest)) front)
