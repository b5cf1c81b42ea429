-- What was written to each output, where the writing to one of them ends with an error.
use Rattle.std.proofs.Common.{◌≡◌, Bool, true, false, List, [], ℕ, ◌<◌, Option, Result, Ok, Err, length, refl, sym, subst, arith, append-nil, length-append}
use Rattle.std.proofs.KnownBytes.{Appends-nil}
use Rattle.snapshot.specs.declared.fault.Fault.{Fault}
use Rattle.engine.specs.declared.answer.Answer.{Answer}
use Rattle.std.specs.Io.KnownBytes.{Appends}
use Rattle.book.specs.Outputs.{AppendsFront}
use Rattle.script.specs.Failures.{Adds, AddsAll, IsOutput, LeavesUnwritten, Writes, ends_with, leaves_some}
use Rattle.script.specs.Played.{result_line}
use Rattle.script.specs.Sinks.{Sink, each_sink, to_printed, to_book, to_messages}
use Rattle.script.specs.declared.error.PlayError.{PlayError}
use Rattle.script.specs.declared.error.PlayError.TheVariants.{Input, Output, Book, Messages, Memory, TooManyLines}

-- nothing of a call's line was written
pub no_memory : (a : Option (List ℕ)) (call : List ℕ) (outcome : Result Answer Fault) (r : Result (Unit {0}) PlayError) → r ≡ Err Memory → Writes to_printed r a a (result_line call outcome)
no_memory a call outcome r failed =
    subst (λ r'. Writes to_printed r' a a (result_line call outcome)) (sym failed) ([], result_line call outcome, refl, (refl, omega (arith, length-append call)), Appends-nil a)

-- The three outputs, where the writing to one of them has ended with an error.

true_false : ◌≡◌ {A = Bool} false true → ⊥
true_false e = cc

pub at_printed : (e : PlayError) → ends_with e to_printed ≡ true → IsOutput e × (leaves_some e to_book ≡ true → ⊥) × (leaves_some e to_messages ≡ true → ⊥)
at_printed (Input f) ends = absurd (true_false ends)
at_printed (Output f) ends = (tt, λ some. true_false some, λ some. true_false some)
at_printed (Book f) ends = absurd (true_false ends)
at_printed (Messages f) ends = absurd (true_false ends)
at_printed Memory ends = (tt, λ some. true_false some, λ some. true_false some)
at_printed TooManyLines ends = absurd (true_false ends)

pub at_book : (e : PlayError) → ends_with e to_book ≡ true → IsOutput e × (leaves_some e to_messages ≡ true → ⊥)
at_book (Input f) ends = absurd (true_false ends)
at_book (Output f) ends = absurd (true_false ends)
at_book (Book f) ends = (tt, λ some. true_false some)
at_book (Messages f) ends = absurd (true_false ends)
at_book Memory ends = absurd (true_false ends)
at_book TooManyLines ends = absurd (true_false ends)

pub at_messages : (e : PlayError) → ends_with e to_messages ≡ true → IsOutput e × (leaves_some e to_book ≡ true → ⊥)
at_messages (Input f) ends = absurd (true_false ends)
at_messages (Output f) ends = absurd (true_false ends)
at_messages (Book f) ends = absurd (true_false ends)
at_messages (Messages f) ends = (tt, λ some. true_false some)
at_messages Memory ends = (tt, λ some. true_false some)
at_messages TooManyLines ends = absurd (true_false ends)

-- all of the text was written
whole : (k : Sink) (e : PlayError) (before after : Option (List ℕ)) (text : List ℕ) → IsOutput e → (leaves_some e k ≡ true → ⊥) → Appends before after text → Adds k (Err e) before after text
whole k e before after text is none wrote = (text, [], sym (append-nil text), (is, λ some. absurd (none some)), wrote)

-- none of it was, and there is some
none_yet : (k : Sink) (e : PlayError) (a : Option (List ℕ)) (text : List ℕ) → IsOutput e → 0 < length text → Adds k (Err e) a a text
none_yet k e a text is some = ([], text, refl, (is, λ left. some), Appends-nil a)

-- a front of it was
part : (k : Sink) (e : PlayError) (before after : Option (List ℕ)) (text : List ℕ) → IsOutput e → AppendsFront (LeavesUnwritten k e) before after text → Adds k (Err e) before after text
part k e before after text is wrote = (wrote.0, wrote.1, wrote.2, (is, λ left. wrote.3.1), wrote.4)

-- what the book gets first

pub book_failed : (r : Result (Unit {0}) PlayError) (e : PlayError) (p b b' m : Option (List ℕ)) (line bytes : List ℕ) → r ≡ Err e → 0 < length line → AppendsFront (LeavesUnwritten to_book e) b b' bytes → AddsAll r (each_sink p b m) (each_sink p b' m) (each_sink line bytes [])
book_failed r e p b b' m line bytes is some wrote = rw is (at_each (at_book e wrote.3.0))
  where
    at_each : IsOutput e × (leaves_some e to_messages ≡ true → ⊥) → AddsAll (Err e) (each_sink p b m) (each_sink p b' m) (each_sink line bytes [])
    at_each h to_printed = none_yet to_printed e p line h.0 some
    at_each h to_book = part to_book e b b' bytes h.0 wrote
    at_each h to_messages = whole to_messages e m m [] h.0 h.1 (Appends-nil m)

pub then_printed : (r : Result (Unit {0}) PlayError) (p p' b b' m m' : Option (List ℕ)) (line bytes told : List ℕ) → Appends b b' bytes → Appends m m' told → Writes to_printed r p p' line → AddsAll r (each_sink p b m) (each_sink p' b' m') (each_sink line bytes told)
then_printed (Ok u) p p' b b' m m' line bytes told booked messaged wrote to_printed = wrote
then_printed (Ok u) p p' b b' m m' line bytes told booked messaged wrote to_book = booked
then_printed (Ok u) p p' b b' m m' line bytes told booked messaged wrote to_messages = messaged
then_printed (Err e) p p' b b' m m' line bytes told booked messaged wrote to_printed =
    part to_printed e p p' line (at_printed e wrote.3.0).0 wrote
then_printed (Err e) p p' b b' m m' line bytes told booked messaged wrote to_book =
    whole to_book e b b' bytes (at_printed e wrote.3.0).0 (at_printed e wrote.3.0).1 booked
then_printed (Err e) p p' b b' m m' line bytes told booked messaged wrote to_messages =
    whole to_messages e m m' told (at_printed e wrote.3.0).0 (at_printed e wrote.3.0).2 messaged

-- what the messages get first

pub messages_failed : (r : Result (Unit {0}) PlayError) (e : PlayError) (p b m m' : Option (List ℕ)) (line told : List ℕ) → r ≡ Err e → 0 < length line → AppendsFront (LeavesUnwritten to_messages e) m m' told → AddsAll r (each_sink p b m) (each_sink p b m') (each_sink line [] told)
messages_failed r e p b m m' line told is some wrote = rw is (at_each (at_messages e wrote.3.0))
  where
    at_each : IsOutput e × (leaves_some e to_book ≡ true → ⊥) → AddsAll (Err e) (each_sink p b m) (each_sink p b m') (each_sink line [] told)
    at_each h to_printed = none_yet to_printed e p line h.0 some
    at_each h to_book = whole to_book e b b [] h.0 h.1 (Appends-nil b)
    at_each h to_messages = part to_messages e m m' told h.0 wrote
