-- What a script writes to each output: each call with what the rules draw for it, the accounts' bytes, and each bad line.
use Rattle.std.specs.Prelude.{ℕ, ◌+◌, ◌==◌, min, if◌then◌else◌, List, [], ◌∷◌, ◌++◌, Result, Ok, Err, codes, decimal, length, map, Option, IfSome}
use Rattle.std.specs.Io.KnownBytes.{Appends}
use Rattle.std.specs.List.{onto_first}
use Rattle.snapshot.specs.Limits.{key_count, most_records}
use Rattle.snapshot.specs.Shown.{line_break}
use Rattle.snapshot.specs.declared.fault.EngineFault.{EngineFault}
use Rattle.snapshot.specs.declared.fault.Fault.{Fault}
use Rattle.store.specs.Meaning.{new_store}
use Rattle.records.specs.Layouts.{record_depth}
use Rattle.record_store.specs.Tables.{capacity_of, memory_check}
use Rattle.book.specs.Outputs.{AppendsFront}
use Rattle.engine_model.specs.Engines.{Engine, new_engine}
use Rattle.engine.specs.Performing.{performed}
use Rattle.engine.specs.declared.answer.Answer.{Answer}
use Rattle.engine.specs.declared.answer.Answer.TheVariants as answer
use Rattle.script.specs.BadLines.{message}
use Rattle.script.specs.Failures.{LeavesUnplayed}
use Rattle.script.specs.Lines.{line_of}
use Rattle.script.specs.Shown.{booked_bytes, outcome_text, request_text, store_text}
use Rattle.script.specs.Sinks.{Sink, each_sink, to_printed, to_book, to_messages}
use Rattle.script.specs.declared.bad_line.BadLine.{BadLine}
use Rattle.script.specs.declared.bad_line.BadLine.TheVariants.{LateStore}
use Rattle.script.specs.declared.error.PlayError.{PlayError}
use Rattle.script.specs.declared.line.Line.{Line}
use Rattle.script.specs.declared.line.Line.TheVariants as line
use Rattle.script.specs.declared.line.StoreKind.TheVariants.{Newest, Table}

-- the lines of a script, each with its newline, which the last may lack
abbrev pub lines_of : List ℕ → List (List ℕ)
lines_of [] = []
lines_of (b ∷ bs) = if b == 10 then (b ∷ []) ∷ lines_of bs else onto_first b (lines_of bs)

-- what the lines say
abbrev pub parsed_lines : List ℕ → List Line
parsed_lines script = map line_of (lines_of script)

-- a call and what it came to
abbrev pub result_line : List ℕ → Result Answer Fault → List ℕ
result_line call outcome = call ++ (codes " -> " ++ (outcome_text outcome ++ line_break))

abbrev pub bad_line : ℕ → List ℕ
bad_line number = codes "bad " ++ (decimal number ++ line_break)

-- of an engine's fault the call's own is shown
abbrev pub shown_result : Result Answer EngineFault → Result Answer Fault
shown_result (Ok a) = Ok a
shown_result (Err f) = Err f.fault

-- what a call adds to each output
abbrev pub result_parts : List ℕ → Result Answer Fault → Sink → List ℕ
result_parts call outcome = each_sink (result_line call outcome) (booked_bytes outcome) []

-- what a bad line adds to each output
abbrev pub bad_parts : ℕ → BadLine → Sink → List ℕ
bad_parts number bad = each_sink (bad_line number) [] (message number bad)

-- what a line adds to an output once the engine stands, over a store of this depth: a store's line is bad there
abbrev pub line_text : Sink → ℕ → Engine → ℕ → Line → List ℕ
line_text k depth engine number line.Blank = []
line_text k depth engine number (line.Bad bad) = bad_parts number bad k
line_text k depth engine number (line.Store kind) = bad_parts number LateStore k
line_text k depth engine number (line.Call request) =
    result_parts (request_text request) (shown_result (performed depth request.call engine).0) k

-- the engine after the line
abbrev pub after_line : ℕ → Engine → Line → Engine
after_line depth engine line.Blank = engine
after_line depth engine (line.Bad bad) = engine
after_line depth engine (line.Store kind) = engine
after_line depth engine (line.Call request) = (performed depth request.call engine).1

-- what lines add to an output, from the line of this number on
abbrev pub played_on : Sink → ℕ → Engine → ℕ → List Line → List ℕ
played_on k depth engine number [] = []
played_on k depth engine number (l ∷ lines) =
    line_text k depth engine number l ++ played_on k depth (after_line depth engine l) (number + 1) lines

-- a new engine over a table in memory of so many records
abbrev pub over_table : ℕ → Engine
over_table records = new_engine (new_store (capacity_of records))

-- what a table answers to memory of so many records
abbrev pub check_result : Result (Unit {0}) Fault → Result Answer Fault
check_result (Ok u) = Ok answer.Done
check_result (Err f) = Err f

-- what lines add to an output as long as there is no engine
abbrev pub played : Sink → ℕ → List Line → List ℕ
played k number [] = []
played k number (line.Blank ∷ lines) = played k (number + 1) lines
played k number (line.Bad bad ∷ lines) = bad_parts number bad k ++ played k (number + 1) lines
played k number (line.Store Newest ∷ lines) =
    result_parts (store_text Newest) (Ok answer.Done) k ++ played_on k 1 (new_engine (new_store key_count)) (number + 1) lines
played k number (line.Store (Table records) ∷ lines) =
    let size = min records most_records in
    result_parts (store_text (Table records)) (check_result (memory_check size)) k
    ++ played_on k record_depth (over_table size) (number + 1) lines
played k number (line.Call request ∷ lines) =
    played_on k record_depth (over_table most_records) number (line.Call request ∷ lines)

-- what a script adds to each output
abbrev pub script_text : Sink → List ℕ → List ℕ
script_text k script = played k 1 (parsed_lines script)

-- what it prints, adds to the book, and tells
abbrev pub printed : List ℕ → List ℕ
printed script = script_text to_printed script

abbrev pub booked : List ℕ → List ℕ
booked script = script_text to_book script

abbrev pub told : List ℕ → List ℕ
told script = script_text to_messages script

-- What a call wrote to an output of the text that this draws from the bytes which the input had left, when so many lines had been
-- read before: all of it, or, with an error, a front of it. Where the bytes of the input or of the output are not
-- known, as at a terminal, it says nothing.
abbrev pub Prints : Sink → Result (Unit {0}) PlayError → ℕ → Option (List ℕ) → Option (List ℕ) → Option (List ℕ) → (List ℕ → List ℕ) → Type 0
Prints k (Ok u) lines left before after text = IfSome left (λ rest. Appends before after (text rest))
Prints k (Err e) lines left before after text =
    IfSome left (λ rest. AppendsFront (LeavesUnplayed k e (lines + length (lines_of rest))) before after (text rest))

-- the same of each output
abbrev pub PrintsAll : Result (Unit {0}) PlayError → ℕ → Option (List ℕ) → (Sink → Option (List ℕ)) → (Sink → Option (List ℕ)) → (Sink → List ℕ → List ℕ) → Type 0
PrintsAll r lines left before after text = (k : Sink) → Prints k r lines left (before k) (after k) (text k)
