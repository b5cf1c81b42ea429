-- What a script writes shows a trace that keeps the law of traces.
use Rattle.std.specs.Prelude.{◌≡◌, ℕ, ◌+◌, ◌≤◌, min, List, [], ◌∷◌, ◌++◌, Result, Ok, Err}
use Rattle.std.specs.List.{flat_map}
use Rattle.snapshot.specs.Accounts.{Account}
use Rattle.snapshot.specs.Limits.{key_count, most_records}
use Rattle.snapshot.specs.declared.fault.EngineFault.{EngineFault}
use Rattle.book.specs.Format.{account_bytes}
use Rattle.record_store.specs.Tables.{capacity_of, memory_check}
use Rattle.engine_model.specs.Engines.{Engine}
use Rattle.engine_model.specs.Traces.{NewStore, new_newest, new_table}
use Rattle.engine_model.specs.declared.calls.Call.{Call}
use Rattle.engine.specs.EngineLaw.{TraceOfRun}
use Rattle.engine.specs.declared.answer.Answer.{Answer}
use Rattle.engine.specs.declared.answer.Answer.TheVariants as answer
use Rattle.script.specs.Played.{check_result, shown_result, script_text, parsed_lines, result_parts, bad_parts}
use Rattle.script.specs.Shown.{request_text, store_text}
use Rattle.script.specs.Sinks.{Sink, to_book}
use Rattle.script.specs.declared.bad_line.BadLine.TheVariants.{LateStore}
use Rattle.script.specs.declared.line.Line.{Line}
use Rattle.script.specs.declared.line.Line.TheVariants as line
use Rattle.script.specs.declared.line.StoreKind.TheVariants.{Newest, Table}

-- the calls of lines, in order
abbrev pub calls_in : List Line → List Call
calls_in [] = []
calls_in (line.Blank ∷ lines) = calls_in lines
calls_in (line.Bad bad ∷ lines) = calls_in lines
calls_in (line.Store kind ∷ lines) = calls_in lines
calls_in (line.Call request ∷ lines) = request.call ∷ calls_in lines

-- what lines add to an output, from the line of this number on, whose calls were answered so
abbrev pub text_with : Sink → ℕ → List Line → List (Result Answer EngineFault) → List ℕ
text_with k number [] answers = []
text_with k number (line.Blank ∷ lines) answers = text_with k (number + 1) lines answers
text_with k number (line.Bad bad ∷ lines) answers = bad_parts number bad k ++ text_with k (number + 1) lines answers
text_with k number (line.Store kind ∷ lines) answers = bad_parts number LateStore k ++ text_with k (number + 1) lines answers
text_with k number (line.Call request ∷ lines) [] = []
text_with k number (line.Call request ∷ lines) (a ∷ answers) =
    result_parts (request_text request) (shown_result a) k ++ text_with k (number + 1) lines answers

-- the account that an accepted commit answered; no other call answers one
abbrev pub account_in : Result Answer EngineFault → List Account
account_in (Ok (answer.Leg l)) = []
account_in (Ok (answer.Legs l m)) = []
account_in (Ok (answer.Value x)) = []
account_in (Ok (answer.Count n lost)) = []
account_in (Ok (answer.Account a)) = a ∷ []
account_in (Ok answer.Done) = []
account_in (Err f) = []

abbrev pub accounts_of : List (Result Answer EngineFault) → List Account
accounts_of answers = flat_map account_in answers

-- The texts of lines that an engine over this new store plays: they show the calls with the answers of a trace that keeps the law,
-- and the book has the bytes of the accounts that were answered, in order.
pub record ShowsTrace (store : NewStore) (number : ℕ) (lines : List Line) (text : Sink → List ℕ) : Type 0 where
  pub answers : List (Result Answer EngineFault)
  pub shown : (k : Sink) → text k ≡ text_with k number lines answers
  pub booked : text to_book ≡ flat_map account_bytes (accounts_of answers)
  pub after : Engine
  pub of_run : TraceOfRun store (calls_in lines) answers after

-- texts that begin so, and go on as P says
abbrev pub Begins : (Sink → List ℕ) → ((Sink → List ℕ) → Type 0) → (Sink → List ℕ) → Type 0
Begins front P text = (rest : Sink → List ℕ) × ((k : Sink) → text k ≡ front k ++ rest k) × P rest

-- the same over a new table with so many records
abbrev pub ShowsTableTrace : ℕ → ℕ → List Line → (Sink → List ℕ) → Type 0
ShowsTableTrace records number lines text =
    (room : key_count ≤ capacity_of records) × ShowsTrace (new_table (capacity_of records) room) number lines text

-- The texts of a script's lines: up to the first call or the store's line they have the bad lines, and from there on they show a trace.
abbrev pub ShowsTraces : ℕ → List Line → (Sink → List ℕ) → Type 0
ShowsTraces number [] text = (k : Sink) → text k ≡ []
ShowsTraces number (line.Blank ∷ lines) text = ShowsTraces (number + 1) lines text
ShowsTraces number (line.Bad bad ∷ lines) text = Begins (bad_parts number bad) (ShowsTraces (number + 1) lines) text
ShowsTraces number (line.Store Newest ∷ lines) text =
    Begins (result_parts (store_text Newest) (Ok answer.Done)) (ShowsTrace new_newest (number + 1) lines) text
ShowsTraces number (line.Store (Table records) ∷ lines) text =
    let size = min records most_records in
    Begins (result_parts (store_text (Table records)) (check_result (memory_check size))) (ShowsTableTrace size (number + 1) lines) text
ShowsTraces number (line.Call request ∷ lines) text = ShowsTableTrace most_records number (line.Call request ∷ lines) text

-- what a script prints, adds to the book and tells shows a trace that keeps the law
abbrev pub PrintsTrace : List ℕ → Type 0
PrintsTrace script = ShowsTraces 1 (parsed_lines script) (λ k. script_text k script)
