-- What a script writes shows a trace: the answers are those of its calls, run on a new engine.
use Rattle.std.proofs.Common.{◌≡◌, ℕ, ◌+◌, ◌≤◌, min, Bool, true, false, if◌then◌else◌, List, [], ◌∷◌, ◌++◌, map, reverse, Option, Some, None, Result, Ok, Err, IfSome, refl, sym, ap, ◌∙◌, subst, append-nil, arith}
use Rattle.std.proofs.lemmas.Bool.Decides.{nat_tests}
use Rattle.std.proofs.lemmas.Grind.{flat_map-append}
use Rattle.std.proofs.lemmas.List.{reverse-append}
use Rattle.std.specs.List.{AllByRecursion, flat_map}
use Rattle.snapshot.specs.Accounts.{Account, lawful}
use Rattle.snapshot.specs.declared.fault.EngineFault.{EngineFault}
use Rattle.snapshot.specs.Limits.{key_count, most_records}
use Rattle.store.specs.Meaning.{new_store}
use Rattle.store.specs.declared.version.Version.{Version}
use Rattle.records.specs.Slices.{is_table_size}
use Rattle.record_store.specs.Tables.{capacity_of}
use Rattle.engine_model.specs.Engines.{Engine, new_engine}
use Rattle.engine_model.specs.Law.{AccountLaw}
use Rattle.engine_model.specs.Rules.{Rules, the_rules}
use Rattle.engine_model.specs.Steps.{AnswerTo}
use Rattle.engine_model.specs.Traces.{event, AtEach, NewStore, Trace, history_of, new_newest, new_table, trace_of}
use Rattle.engine_model.specs.declared.calls.Call.{Call}
use Rattle.engine_model.specs.declared.calls.Call.TheVariants as call
use Rattle.engine.specs.EngineLaw.{answered_in}
use Rattle.engine.specs.declared.answer.Answer.{Answer}
use Rattle.engine.specs.declared.answer.Answer.TheVariants as answer
use Rattle.engine.specs.Performing.{engine_after_calls, answers_to, as_result, performed}
use Rattle.engine.proofs.TraceLemmas.{run_keeps_law}
use Rattle.script.specs.Played.{shown_result, played, played_on, parsed_lines, result_parts, bad_parts}
use Rattle.script.specs.ScriptTraces.{PrintsTrace, ShowsTrace, ShowsTraces, ShowsTableTrace, account_in, accounts_of, calls_in, text_with}
use Rattle.book.specs.Format.{account_bytes}
use Rattle.script.specs.Shown.{booked_bytes, request_text}
use Rattle.script.specs.Sinks.{Sink, to_book}
use Rattle.script.specs.declared.bad_line.BadLine.TheVariants.{LateStore}
use Rattle.script.specs.declared.line.Line.{Line}
use Rattle.script.specs.declared.line.Line.TheVariants as line
use Rattle.script.specs.declared.line.StoreKind.TheVariants.{Newest, Table}

ok_err : {X E : Type 0} {x : X} {e : E} → ◌≡◌ {A = Result X E} (Err e) (Ok x) → ⊥
ok_err h = cc

text_is :
    (k : Sink) (depth : ℕ) (s : Engine) (number : ℕ) (lines : List Line) →
    played_on k depth s number lines ≡ text_with k number lines (answers_to depth (calls_in lines) s)
text_is k depth s number [] = refl
text_is k depth s number (line.Blank ∷ lines) = text_is k depth s (number + 1) lines
text_is k depth s number (line.Bad bad ∷ lines) = ap (λ t. bad_parts number bad k ++ t) (text_is k depth s (number + 1) lines)
text_is k depth s number (line.Store kind ∷ lines) =
    ap (λ t. bad_parts number LateStore k ++ t) (text_is k depth s (number + 1) lines)
text_is k depth s number (line.Call request ∷ lines) =
    let now = performed depth request.call s in
    ap (λ t. result_parts (request_text request) (shown_result now.0) k ++ t) (text_is k depth now.1 (number + 1) lines)

-- The book has the bytes of the accounts that were answered.

-- the book takes the account, if one was answered
abbrev pub ForTheBook : Result Answer EngineFault → Type 0
ForTheBook r = (a : Account) → r ≡ Ok (answer.Account a) → lawful a ≡ true

adds_account : (r : Result Answer EngineFault) → ForTheBook r → booked_bytes (shown_result r) ≡ flat_map account_bytes (account_in r)
adds_account (Ok (answer.Leg l)) h = refl
adds_account (Ok (answer.Legs l m)) h = refl
adds_account (Ok (answer.Value x)) h = refl
adds_account (Ok (answer.Count n lost)) h = refl
adds_account (Ok (answer.Account a)) h = rw (h a refl) (sym (append-nil (account_bytes a)))
adds_account (Ok answer.Done) h = refl
adds_account (Err f) h = refl

books_accounts :
    (depth : ℕ) (s : Engine) (number : ℕ) (lines : List Line) →
    AllByRecursion ForTheBook (answers_to depth (calls_in lines) s) →
    played_on to_book depth s number lines ≡ flat_map account_bytes (accounts_of (answers_to depth (calls_in lines) s))
books_accounts depth s number [] all = refl
books_accounts depth s number (line.Blank ∷ lines) all = books_accounts depth s (number + 1) lines all
books_accounts depth s number (line.Bad bad ∷ lines) all = books_accounts depth s (number + 1) lines all
books_accounts depth s number (line.Store kind ∷ lines) all = books_accounts depth s (number + 1) lines all
books_accounts depth s number (line.Call request ∷ lines) all =
    let now = performed depth request.call s in
    let rest = answers_to depth (calls_in lines) now.1 in
    let behind = books_accounts depth now.1 (number + 1) lines all.1 in
    ap (λ t. booked_bytes (shown_result now.0) ++ t) behind
    ∙ ap (λ t. t ++ flat_map account_bytes (accounts_of rest)) (adds_account now.0 all.0)
    ∙ sym (flat_map-append account_bytes (account_in now.0) (accounts_of rest))

-- The book takes every account of a trace.

commit_for_book :
    (rules : Rules) (store : NewStore) (history : ℕ → List Version) (before : Trace) (c : Call) (r : Result (AnswerTo c) EngineFault) →
    ((p l clock q w : ℕ) (a : Account) → event c r ≡ event (call.Commit p l clock q w) (Ok a) → AccountLaw rules store history before p l clock a) →
    ForTheBook (as_result c r)
commit_for_book rules store history before c (Err f) law = λ a e. absurd (ok_err e)
commit_for_book rules store history before (call.Begin p w) (Ok x) law = λ a e. cc
commit_for_book rules store history before (call.Hand p l w) (Ok x) law = λ a e. cc
commit_for_book rules store history before (call.Fork p l w v) (Ok x) law = λ a e. cc
commit_for_book rules store history before (call.Join p l m w) (Ok x) law = λ a e. cc
commit_for_book rules store history before (call.Read p l k) (Ok x) law = λ a e. cc
commit_for_book rules store history before (call.Write p l k x) (Ok y) law = λ a e. cc
commit_for_book rules store history before (call.Commit p l clock q w) (Ok x) law = λ a e.
    let same : x ≡ a = cc in
    rw (← same) (law p l clock q w x refl).for_the_book
commit_for_book rules store history before (call.Abandon p) (Ok x) law = λ a e. cc
commit_for_book rules store history before (call.Deliver i) (Ok x) law = λ a e. cc
commit_for_book rules store history before (call.Discard i) (Ok x) law = λ a e. cc
commit_for_book rules store history before call.Count (Ok x) law = λ a e. cc
commit_for_book rules store history before (call.Prune h) (Ok x) law = λ a e. cc

trace_for_book :
    (rules : Rules) (store : NewStore) (history : ℕ → List Version) (trace : Trace) →
    AtEach (λ e before. (p l clock r w : ℕ) (a : Account) → e ≡ event (call.Commit p l clock r w) (Ok a) → AccountLaw rules store history before p l clock a) trace →
    AllByRecursion ForTheBook (map answered_in trace)
trace_for_book rules store history [] law = tt
trace_for_book rules store history (e ∷ before) law =
    (commit_for_book rules store history before e.called e.answer law.0, trace_for_book rules store history before law.1)

all_joined : {X : Type 0} (P : X → Type 0) (xs ys : List X) → AllByRecursion P xs → AllByRecursion P ys → AllByRecursion P (xs ++ ys)
all_joined P [] ys left right = right
all_joined P (x ∷ xs) ys left right = (left.0, all_joined P xs ys left.1 right)

all_reversed : {X : Type 0} (P : X → Type 0) (xs : List X) → AllByRecursion P xs → AllByRecursion P (reverse xs)
all_reversed P [] all = tt
all_reversed P (x ∷ xs) all =
    rw (reverse-append (x ∷ []) xs) (all_joined P (reverse xs) (x ∷ []) (all_reversed P xs all.1) (all.0, tt))

shows_trace :
    (store : NewStore) (number : ℕ) (lines : List Line) →
    ShowsTrace store number lines (λ k. played_on k store.depth (new_engine (new_store store.capacity)) number lines)
shows_trace store number lines =
    let s : Engine = new_engine (new_store store.capacity) in
    let calls = calls_in lines in
    let run = run_keeps_law store.depth calls (new_store store.capacity) _ refl store refl refl in
    let trace = trace_of the_rules store calls in
    let taken : AllByRecursion ForTheBook (reverse (map answered_in trace)) =
    all_reversed ForTheBook (map answered_in trace) (trace_for_book the_rules store (history_of trace) trace run.law.commits) in
    record {
      answers = answers_to store.depth calls s;
      shown = λ k. text_is k store.depth s number lines;
      booked = books_accounts store.depth s number lines (subst (AllByRecursion ForTheBook) (sym run.answered) taken);
      after = engine_after_calls store.depth calls s;
      of_run = run;
    }

room_by : (size : ℕ) (fits : Bool) → (fits ≡ true → key_count ≤ size) → key_count ≤ (if fits then size else key_count)
room_by size true room = room refl
room_by size false room = omega arith

has_room : (size : ℕ) → key_count ≤ capacity_of size
has_room size = room_by size (is_table_size size) (λ fits. grind (arith, nat_tests))

shows_table_trace :
    (size number : ℕ) (lines : List Line) →
    ShowsTableTrace size number lines (λ k. played_on k 16 (new_engine (new_store (capacity_of size))) number lines)
shows_table_trace size number lines =
    let room = has_room size in
    (room, shows_trace (new_table (capacity_of size) room) number lines)

shows_traces : (number : ℕ) (lines : List Line) → ShowsTraces number lines (λ k. played k number lines)
shows_traces number [] = λ k. refl
shows_traces number (line.Blank ∷ lines) = shows_traces (number + 1) lines
shows_traces number (line.Bad bad ∷ lines) = (λ k. played k (number + 1) lines, λ k. refl, shows_traces (number + 1) lines)
shows_traces number (line.Store Newest ∷ lines) = (_, λ k. refl, shows_trace new_newest (number + 1) lines)
shows_traces number (line.Store (Table records) ∷ lines) =
    (_, λ k. refl, shows_table_trace (min records most_records) (number + 1) lines)
shows_traces number (line.Call request ∷ lines) = shows_table_trace most_records number (line.Call request ∷ lines)

pub prints_trace : (script : Option (List ℕ)) → IfSome script PrintsTrace
prints_trace None = tt
prints_trace (Some script) = shows_traces 1 (parsed_lines script)
