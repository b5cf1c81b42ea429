-- What a line says.
use Rattle.std.specs.Prelude.{ℕ, ◌==◌, false, if◌then◌else◌, List, [], ◌∷◌, Result, Ok, Err, codes, slice_index}
use Rattle.std.specs.Str.{bytes_eq}
use Rattle.snapshot.specs.Limits.{most_records}
use Rattle.engine_model.specs.declared.calls.Call.{Call}
use Rattle.script.specs.declared.bad_line.BadLine.{BadLine}
use Rattle.script.specs.declared.bad_line.BadLine.TheVariants.{UnknownWord}
use Rattle.script.specs.declared.bad_line.Wanted.TheVariants.{Exactly, Either}
use Rattle.script.specs.declared.line.Line.{Line}
use Rattle.script.specs.declared.line.Line.TheVariants as line
use Rattle.script.specs.declared.line.Request.{Request}
use Rattle.script.specs.declared.line.StoreKind.{StoreKind}
use Rattle.script.specs.declared.line.StoreKind.TheVariants.{Newest, Table}
use Rattle.script.specs.Requests.{and_then, miscounted, operand, up_to, begin_of, hand_of, fork_of, join_of, write_of, read_of, commit_of, abandon_of, deliver_of, discard_of, count_of, prune_of}
use Rattle.script.specs.Words.{first_words}

-- the call with this word, which is not commit, and these words behind it
abbrev pub call_of : List ℕ → List (List ℕ) → Result Call BadLine
call_of word operands =
    if bytes_eq word (codes "begin") then begin_of operands
    else if bytes_eq word (codes "hand") then hand_of operands
    else if bytes_eq word (codes "fork") then fork_of operands
    else if bytes_eq word (codes "join") then join_of operands
    else if bytes_eq word (codes "write") then write_of operands
    else if bytes_eq word (codes "read") then read_of operands
    else if bytes_eq word (codes "abandon") then abandon_of operands
    else if bytes_eq word (codes "deliver") then deliver_of operands
    else if bytes_eq word (codes "discard") then discard_of operands
    else if bytes_eq word (codes "count") then count_of operands
    else if bytes_eq word (codes "prune") then prune_of operands
    else Err (UnknownWord 1)

-- it names no rooms
abbrev pub plain : Call → Request
plain call = record { call = call; names_rooms = false }

abbrev pub request_of : List ℕ → List (List ℕ) → Result Request BadLine
request_of word operands =
    if bytes_eq word (codes "commit") then commit_of operands
    else and_then (call_of word operands) (λ call. Ok (plain call))

-- nothing stands behind `newest`, and one number behind `table`
abbrev pub newest_of : List ℕ → List (List ℕ) → Result StoreKind BadLine
newest_of kind [] = Ok Newest
newest_of kind others = Err (miscounted (kind ∷ others) (Exactly 2))

abbrev pub table_of : List ℕ → List (List ℕ) → Result StoreKind BadLine
table_of kind (records ∷ []) =
    and_then (operand 3 records) (λ n. and_then (up_to most_records n) (λ size. Ok (Table size)))
table_of kind others = Err (miscounted (kind ∷ others) (Exactly 3))

-- the store that the words behind `store` name
abbrev pub store_of : List (List ℕ) → Result StoreKind BadLine
store_of [] = Err (miscounted [] (Either 2 3))
store_of (kind ∷ others) =
    if bytes_eq kind (codes "newest") then newest_of kind others
    else if bytes_eq kind (codes "table") then table_of kind others
    else Err (UnknownWord 2)

-- What the line with this first word and these others says, or why it is bad.
abbrev pub store_or_call : List ℕ → List (List ℕ) → Result Line BadLine
store_or_call first others =
    if bytes_eq first (codes "store") then and_then (store_of others) (λ kind. Ok (line.Store kind))
    else and_then (request_of first others) (λ request. Ok (line.Call request))

-- a line is bad where it says nothing else
abbrev pub or_bad : Result Line BadLine → Line
or_bad (Err bad) = line.Bad bad
or_bad (Ok parsed) = parsed

-- a line is blank where it has no word, and where its first word begins with `#`
abbrev pub line_with : List (List ℕ) → Line
line_with [] = line.Blank
line_with (first ∷ others) = if slice_index first 0 == 35 then line.Blank else or_bad (store_or_call first others)

abbrev pub line_of : List ℕ → Line
line_of bytes = line_with (first_words bytes)
