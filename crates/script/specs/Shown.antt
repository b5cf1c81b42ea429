-- The texts of calls, of answers and of refusals.
use Rattle.std.specs.Prelude.{ℕ, ◌/◌, ◌%◌, Bool, false, if◌then◌else◌, List, [], ◌∷◌, ◌++◌, codes, decimal, Result, Ok, Err}
use Rattle.std.specs.Borrow.{Bor}
use Rattle.std.specs.Fmt.{digit_glyph}
use Rattle.std.specs.List.{flat_map}
use Rattle.snapshot.specs.Accounts.{Account, head_of, lawful}
use Rattle.snapshot.specs.Refusals.{book_fault, refusal_number}
use Rattle.snapshot.specs.Shown.{head_text, layer_text, line_break, spaced}
use Rattle.snapshot.specs.declared.account.ChainReading.{ChainReading}
use Rattle.snapshot.specs.declared.account.Write.{Write}
use Rattle.snapshot.specs.declared.fault.Fault.{Fault}
use Rattle.snapshot.specs.declared.fault.Refusal.TheVariants.{Unlawful}
use Rattle.engine_model.specs.declared.calls.Call.{Call}
use Rattle.engine_model.specs.declared.calls.Call.TheVariants as call
use Rattle.book.specs.Format.{account_bytes}
use Rattle.engine.specs.declared.answer.Answer.{Answer}
use Rattle.engine.specs.declared.answer.Answer.TheVariants as answer
use Rattle.script.specs.declared.line.Request.{Request}
use Rattle.script.specs.declared.line.StoreKind.{StoreKind}
use Rattle.script.specs.declared.line.StoreKind.TheVariants.{Newest, Table}

-- Calls: the word and the numbers, with single spaces.

abbrev pub two : ℕ → ℕ → List ℕ
two a b = spaced a (decimal b)

abbrev pub three : ℕ → ℕ → ℕ → List ℕ
three a b c = spaced a (two b c)

abbrev pub four : ℕ → ℕ → ℕ → ℕ → List ℕ
four a b c d = spaced a (three b c d)

abbrev pub five : ℕ → ℕ → ℕ → ℕ → ℕ → List ℕ
five a b c d e = spaced a (four b c d e)

-- numbers, each behind a space
abbrev pub numbers_text : List ℕ → List ℕ
numbers_text [] = []
numbers_text (n ∷ []) = 32 ∷ decimal n
numbers_text (n ∷ ns) = 32 ∷ (decimal n ++ numbers_text ns)

-- a commit's rooms are shown only where they were named
abbrev pub call_text : Bool → Call → List ℕ
call_text rooms (call.Begin p w) = codes "begin " ++ two p w
call_text rooms (call.Hand p l w) = codes "hand " ++ three p l w
call_text rooms (call.Fork p l w v) = codes "fork " ++ four p l w v
call_text rooms (call.Join p l m w) = codes "join " ++ four p l m w
call_text rooms (call.Read p l k) = codes "read " ++ three p l k
call_text rooms (call.Write p l k x) = codes "write " ++ four p l k x
call_text rooms (call.Commit p l c r w) = codes "commit " ++ (if rooms then five p l c r w else three p l c)
call_text rooms (call.Abandon p) = codes "abandon " ++ decimal p
call_text rooms (call.Deliver i) = codes "deliver " ++ decimal i
call_text rooms (call.Discard i) = codes "discard " ++ decimal i
call_text rooms call.Count = codes "count"
call_text rooms (call.Prune h) = codes "prune " ++ decimal h

abbrev pub request_text : Request → List ℕ
request_text q = call_text q.names_rooms q.call

abbrev pub store_text : StoreKind → List ℕ
store_text Newest = codes "store newest"
store_text (Table n) = codes "store table " ++ decimal n

-- Refusals: the number, the layer, and the place, the leg and the key that the call named.

abbrev pub fault_text : Fault → List ℕ
fault_text f =
    codes "refused " ++ spaced (refusal_number f.refusal) (layer_text f.layer ++ (codes " " ++ three f.place f.leg f.key))

-- Accounts: a line with the five numbers, one for each reading and each write, and one with the bytes in the book.

abbrev pub reading_text : ChainReading → List ℕ
reading_text r = five r.worker r.key r.reading.value r.reading.timestamp r.reading.promise

abbrev pub reading_line : ChainReading → List ℕ
reading_line r = line_break ++ (codes "  reading " ++ reading_text r)

abbrev pub write_line : Write → List ℕ
write_line w = line_break ++ (codes "  write " ++ two w.key w.value)

-- a byte in two hexadecimal digits
abbrev pub hex_byte : ℕ → List ℕ
hex_byte b = digit_glyph false (b / 16) ∷ digit_glyph false (b % 16) ∷ []

-- the account's bytes; an account that the book does not take has that refusal in their place
abbrev pub book_text : Account → List ℕ
book_text a = if lawful a then flat_map hex_byte (account_bytes a) else fault_text (book_fault Unlawful 0).fault

abbrev pub account_text : Account → List ℕ
account_text a =
    codes "account "
    ++ (head_text (head_of a)
    ++ (flat_map reading_line a.readings
    ++ (flat_map write_line a.writes ++ (line_break ++ (codes "  book " ++ book_text a)))))

-- What a call came to: its answer or its refusal.
abbrev pub outcome_text : Result Answer Fault → List ℕ
outcome_text (Ok (answer.Leg l)) = codes "leg " ++ decimal l
outcome_text (Ok (answer.Legs l m)) = codes "legs " ++ two l m
outcome_text (Ok (answer.Value x)) = codes "value " ++ decimal x
outcome_text (Ok (answer.Count n lost)) = codes "waiting " ++ (decimal n ++ (codes " lost " ++ decimal lost))
outcome_text (Ok (answer.Account a)) = account_text a
outcome_text (Ok answer.Done) = codes "done"
outcome_text (Err f) = fault_text f

-- an outcome whose answer is borrowed
abbrev pub lent_outcome : Result (Bor Answer) Fault → Result Answer Fault
lent_outcome (Ok a) = Ok a.now
lent_outcome (Err f) = Err f

-- What a call adds to the book: the bytes of the account that it answers. An account that the book does not take adds nothing.
abbrev pub booked_bytes : Result Answer Fault → List ℕ
booked_bytes (Ok (answer.Leg l)) = []
booked_bytes (Ok (answer.Legs l m)) = []
booked_bytes (Ok (answer.Value x)) = []
booked_bytes (Ok (answer.Count n lost)) = []
booked_bytes (Ok (answer.Account a)) = if lawful a then account_bytes a else []
booked_bytes (Ok answer.Done) = []
booked_bytes (Err f) = []
