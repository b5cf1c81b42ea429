-- What the writer and the reader answer, and what they leave in the memory that is handed to them.
use Rattle.std.specs.Prelude.{ℕ, ◌+◌, if◌then◌else◌, ◌&&◌, List, [], length, drop, is_ok, Ok, Err, Result, nat_le}
use Rattle.snapshot.specs.Accounts.{Account, head_of, lawful}
use Rattle.snapshot.specs.Refusals.{book_fault}
use Rattle.snapshot.specs.declared.account.ChainReading.{ChainReading}
use Rattle.snapshot.specs.declared.account.Write.{Write}
use Rattle.snapshot.specs.declared.fault.BookFault.{BookFault}
use Rattle.snapshot.specs.declared.fault.Refusal.{Refusal}
use Rattle.snapshot.specs.declared.fault.Refusal.TheVariants.{TooShort, Unlawful}
use Rattle.book.specs.declared.reader.AccountAt.{AccountAt}
use Rattle.snapshot.specs.Overwriting.{overwritten}
use Rattle.book.specs.Format.{account_bytes, accept_if, front_account}

-- a refusal with the byte place at which the account starts
abbrev pub faulted : {X : Type 0} → ℕ → Result X Refusal → Result X BookFault
faulted start (Ok x) = Ok x
faulted start (Err e) = Err (book_fault e start)

-- Writing: an unlawful account is refused, then a buffer that is too short; the answer is the number of bytes.
abbrev pub writing : Account → ℕ → Result ℕ Refusal
writing a room = accept_if (lawful a) Unlawful (accept_if (nat_le (length (account_bytes a)) room) TooShort (Ok (length (account_bytes a))))

-- the buffer begins with the account's bytes where it was accepted, and is as it was where not
abbrev pub buffer_after : Account → List ℕ → List ℕ
buffer_after a old = if is_ok (writing a (length old)) then overwritten (account_bytes a) old else old

-- Reading: the account at a place of the book, for lists with room for n readings and m writes. Past the end of the book
-- there are no bytes.
abbrev pub room_for : ℕ → ℕ → Account → Result Account Refusal
room_for n m a = accept_if (nat_le (length a.readings) n && nat_le (length a.writes) m) TooShort (Ok a)

abbrev pub front_for : ℕ → ℕ → Result Account Refusal → Result Account Refusal
front_for n m (Ok a) = room_for n m a
front_for n m (Err e) = Err e

abbrev pub read_at : List ℕ → ℕ → ℕ → ℕ → Result Account Refusal
read_at book start n m = front_for n m (front_account (drop start book))

-- the account's five numbers, and the place after its bytes
abbrev pub located : ℕ → Result Account Refusal → Result AccountAt Refusal
located start (Ok a) = Ok (record { head = head_of a; end = start + length (account_bytes a) })
located start (Err e) = Err e

-- what is filled into the two lists: nothing where the account is refused
abbrev pub filled_readings : Result Account Refusal → List ChainReading
filled_readings (Ok a) = a.readings
filled_readings (Err e) = []

abbrev pub filled_writes : Result Account Refusal → List Write
filled_writes (Ok a) = a.writes
filled_writes (Err e) = []
