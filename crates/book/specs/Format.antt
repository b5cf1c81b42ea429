-- The bytes of an account, and the account that bytes tell.
use Rattle.std.specs.Prelude.{ℕ, ◌+◌, ◌-◌, ◌*◌, Bool, if◌then◌else◌, ◌&&◌, List, [], ◌∷◌, ◌++◌, length, take, drop, Ok, Err, Result, ◌==◌, nat_le, slice_index}
use Rattle.std.specs.List.{flat_map}
use Rattle.snapshot.specs.Accounts.{Account, lawful}
use Rattle.snapshot.specs.Limits.{chain_readings, write_keys}
use Rattle.snapshot.specs.declared.account.ChainReading.{ChainReading}
use Rattle.snapshot.specs.declared.account.Reading.{Reading}
use Rattle.snapshot.specs.declared.account.Write.{Write}
use Rattle.snapshot.specs.declared.fault.Refusal.{Refusal}
use Rattle.snapshot.specs.declared.fault.Refusal.TheVariants.{AccountCut, WrongMark, WrongLastByte, Unlawful}
use Rattle.book.specs.declared.account.Account.{Account as BorrowedAccount}
use Rattle.book.specs.declared.reader.Counts.{Counts}
use Rattle.book.specs.Bytes.{highest_first, number_at, records_from, exclusive_or}

-- How many bytes a reading, a write, and what stands before them take.
abbrev pub reading_size : ℕ
reading_size = 22

abbrev pub write_size : ℕ
write_size = 5

abbrev pub head_size : ℕ
head_size = 28

-- the account that a value of the code stands for
abbrev pub as_account : BorrowedAccount → Account
as_account a =
    record {
      low = a.interval.low;
      high = a.interval.high;
      timestamp = a.timestamp;
      readings = a.readings.now;
      writes = a.writes.now;
    }

-- Writing.

-- worker 1 byte, key 1, value 4, timestamp 8, promise 8
abbrev pub reading_bytes : ChainReading → List ℕ
reading_bytes r =
    r.worker
    ∷ r.key
    ∷ (highest_first 4 r.reading.value ++ (highest_first 8 r.reading.timestamp ++ highest_first 8 r.reading.promise))

-- key 1 byte, value 4
abbrev pub write_bytes : Write → List ℕ
write_bytes w = w.key ∷ highest_first 4 w.value

-- the mark, the numbers of readings and writes, low, high and timestamp
abbrev pub head_bytes : Account → List ℕ
head_bytes a =
    0xC3
    ∷ 0x3C
    ∷ length a.readings
    ∷ length a.writes
    ∷ (highest_first 8 a.low ++ (highest_first 8 a.high ++ highest_first 8 a.timestamp))

-- all bytes but the last
abbrev pub body_bytes : Account → List ℕ
body_bytes a = head_bytes a ++ (flat_map reading_bytes a.readings ++ flat_map write_bytes a.writes)

-- the account's bytes: the last is the exclusive-or of those before it
unfoldable pub account_bytes : Account → List ℕ
account_bytes a = body_bytes a ++ (exclusive_or (body_bytes a) ∷ [])

-- how many bytes an account of n readings and m writes has, the last byte included
abbrev pub size_of : ℕ → ℕ → ℕ
size_of n m = head_size + 1 + (reading_size * n + write_size * m)

-- Reading.

abbrev pub reading_from : List ℕ → ChainReading
reading_from bs =
    let r : Reading = record { value = number_at 2 4 bs; timestamp = number_at 6 8 bs; promise = number_at 14 8 bs } in
    record { worker = slice_index bs 0; key = slice_index bs 1; reading = r }

abbrev pub write_from : List ℕ → Write
write_from bs = record { key = slice_index bs 0; value = number_at 1 4 bs }

-- the two counts stand behind the mark
abbrev pub readings_in : List ℕ → ℕ
readings_in bs = slice_index bs 2

abbrev pub writes_in : List ℕ → ℕ
writes_in bs = slice_index bs 3

-- the size that the two counts tell
abbrev pub size_in : List ℕ → ℕ
size_in bs = size_of (readings_in bs) (writes_in bs)

-- the account that the bytes tell, each field at its place
abbrev pub account_from : List ℕ → Account
account_from bs =
    record {
      low = number_at 4 8 bs;
      high = number_at 12 8 bs;
      timestamp = number_at 20 8 bs;
      readings = records_from reading_from reading_size (readings_in bs) (drop head_size bs);
      writes = records_from write_from write_size (writes_in bs) (drop (head_size + reading_size * readings_in bs) bs);
    }

-- refused unless the test holds
abbrev pub accept_if : {X : Type 0} → Bool → Refusal → Result X Refusal → Result X Refusal
accept_if ok e rest = if ok then rest else Err e

-- the bytes of one account stand at the front: its two counts are in range, it is whole, and its last byte is right
abbrev pub framed : {X : Type 0} → List ℕ → Result X Refusal → Result X Refusal
framed bs rest =
    accept_if (nat_le 4 (length bs)) AccountCut
    (accept_if (slice_index bs 0 == 0xC3 && slice_index bs 1 == 0x3C) WrongMark
    (accept_if (nat_le (readings_in bs) chain_readings && nat_le (writes_in bs) write_keys) Unlawful
    (accept_if (nat_le (size_in bs) (length bs)) AccountCut
    (accept_if (slice_index bs (size_in bs - 1) == exclusive_or (take (size_in bs - 1) bs)) WrongLastByte rest))))

abbrev pub counts_in : List ℕ → Counts
counts_in bs = record { readings = readings_in bs; writes = writes_in bs }

-- an unlawful account is refused
abbrev pub lawful_only : Account → Result Account Refusal
lawful_only a = accept_if (lawful a) Unlawful (Ok a)

-- the account at the front of the bytes, or why there is none: the first check that fails refuses
unfoldable pub front_account : List ℕ → Result Account Refusal
front_account bs = framed bs (lawful_only (account_from bs))
