-- Records written read back as they were, and bytes read as records are written as they were: once for both kinds.
use Rattle.std.proofs.Common.{◌≡◌, ℕ, zero, suc, ◌+◌, ◌*◌, ◌^◌, ◌<◌, ◌≤◌, List, [], ◌∷◌, ◌++◌, length, take, drop, refl, ap, ap₂, append_assoc, mul-zero, arith, length-drop, take-add}
use Rattle.std.proofs.lemmas.List.{drop_at}
use Rattle.std.specs.List.{flat_map, AllByRecursion}
use Rattle.std.specs.Int.Digits.{AllBelowBase}
use Rattle.snapshot.specs.declared.account.ChainReading.{ChainReading}
use Rattle.snapshot.specs.declared.account.Write.{Write}
use Rattle.book.specs.Bytes.{records_from}
use Rattle.book.specs.Format.{reading_bytes, write_bytes, reading_from, write_from}
use Rattle.book.proofs.Packing.{length_joined}
use Rattle.book.proofs.Parts.{small_part, byte_then, part_then}
use Rattle.book.proofs.Numbers.{number_bytes, bytes_at}

pub length_records : {X : Type 0} (one : List ℕ → X) (size n : ℕ) (bs : List ℕ) → length (records_from one size n bs) ≡ n
length_records one size zero bs = refl
length_records one size (suc n) bs = ap suc (length_records one size n (drop size bs))

-- both kinds of record: how one is packed, how one is read, and how many bytes it takes
module _ {X : Type 0} (pack : X → List ℕ) (one : List ℕ → X) (size : ℕ) where
  -- Fit: what has to hold of a record for it to read back
  records_back : (Fit : X → Type 0) → ((x : X) → length (pack x) ≡ size) → ((x : X) (rest : List ℕ) → Fit x → one (pack x ++ rest) ≡ x) → (xs : List X) (rest : List ℕ) → AllByRecursion Fit xs → records_from one size (length xs) (flat_map pack xs ++ rest) ≡ xs
  records_back Fit sized back [] rest fit = refl
  records_back Fit sized back (x ∷ xs) rest fit =
      rw (append_assoc (pack x) (flat_map pack xs) rest, drop_at (pack x) (flat_map pack xs ++ rest) size (sized x))
      (ap₂ ◌∷◌ (back x _ fit.0) (records_back Fit sized back xs rest fit.1))

  records_written : ((bs : List ℕ) → size ≤ length bs → AllBelowBase 256 (take size bs) → pack (one bs) ≡ take size bs) → (n : ℕ) (bs : List ℕ) → size * n ≤ length bs → AllBelowBase 256 (take (size * n) bs) → flat_map pack (records_from one size n bs) ≡ take (size * n) bs
  records_written written zero bs long small = rw mul-zero
  records_written written (suc n) bs long small =
      let e : size * suc n ≡ size + size * n = omega arith in
      rw (e, take-add size (size * n) bs)
      (ap₂ ◌++◌
      (written bs (omega arith) (small_part (size * suc n) 0 size bs (omega arith) small))
      (records_written written n (drop size bs) (simp length-drop (omega arith)) (small_part (size * suc n) size (size * n) bs (omega arith) small)))

-- Readings.

-- a reading that its bytes can hold
abbrev pub Held : ChainReading → Type 0
Held r = (r.reading.value < 2 ^ 32) × (r.reading.timestamp < 2 ^ 64) × (r.reading.promise < 2 ^ 64)

reading_back : (r : ChainReading) (rest : List ℕ) → Held r → reading_from (reading_bytes r ++ rest) ≡ r
reading_back r rest held = λ i.
    record {
      worker = r.worker;
      key = r.key;
      reading = record { value = number_bytes 4 _ held.0 i; timestamp = number_bytes 8 _ held.1 i; promise = number_bytes 8 _ held.2 i };
    }

reading_written : (bs : List ℕ) → 22 ≤ length bs → AllBelowBase 256 (take 22 bs) → reading_bytes (reading_from bs) ≡ take 22 bs
reading_written bs long small =
    byte_then 0 21 bs (omega arith) refl
    (byte_then 1 20 bs (omega arith) refl
    (part_then 2 4 16 bs (bytes_at 22 2 4 bs (omega arith) long small)
    (part_then 6 8 8 bs (bytes_at 22 6 8 bs (omega arith) long small) (bytes_at 22 14 8 bs (omega arith) long small))))

pub length_readings : (rs : List ChainReading) → length (flat_map reading_bytes rs) ≡ 22 * length rs
length_readings = length_joined reading_bytes 22 (λ _. refl)

pub readings_back : (rs : List ChainReading) (rest : List ℕ) → AllByRecursion Held rs → records_from reading_from 22 (length rs) (flat_map reading_bytes rs ++ rest) ≡ rs
readings_back = records_back reading_bytes reading_from 22 Held (λ _. refl) reading_back

pub readings_written : (n : ℕ) (bs : List ℕ) → 22 * n ≤ length bs → AllBelowBase 256 (take (22 * n) bs) → flat_map reading_bytes (records_from reading_from 22 n bs) ≡ take (22 * n) bs
readings_written = records_written reading_bytes reading_from 22 reading_written

-- Writes.

write_back : (w : Write) (rest : List ℕ) → w.value < 2 ^ 32 → write_from (write_bytes w ++ rest) ≡ w
write_back w rest held = λ i. record { key = w.key; value = number_bytes 4 _ held i }

write_written : (bs : List ℕ) → 5 ≤ length bs → AllBelowBase 256 (take 5 bs) → write_bytes (write_from bs) ≡ take 5 bs
write_written bs long small = byte_then 0 4 bs (omega arith) refl (bytes_at 5 1 4 bs (omega arith) long small)

pub length_writes : (ws : List Write) → length (flat_map write_bytes ws) ≡ 5 * length ws
length_writes = length_joined write_bytes 5 (λ _. refl)

pub writes_back : (ws : List Write) (rest : List ℕ) → AllByRecursion (λ w. w.value < 2 ^ 32) ws → records_from write_from 5 (length ws) (flat_map write_bytes ws ++ rest) ≡ ws
writes_back = records_back write_bytes write_from 5 (λ w. w.value < 2 ^ 32) (λ _. refl) write_back

pub writes_written : (n : ℕ) (bs : List ℕ) → 5 * n ≤ length bs → AllBelowBase 256 (take (5 * n) bs) → flat_map write_bytes (records_from write_from 5 n bs) ≡ take (5 * n) bs
writes_written = records_written write_bytes write_from 5 write_written
