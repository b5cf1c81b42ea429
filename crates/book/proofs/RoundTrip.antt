-- A lawful account's bytes read back as that account, and bytes from which an account is read are that account's.
use Rattle.std.proofs.Common.{◌≡◌, ℕ, ◌+◌, ◌-◌, ◌*◌, ◌^◌, ◌<◌, ◌≤◌, min, true, List, [], ◌∷◌, ◌++◌, length, get_or, take, drop, Ok, fold, Result, sym, refl, ap, ◌∙◌, subst, append_assoc, arith, length-append, length-drop}
use Rattle.std.proofs.lemmas.List.{get_or_at, take_at, take_more, drop_at, drop-drop}
use Rattle.std.proofs.lemmas.Bool.{and_parts}
use Rattle.std.proofs.lemmas.Bool.Decides.{nat_tests}
use Rattle.std.specs.List.{flat_map, AllByRecursion, list_all}
use Rattle.std.specs.Int.Digits.{AllBelowBase}
use Rattle.snapshot.specs.Accounts.{Account, lawful, sound_reading, sound_timestamp}
use Rattle.snapshot.specs.Limits.{open_end, chain_readings, write_keys}
use Rattle.snapshot.specs.declared.account.ChainReading.{ChainReading}
use Rattle.snapshot.specs.declared.account.Write.{Write}
use Rattle.snapshot.specs.declared.fault.Refusal.{Refusal}
use Rattle.book.specs.Bytes.{highest_first, number_at, exclusive_or, records_from}
use Rattle.book.specs.Format.{reading_bytes, write_bytes, head_bytes, body_bytes, account_bytes, size_of, size_in, readings_in, writes_in, reading_from, write_from, account_from, front_account}
use Rattle.book.specs.Theorems.{ValuesFit, BeginsWithWritten}
use Rattle.book.proofs.Parts.{small_part, byte_then, part_then, front_then}
use Rattle.book.proofs.Numbers.{number_bytes, bytes_at}
use Rattle.book.proofs.Records.{Held, length_records, length_readings, length_writes, readings_back, writes_back, readings_written, writes_written}

-- Size.

pub length_body : (a : Account) → length (body_bytes a) ≡ 28 + (22 * length a.readings + 5 * length a.writes)
length_body a = omega (arith, length-append (flat_map reading_bytes a.readings) (flat_map write_bytes a.writes), length_readings a.readings, length_writes a.writes)

pub takes_its_size : (a : Account) → length (account_bytes a) ≡ size_of (length a.readings) (length a.writes)
unfolding account_bytes
takes_its_size a = length-append (body_bytes a) (exclusive_or (body_bytes a) ∷ []) ∙ omega (arith, length_body a)

-- The checks.

-- what the reader checks
record Checks (bs : List ℕ) : Type 0 where
  mark : (get_or bs 0 0 ≡ 0xC3) × (get_or bs 1 0 ≡ 0x3C)
  counts : (readings_in bs ≤ chain_readings) × (writes_in bs ≤ write_keys)
  whole : size_in bs ≤ length bs
  last : get_or bs (size_in bs - 1) 0 ≡ exclusive_or (take (size_in bs - 1) bs)
  law : lawful (account_from bs) ≡ true

passes : (bs : List ℕ) → Checks bs → front_account bs ≡ Ok (account_from bs)
unfolding front_account
passes bs c = grind (arith, nat_tests)

passed : (bs : List ℕ) (a : Account) → front_account bs ≡ Ok a → Checks bs
unfolding front_account
passed bs a h =
    record {
      mark = (grind (arith, nat_tests), grind (arith, nat_tests));
      counts = (grind (arith, nat_tests), grind (arith, nat_tests));
      whole = grind (arith, nat_tests);
      last = grind (arith, nat_tests);
      law = grind (arith, nat_tests);
    }

same_ok : (a b : Account) → ◌≡◌ {A = Result Account Refusal} (Ok a) (Ok b) → a ≡ b
same_ok a b e = cc

-- Written, then read.

least_le : (p : ℕ) (rs : List ChainReading) → fold (λ a r. min a r.reading.promise) p rs ≤ p
least_le p [] = omega arith
least_le p (r ∷ rs) = omega (arith, least_le (min p r.reading.promise) rs)

held : (rs : List ChainReading) → list_all sound_reading rs ≡ true → AllByRecursion (λ r. r.reading.value < 2 ^ 32) rs → AllByRecursion Held rs
held [] sound fit = tt
held (r ∷ rs) sound fit = ((fit.0, grind (arith, nat_tests), grind (arith, nat_tests)), held rs (and_parts _ _ sound).1 fit.1)

timestamp_small : (t : ℕ) (rs : List ChainReading) (ws : List Write) → sound_timestamp t rs ws ≡ true → t < 2 ^ 64
timestamp_small t rs [] sound = grind (arith, nat_tests)
timestamp_small t rs (w ∷ ws) sound = grind (arith, nat_tests)

-- what a lawful account's bytes have to hold
pub record Bounds (a : Account) : Type 0 where
  pub counts : (length a.readings ≤ chain_readings) × (length a.writes ≤ write_keys)
  low : a.low < 2 ^ 64
  high : a.high < 2 ^ 64
  timestamp : a.timestamp < 2 ^ 64
  sound : list_all sound_reading a.readings ≡ true

pub bounds : (a : Account) → lawful a ≡ true → Bounds a
bounds a law =
    let high : a.high ≤ open_end = grind (arith, nat_tests, least_le open_end a.readings) in
    record {
      counts = (grind (arith, nat_tests), grind (arith, nat_tests));
      low = grind (arith, nat_tests);
      high = omega arith;
      timestamp = timestamp_small a.timestamp a.readings a.writes (grind (arith, nat_tests));
      sound = grind (arith, nat_tests);
    }

account_back : (a : Account) (tail : List ℕ) → ValuesFit a → Bounds a → account_from (body_bytes a ++ tail) ≡ a
account_back a tail fits b =
    let n = 22 * length a.readings in
    let rs = flat_map reading_bytes a.readings in
    let ws = flat_map write_bytes a.writes in
    let behind : drop 28 (body_bytes a ++ tail) ≡ rs ++ (ws ++ tail) = append_assoc rs ws tail in
    let last : drop (28 + n) (body_bytes a ++ tail) ≡ ws ++ tail = sym (drop-drop n 28 (body_bytes a ++ tail)) ∙ ap (drop n) behind ∙ drop_at rs (ws ++ tail) n (length_readings a.readings) in
    λ i.
    record {
      low = number_bytes 8 a.low b.low i;
      high = number_bytes 8 a.high b.high i;
      timestamp = number_bytes 8 a.timestamp b.timestamp i;
      readings = (ap (records_from reading_from 22 (length a.readings)) behind ∙ readings_back a.readings (ws ++ tail) (held a.readings b.sound fits.readings)) i;
      writes = (ap (records_from write_from 5 (length a.writes)) last ∙ writes_back a.writes tail fits.writes) i;
    }

account_front : (a : Account) (rest : List ℕ) → ValuesFit a → lawful a ≡ true → front_account (body_bytes a ++ (exclusive_or (body_bytes a) ∷ rest)) ≡ Ok a
account_front a rest fits law =
    let b = bounds a law in
    let body = body_bytes a in
    let tail = exclusive_or body ∷ rest in
    let size = size_of (length a.readings) (length a.writes) in
    let long : length body ≡ size - 1 = omega (arith, length_body a) in
    let back : account_from (body ++ tail) ≡ a = account_back a tail fits b in
    let checks : Checks (body ++ tail) =
    record {
      mark = (refl, refl);
      counts = b.counts;
      whole = omega (arith, length-append body tail);
      last = get_or_at body (exclusive_or body) rest 0 (size - 1) long ∙ sym (ap exclusive_or (take_at body tail (size - 1) long));
      law = subst (λ x. lawful x ≡ true) (sym back) law;
    } in
    passes (body ++ tail) checks ∙ ap Ok back

pub written_reads_back : (a : Account) → ValuesFit a → lawful a ≡ true → (rest : List ℕ) → front_account (account_bytes a ++ rest) ≡ Ok a
unfolding account_bytes
written_reads_back a fits law rest =
    ap front_account (append_assoc (body_bytes a) (exclusive_or (body_bytes a) ∷ []) rest) ∙ account_front a rest fits law

-- Read, then written.

module _ (bs : List ℕ) (c : Checks bs) (small : AllBelowBase 256 (take (size_in bs) bs)) where
  number_written : (at : ℕ) → at + 8 ≤ 29 → highest_first 8 (number_at at 8 bs) ≡ take 8 (drop at bs)
  number_written at within = bytes_at (size_in bs) at 8 bs (omega arith) c.whole small

  head_written : head_bytes (account_from bs) ≡ take 28 bs
  head_written =
      byte_then 0 27 bs (omega arith) (sym c.mark.0)
      (byte_then 1 26 bs (omega arith) (sym c.mark.1)
      (byte_then 2 25 bs (omega arith) (length_records reading_from 22 _ _)
      (byte_then 3 24 bs (omega arith) (length_records write_from 5 _ _)
      (part_then 4 8 16 bs (number_written 4 (omega arith))
      (part_then 12 8 8 bs (number_written 12 (omega arith)) (number_written 20 (omega arith)))))))

  readings_part : flat_map reading_bytes (account_from bs).readings ≡ take (22 * readings_in bs) (drop 28 bs)
  readings_part =
      readings_written (readings_in bs) (drop 28 bs) (simp length-drop (omega arith))
      (small_part (size_in bs) 28 (22 * readings_in bs) bs (omega arith) small)

  writes_part : flat_map write_bytes (account_from bs).writes ≡ take (5 * writes_in bs) (drop (28 + 22 * readings_in bs) bs)
  writes_part =
      writes_written (writes_in bs) (drop (28 + 22 * readings_in bs) bs) (simp length-drop (omega arith))
      (small_part (size_in bs) (28 + 22 * readings_in bs) (5 * writes_in bs) bs (omega arith) small)

  body_written : body_bytes (account_from bs) ≡ take (size_in bs - 1) bs
  body_written =
      let n = 22 * readings_in bs in
      let m = 5 * writes_in bs in
      let k : size_in bs - 1 ≡ 28 + (n + m) = omega arith in
      rw k (part_then 0 28 (n + m) bs head_written (part_then 28 n m bs readings_part writes_part))

  account_written : account_bytes (account_from bs) ≡ take (size_in bs) bs
  unfolding account_bytes
  account_written =
      let k = size_in bs - 1 in
      let size : k + 1 ≡ size_in bs = omega arith in
      ap (λ l. l ++ (exclusive_or l ∷ [])) body_written
      ∙ ap (λ x. take k bs ++ (x ∷ [])) (sym c.last)
      ∙ sym (take_more bs k 0 (omega arith))
      ∙ ap (λ n. take n bs) size

-- an account that is read from bytes is written there
pub accepted_is_written : (bs : List ℕ) → AllBelowBase 256 (take (size_in bs) bs) → (a : Account) → front_account bs ≡ Ok a → BeginsWithWritten bs a
accepted_is_written bs small a read =
    let c = passed bs a read in
    let same : account_from bs ≡ a = same_ok (account_from bs) a (sym (passes bs c) ∙ read) in
    subst (BeginsWithWritten bs) same (record { front = front_then (size_in bs) bs _ c.whole (account_written bs c small); lawfully = c.law })
