-- What the book's writer gives into a buffer for the longest account.
use Rattle.std.proofs.Common.{◌≡◌, ℕ, ◌≤◌, List, length, take, drop, Result, Ok, Err, true, false, nat_le, refl, sym, Bool, arith}
use Rattle.std.proofs.Math.Seq.{take-append_seam}
use Rattle.std.proofs.lemmas.Bool.{and_parts, leb-true, le-leb}
use Rattle.snapshot.specs.Accounts.{Account, few_enough, lawful}
use Rattle.snapshot.specs.Refusals.{book_fault}
use Rattle.snapshot.specs.declared.fault.BookFault.{BookFault}
use Rattle.snapshot.specs.declared.fault.Refusal.TheVariants.{Unlawful}
use Rattle.book.specs.Calls.{buffer_after, faulted, writing}
use Rattle.book.specs.Format.{account_bytes}
use Rattle.book.proofs.RoundTrip.{takes_its_size}

fits : (a : Account) → lawful a ≡ true → nat_le (length (account_bytes a)) 773 ≡ true
fits a law =
    let small : few_enough a.readings a.writes ≡ true =
    (and_parts _ _ (and_parts _ _ (and_parts _ _ (and_parts _ _ law).0).0).0).0 in
    let n : length a.readings ≤ 32 = leb-true _ _ (and_parts _ _ small).0 in
    let m : length a.writes ≤ 8 = leb-true _ _ (and_parts _ _ small).1 in
    le-leb _ _ (omega (arith, takes_its_size a))

ok_err : {X E : Type 0} (x : X) (e : E) → ◌≡◌ {A = Result X E} (Ok x) (Err e) → ⊥
ok_err x e h = cc

-- The writer's answer at a lawful account, and at any other.

written : (a : Account) (old : List ℕ) → length old ≡ 773 → lawful a ≡ true → (writing a (length old) ≡ Ok (length (account_bytes a))) × (take (length (account_bytes a)) (buffer_after a old) ≡ account_bytes a)
written a old all law =
    (rw (all, law, fits a law) refl, rw (all, law, fits a law) (take-append_seam (account_bytes a) (drop (length (account_bytes a)) old)))

refused : (a : Account) (n : ℕ) → lawful a ≡ false → writing a n ≡ Err Unlawful
refused a n law = rw law refl

accepted_by : (a : Account) (old : List ℕ) (size : ℕ) (b : Bool) → length old ≡ 773 → lawful a ≡ b → Ok size ≡ faulted 0 (writing a (length old)) → (lawful a ≡ true) × (take size (buffer_after a old) ≡ account_bytes a)
accepted_by a old size true all law e =
    let w = written a old all law in
    let same : size ≡ length (account_bytes a) = cc in
    (law, rw same w.1)
accepted_by a old size false all law e = absurd (ok_err size (book_fault Unlawful 0) (rw (refused a (length old) law) at e))

pub accepted : (a : Account) (old : List ℕ) (size : ℕ) → length old ≡ 773 → Ok size ≡ faulted 0 (writing a (length old)) → (lawful a ≡ true) × (take size (buffer_after a old) ≡ account_bytes a)
accepted a old size all e = accepted_by a old size (lawful a) all refl e

not_accepted_by : (a : Account) (old : List ℕ) (f : BookFault) (b : Bool) → length old ≡ 773 → lawful a ≡ b → Err f ≡ faulted 0 (writing a (length old)) → (lawful a ≡ false) × (f ≡ book_fault Unlawful 0)
not_accepted_by a old f true all law e = absurd (ok_err (length (account_bytes a)) f (sym (rw (written a old all law).0 at e)))
not_accepted_by a old f false all law e = (law, let h = rw (refused a (length old) law) at e in cc)

pub not_accepted : (a : Account) (old : List ℕ) (f : BookFault) → length old ≡ 773 → Err f ≡ faulted 0 (writing a (length old)) → (lawful a ≡ false) × (f ≡ book_fault Unlawful 0)
not_accepted a old f all e = not_accepted_by a old f (lawful a) all refl e
