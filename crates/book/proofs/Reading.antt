-- The parts of the account that is found at a place of a book, and what follows from it.
use Rattle.std.proofs.Common.{◌≡◌, ℕ, ◌+◌, ◌<◌, ◌≤◌, List, ◌++◌, length, get_or, drop, Ok, Err, Result, sym, refl, ap, ◌∙◌, arith}
use Rattle.std.proofs.ByRecursion.{All-drop, All-from_get_or, All-take}
use Rattle.std.proofs.lemmas.List.{drop-drop, take_at}
use Rattle.std.proofs.lemmas.Bool.Decides.{nat_tests}
use Rattle.snapshot.specs.Accounts.{Account, account_of, head_of}
use Rattle.snapshot.specs.declared.account.ChainReading.{ChainReading}
use Rattle.snapshot.specs.declared.account.Write.{Write}
use Rattle.snapshot.specs.declared.fault.Refusal.{Refusal}
use Rattle.snapshot.specs.Overwriting.{overwritten}
use Rattle.book.specs.Calls.{faulted, front_for}
use Rattle.book.specs.Format.{account_from, account_bytes, counts_in, framed, front_account, lawful_only, size_of}
use Rattle.book.specs.Theorems.{Accepted, BeginsWithWritten}
use Rattle.book.specs.declared.reader.AccountAt.{AccountAt}
use Rattle.book.specs.declared.reader.Counts.{Counts}
use Rattle.book.proofs.RoundTrip.{accepted_is_written, takes_its_size}

pub frame_refuses : (bs : List ℕ) (e : Refusal) → ◌≡◌ {A = Result Counts Refusal} (framed bs (Ok (counts_in bs))) (Err e) → front_account bs ≡ Err e
unfolding front_account
frame_refuses bs e h = grind (arith, nat_tests)

pub frame_passes : (bs : List ℕ) (k : Counts) → ◌≡◌ {A = Result Counts Refusal} (framed bs (Ok (counts_in bs))) (Ok k) → front_account bs ≡ lawful_only (account_from bs)
unfolding front_account
frame_passes bs k h = grind (arith, nat_tests)

-- an account that is found at a place of a book of bytes is written there
pub accepted_at : (book : List ℕ) → ((i : ℕ) → get_or book i 0 < 256) → (start : ℕ) (a : Account) → front_account (drop start book) ≡ Ok a → BeginsWithWritten (drop start book) a
accepted_at book small start a front =
    let bytes = All-from_get_or (λ b. b < 256) book 0 (λ i _. small i) in
    accepted_is_written (drop start book) (All-take (λ b. b < 256) _ _ (All-drop (λ b. b < 256) start book bytes)) a front

-- an account that is found is what is read where the lists have room for it
pub found_is_read : (start n m : ℕ) (a : Account) (front : Result Account Refusal) → Ok a ≡ faulted start front → length a.readings ≤ n → length a.writes ≤ m → front_for n m front ≡ Ok a
found_is_read start n m a (Ok b) e rs ws = let same : b ≡ a = cc in rw same (grind (arith, nat_tests))
found_is_read start n m a (Err x) e rs ws = absurd cc

-- what is answered and filled in tells the account that is written there
pub written_accepted : (book : List ℕ) (start : ℕ) (a : Account) → BeginsWithWritten (drop start book) a → (at : AccountAt) → at.head ≡ head_of a → at.end ≡ start + length (account_bytes a) → (rs : List ChainReading) (ws : List Write) → Accepted book start at (overwritten a.readings rs) (overwritten a.writes ws)
written_accepted book start a w at head end rs ws =
    let readings = overwritten a.readings rs in
    let writes = overwritten a.writes ws in
    let same : a ≡ account_of at.head readings writes =
    sym (ap (λ h. account_of h readings writes) head
    ∙ (λ i. record { low = a.low; high = a.high; timestamp = a.timestamp; readings = take_at a.readings (drop (length a.readings) rs) _ refl i; writes = take_at a.writes (drop (length a.writes) ws) _ refl i })) in
    let behind : drop (length (account_bytes a)) (drop start book) ≡ drop at.end book =
    drop-drop (length (account_bytes a)) start book ∙ ap (λ k. drop k book) (sym end) in
    record {
      lawfully = rw same at w.lawfully;
      stands = rw same at (w.front ∙ ap (λ bs. account_bytes a ++ bs) behind);
      takes = rw same at end;
      size = end ∙ ap (λ k. start + k) (takes_its_size a ∙ sym (ap (λ h. size_of h.readings h.writes) head));
    }
