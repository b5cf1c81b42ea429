-- What the writer wrote reads back at any place of a book, and its last byte stands behind the records.
use Rattle.std.proofs.Common.{◌≡◌, ℕ, ◌-◌, ◌≤◌, true, List, [], ◌∷◌, ◌++◌, length, take, set, sym, refl, ap, ◌∙◌, arith}
use Rattle.std.proofs.lemmas.List.{append_assoc, drop_at, length-append, take_at}
use Rattle.std.proofs.lemmas.Bool.{le-leb}
use Rattle.std.specs.List.{flat_map}
use Rattle.snapshot.specs.Accounts.{Account, lawful}
use Rattle.snapshot.specs.Overwriting.{overwritten}
use Rattle.book.specs.Bytes.{exclusive_or}
use Rattle.book.specs.Calls.{front_for}
use Rattle.book.specs.Format.{reading_bytes, write_bytes, head_bytes, body_bytes, account_bytes, front_account}
use Rattle.book.specs.Theorems.{ValuesFit, ReadsBackAnywhere}
use Rattle.snapshot.proofs.Overwritten.{one_more}
use Rattle.book.proofs.RoundTrip.{written_reads_back}

module _ (a : Account) (law : lawful a ≡ true) where
  pub reads_back_anywhere : ValuesFit a → ReadsBackAnywhere a
  reads_back_anywhere fits before rest n m rs ws =
      ap (λ bs. front_for n m (front_account bs)) (drop_at before (account_bytes a ++ rest) (length before) refl)
      ∙ ap (front_for n m) (written_reads_back a fits law rest)
      ∙ rw (le-leb (length a.readings) n rs, le-leb (length a.writes) m ws)

-- behind the records stands the exclusive-or of all that was written
pub last_written : (a : Account) (old : List ℕ) → length (account_bytes a) ≤ length old → {mid : List ℕ} (last sum : ℕ) → mid ≡ overwritten ((head_bytes a ++ flat_map reading_bytes a.readings) ++ flat_map write_bytes a.writes) old → last ≡ length (account_bytes a) - 1 → sum ≡ exclusive_or (take last mid) → set mid last sum ≡ overwritten (account_bytes a) old
unfolding account_bytes
last_written a old room {mid} last sum is ends s =
    let body = body_bytes a in
    let whole : mid ≡ overwritten body old =
    is ∙ ap (λ bs. overwritten bs old) (append_assoc (head_bytes a) (flat_map reading_bytes a.readings) (flat_map write_bytes a.writes)) in
    let size = length-append body (exclusive_or body ∷ []) in
    let there : last ≡ length body = omega (arith, ends, size) in
    let front : take last mid ≡ body = ap (take last) whole ∙ take_at body _ last (sym there) in
    one_more old body last there whole sum (omega (arith, there, size, room))
    ∙ ap (λ x. overwritten (body ++ (x ∷ [])) old) (s ∙ ap exclusive_or front)
