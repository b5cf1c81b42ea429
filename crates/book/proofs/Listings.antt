-- A book read so far, and one account more.
use Rattle.std.proofs.Common.{◌≡◌, ℕ, ◌+◌, ◌*◌, ◌/◌, ◌<◌, ◌≤◌, true, List, [], ◌∷◌, ◌++◌, map, length, get_or, take, drop, sym, refl, ap, ◌∙◌, subst, arith}
use Rattle.std.proofs.ByRecursion.{All-push}
use Rattle.std.proofs.lemmas.List.{append_assoc, flat_map_more, length-append, length-drop, length-map, map_push}
use Rattle.std.specs.List.{flat_map, AllByRecursion}
use Rattle.snapshot.specs.Accounts.{Account, head_of, lawful}
use Rattle.snapshot.specs.declared.account.AccountHead.{AccountHead}
use Rattle.book.specs.Books.{ReadBehind, IsAccountAt, head_line}
use Rattle.book.specs.Format.{account_bytes, size_of}
use Rattle.book.specs.declared.reader.AccountAt.{AccountAt}
use Rattle.book.proofs.Packing.{joined_next}
use Rattle.book.proofs.RoundTrip.{takes_its_size}

-- the bytes before this place are those of lawful accounts with these heads
pub record SoFar (book : List ℕ) (heads : List AccountHead) (start : ℕ) : Type 0 where
  pub accounts : List Account
  pub lawfully : AllByRecursion (λ a. lawful a ≡ true) accounts
  pub listed : heads ≡ map head_of accounts
  pub read : book ≡ flat_map account_bytes accounts ++ drop start book
  pub place : start ≡ length (flat_map account_bytes accounts)

-- an account takes some bytes
pub goes_on : {book : List ℕ} {start : ℕ} {at : AccountAt} → IsAccountAt book start at → start < at.end
goes_on s = omega (arith, s.takes, takes_its_size s.account)

many_bytes : (done : List Account) → size_of 0 0 * length done ≤ length (flat_map account_bytes done)
many_bytes [] = omega arith
many_bytes (a ∷ done) = simp length-append (omega (arith, takes_its_size a, many_bytes done))

module _ {book : List ℕ} {heads : List AccountHead} {start : ℕ} (s : SoFar book heads start) where
  -- each account takes at least the bytes of an empty one
  pub so_far_few : size_of 0 0 * length heads ≤ start
  so_far_few = omega (arith, many_bytes s.accounts, s.place, ap length s.listed, length-map s.accounts head_of)

  pub so_far_more : {at : AccountAt} {more : List AccountHead} → IsAccountAt book start at → more ≡ heads ++ (at.head ∷ []) → SoFar book more at.end
  so_far_more {at} {more} next pushed =
      let done = s.accounts in
      let a = next.account in
      let bytes : flat_map account_bytes done ++ account_bytes a ≡ flat_map account_bytes (done ++ (a ∷ [])) = flat_map_more account_bytes [] done a in
      record {
        accounts = done ++ (a ∷ []);
        lawfully = All-push (λ x. lawful x ≡ true) done a s.lawfully next.lawfully;
        listed = pushed ∙ ap (λ hs. hs ++ (at.head ∷ [])) s.listed ∙ ap (λ h. map head_of done ++ (h ∷ [])) next.head ∙ sym (map_push head_of done a);
        read = s.read
            ∙ ap (λ bs. flat_map account_bytes done ++ bs) next.bytes
            ∙ sym (append_assoc (flat_map account_bytes done) (account_bytes a) (drop at.end book))
            ∙ ap (λ bs. bs ++ drop at.end book) bytes;
        place = omega (arith, next.takes, s.place, length-append (flat_map account_bytes done) (account_bytes a), ap length bytes);
      }

-- the list after some turns is the list before the loop with what was read behind
pub record Behind (before after : List AccountHead) (book : List ℕ) (start : ℕ) : Type 0 where
  pub heads : List AccountHead
  pub behind : after ≡ before ++ heads
  pub read : SoFar book heads start

module _ {before after : List AccountHead} {book : List ℕ} {start : ℕ} (b : Behind before after book start) where
  pub behind_more : {at : AccountAt} {more : List AccountHead} → IsAccountAt book start at → more ≡ after ++ (at.head ∷ []) → Behind before more book at.end
  behind_more {at} next pushed =
      record {
        heads = b.heads ++ (at.head ∷ []);
        behind = pushed ∙ ap (λ hs. hs ++ (at.head ∷ [])) b.behind ∙ append_assoc before b.heads (at.head ∷ []);
        read = so_far_more b.read next refl;
      }

  -- a list with room for as many accounts as the book can have has room for the one that stands here
  pub has_room : {at : AccountAt} (room : ℕ) → IsAccountAt book start at → length before + length book / size_of 0 0 ≤ room → length after < room
  has_room {at} room next enough =
      let a = next.account in
      let fits = ap length next.bytes ∙ length-append (account_bytes a) (drop at.end book) in
      let more = ap length b.behind ∙ length-append before b.heads in
      omega (arith, so_far_few b.read, takes_its_size a, fits, length-drop start book, more)

  -- where the account that stands here was not added, the list has those that were read so far
  pub read_behind : {at : AccountAt} {more : List AccountHead} → IsAccountAt book start at → more ≡ after → ReadBehind before more book
  read_behind {at} next same =
      let r = b.read in
      record {
        accounts = r.accounts;
        lawfully = r.lawfully;
        behind = same ∙ b.behind ∙ ap (λ hs. before ++ hs) r.listed;
        front = r.read ∙ ap (λ n. flat_map account_bytes r.accounts ++ drop n book) r.place;
        next = at;
        stands = subst (λ n. IsAccountAt book n at) r.place next;
      }

-- The text.

-- one line more
pub text_more : (heads : List AccountHead) (i : ℕ) (d : AccountHead) {old text line new : List ℕ} → i < length heads → old ≡ flat_map head_line (take i heads) → text ≡ line → line ≡ head_line (get_or heads i d) → new ≡ old ++ text → new ≡ flat_map head_line (take (i + 1) heads)
text_more heads i d {old} lt sofar shown is pushed =
    pushed
    ∙ ap (λ bs. old ++ bs) (shown ∙ is)
    ∙ ap (λ bs. bs ++ head_line (get_or heads i d)) sofar
    ∙ sym (joined_next head_line heads i d lt)
