-- The reading of a whole book, account after account from its first byte, and the text of its listing.
use Rattle.std.specs.Prelude.{◌≡◌, ℕ, ◌+◌, ◌<◌, ◌≤◌, ◌⊎◌, true, List, ◌++◌, map, length, take, drop, Ok, Err, codes, decimal, Some, None, Option, Result, IfSome}
use Rattle.std.specs.Io.KnownBytes.{Appends, Keeps}
use Rattle.std.specs.List.{flat_map, AllByRecursion}
use Rattle.snapshot.specs.Accounts.{Account, head_of, lawful}
use Rattle.snapshot.specs.Refusals.{book_fault, refusal_number}
use Rattle.snapshot.specs.Shown.{head_text, line_break, spaced}
use Rattle.snapshot.specs.declared.account.AccountHead.{AccountHead}
use Rattle.snapshot.specs.declared.fault.BookFault.{BookFault}
use Rattle.book.specs.declared.output.Extent.{Extent}
use Rattle.book.specs.declared.output.Extent.TheVariants.{Whole, Front}
use Rattle.book.specs.declared.reader.AccountAt.{AccountAt}
use Rattle.book.specs.Format.{account_bytes, front_account}
use Rattle.book.specs.Outputs.{AppendsFront}

-- a lawful account stands at this place of the book, up to the answered end
pub record IsAccountAt (book : List ℕ) (start : ℕ) (at : AccountAt) : Type 0 where
  pub account : Account
  pub head : at.head ≡ head_of account
  pub lawfully : lawful account ≡ true
  pub bytes : drop start book ≡ account_bytes account ++ drop at.end book
  pub takes : at.end ≡ start + length (account_bytes account)

-- no account stands there, for the reason that the fault tells
pub record Refused (book : List ℕ) (start : ℕ) (f : BookFault) : Type 0 where
  pub fault : f ≡ book_fault f.fault.refusal start
  pub reason : front_account (drop start book) ≡ Err f.fault.refusal

abbrev pub AccountOrRefused : List ℕ → ℕ → Result AccountAt BookFault → Type 0
AccountOrRefused book start (Ok at) = IsAccountAt book start at
AccountOrRefused book start (Err f) = Refused book start f

-- where the reading of a book ends: at its end, or behind these bytes where more follow and the account there is refused with
-- this fault
abbrev pub Ends : List ℕ → List ℕ → Option BookFault → Type 0
Ends book read None = book ≡ read
Ends book read (Some f) =
    (book ≡ read ++ drop (length read) book) × (length read < length book) × Refused book (length read) f

-- The book begins with the bytes of lawful accounts, one after another; the listing has the five numbers of each, in
-- order, and the reading ended behind them.
pub record Listed (book : List ℕ) (heads : List AccountHead) (ending : Option BookFault) : Type 0 where
  pub accounts : List Account
  pub lawfully : AllByRecursion (λ a. lawful a ≡ true) accounts
  pub listed : heads ≡ map head_of accounts
  pub ends : Ends book (flat_map account_bytes accounts) ending

-- the list after the reading is the list before it with the listing behind
pub record ListedBehind (before after : List AccountHead) (book : List ℕ) (ending : Option BookFault) : Type 0 where
  pub heads : List AccountHead
  pub behind : after ≡ before ++ heads
  pub listed : Listed book heads ending

-- The list after an error is the list before it with the heads of lawful accounts behind, whose bytes, one after another,
-- are a front of the book; and one account more stands behind them.
pub record ReadBehind (before after : List AccountHead) (book : List ℕ) : Type 0 where
  pub accounts : List Account
  pub lawfully : AllByRecursion (λ a. lawful a ≡ true) accounts
  pub behind : after ≡ before ++ map head_of accounts
  pub front : book ≡ flat_map account_bytes accounts ++ drop (length (flat_map account_bytes accounts)) book
  pub next : AccountAt
  pub stands : IsAccountAt book (length (flat_map account_bytes accounts)) next

-- The text of a listing.

abbrev pub head_line : AccountHead → List ℕ
head_line h = head_text h ++ line_break

-- `end` and the number of accounts, or `bad`, the refusal's number and the place of the refused account
abbrev pub ending_line : ℕ → Option BookFault → List ℕ
ending_line count None = codes "end " ++ (decimal count ++ line_break)
ending_line count (Some f) = codes "bad " ++ spaced (refusal_number f.fault.refusal) (decimal f.start ++ line_break)

abbrev pub listing_text : List AccountHead → Option BookFault → List ℕ
listing_text heads ending = flat_map head_line heads ++ ending_line (length heads) ending

-- What an output gains.

-- only so many bytes of an input count
abbrev pub most_bytes : ℕ
most_bytes = 65536

-- so much of an input that has these bytes
abbrev pub Covers : List ℕ → Extent → Type 0
Covers rest Whole = length rest ≤ most_bytes
Covers rest Front = most_bytes < length rest

-- the bytes are those of the input that count, and so much of it, where its bytes are known
pub record IsFrontOf (input : Option (List ℕ)) (bytes : List ℕ) (extent : Extent) : Type 0 where
  pub front : IfSome input (λ rest. bytes ≡ take most_bytes rest)
  pub told : IfSome input (λ rest. Covers rest extent)

-- the text is that of a listing of this book
pub record ListsBook (book text : List ℕ) : Type 0 where
  pub heads : List AccountHead
  pub ending : Option BookFault
  pub listed : Listed book heads ending
  pub shown : text ≡ listing_text heads ending

-- the known bytes of an output have grown by the text of a listing of this book
pub record GainsListing (book : List ℕ) (before after : Option (List ℕ)) : Type 0 where
  pub text : List ℕ
  pub lists : ListsBook book text
  pub gains : Appends before after text

-- the known bytes of an output are as before, or have grown by a front of such a text, of which something is left
pub record GainsFront (book : List ℕ) (before after : Option (List ℕ)) : Type 0 where
  pub gains : Keeps before after ⊎ ((text : List ℕ) × ListsBook book text × AppendsFront (λ rest. 0 < length rest) before after text)
