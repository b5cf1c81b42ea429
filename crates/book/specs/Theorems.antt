-- What writing and reading mean to each other: written accounts read back, and only written ones are accepted.
use Rattle.std.specs.Prelude.{◌≡◌, ℕ, ◌+◌, ◌^◌, ◌<◌, ◌≤◌, true, List, ◌++◌, length, drop, Ok, Err, Result}
use Rattle.std.specs.List.{AllByRecursion}
use Rattle.snapshot.specs.Accounts.{Account, account_of, lawful}
use Rattle.snapshot.specs.declared.account.ChainReading.{ChainReading}
use Rattle.snapshot.specs.declared.account.Write.{Write}
use Rattle.snapshot.specs.declared.fault.BookFault.{BookFault}
use Rattle.book.specs.declared.reader.AccountAt.{AccountAt}
use Rattle.book.specs.Calls.{read_at}
use Rattle.book.specs.Format.{account_bytes, size_of}

-- each value has at most 32 bits, as the types of the code say
pub record ValuesFit (a : Account) : Type 0 where
  pub readings : AllByRecursion (λ r. r.reading.value < 2 ^ 32) a.readings
  pub writes : AllByRecursion (λ w. w.value < 2 ^ 32) a.writes

-- the account's bytes read back as that account, at any place of any book, into any lists that have room
abbrev pub ReadsBackAnywhere : Account → Type 0
ReadsBackAnywhere a =
    (before rest : List ℕ) (n m : ℕ) → length a.readings ≤ n → length a.writes ≤ m
    → read_at (before ++ (account_bytes a ++ rest)) (length before) n m ≡ Ok a

-- the account is lawful, and the bytes are its bytes with others behind
pub record BeginsWithWritten (bs : List ℕ) (a : Account) : Type 0 where
  pub front : bs ≡ account_bytes a ++ drop (length (account_bytes a)) bs
  pub lawfully : lawful a ≡ true

-- what the reader accepts: the answered numbers and the filled lists tell a lawful account, its bytes stand at that place
-- of the book, and the answered place is the one after them, as far on as the two counts say
pub record Accepted (book : List ℕ) (start : ℕ) (at : AccountAt) (rs : List ChainReading) (ws : List Write) : Type 0 where
  pub lawfully : lawful (account_of at.head rs ws) ≡ true
  pub stands : drop start book ≡ account_bytes (account_of at.head rs ws) ++ drop at.end book
  pub takes : at.end ≡ start + length (account_bytes (account_of at.head rs ws))
  pub size : at.end ≡ start + size_of at.head.readings at.head.writes

abbrev pub AcceptedOnly : List ℕ → ℕ → Result AccountAt BookFault → List ChainReading → List Write → Type 0
AcceptedOnly book start (Ok at) rs ws = Accepted book start at rs ws
AcceptedOnly book start (Err f) rs ws = Unit {0}
