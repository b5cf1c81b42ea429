-- The account that is found is what is read, and it stands at that place.
use Rattle.std.proofs.Common.{◌≡◌, length, Ok, sym, ap, ◌∙◌, arith}
use Rattle.snapshot.specs.Overwriting.{overwritten}
use Rattle.book.specs.Calls.{faulted, located, read_at, filled_readings, filled_writes}
use Rattle.book.specs.Format.{as_account}
use Rattle.book.proofs.Reading.{found_is_read, written_accepted}
use Rattle.book.proofs.reader.read_account.Goals as goal

pub returns : goal.returns
returns c =
    let book = c.args.book.now in
    let start = c.args.start in
    let rs = c.args.readings.now in
    let ws = c.args.writes.now in
    let a = as_account c.account-found.result.account in
    let found = rw (← c.account-found.ensures) at c.in_ok-account_at.ensures.value in
    let written = rw (← c.account-found.ensures) at c.in_ok-account_at.ensures.written in
    let read : read_at book start (length rs) (length ws) ≡ Ok a = found_is_read start _ _ a _ found (omega arith) (omega arith) in
    record {
      value = (λ i. Ok (record { head = c.located.ensures.head i; end = c.located.ensures.end i }))
          ∙ sym (ap (λ r. faulted start (located start r)) read);
      readings = c.fill.ensures ∙ sym (ap (λ r. overwritten (filled_readings r) rs) read);
      writes = c.fill-2.ensures ∙ sym (ap (λ r. overwritten (filled_writes r) ws) read);
      written = rw (c.fill.ensures, c.fill-2.ensures)
          (written_accepted book start a written c.located.result c.located.ensures.head c.located.ensures.end rs ws);
    }
