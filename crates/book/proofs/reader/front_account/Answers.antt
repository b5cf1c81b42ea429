-- The account that the bytes tell is at their front where their frame is right and it is lawful.
use Rattle.std.proofs.Common.{◌≡◌, true, false, Ok, Err, sym, ap, ◌∙◌}
use Rattle.std.proofs.lemmas.Result.{err_from_is_err_and}
use Rattle.snapshot.specs.Accounts.{lawful}
use Rattle.snapshot.specs.declared.fault.Refusal.TheVariants.{Unlawful}
use Rattle.book.specs.Format.{account_from, accept_if, as_account}
use Rattle.book.proofs.Reading.{frame_refuses, frame_passes}
use Rattle.book.proofs.reader.front_account.Goals as goal

pub returns-in_err-counts : goal.returns-in_err-counts
returns-in_err-counts c =
    let p = err_from_is_err_and c.from_residual.result c.from_residual.ensures.1 in
    p.1 ∙ ap Err p.2 ∙ sym (frame_refuses c.args.bytes.now c.in_err-counts.field-0.0 (sym c.in_err-counts.ensures.value))

pub returns-in_default : goal.returns-in_default
returns-in_default c =
    let front = frame_passes c.args.bytes.now c.in_ok-counts.counts (sym c.in_ok-counts.ensures.value) in
    let unlawful : false ≡ lawful (account_from c.args.bytes.now) = c.in_default.ensures.when ∙ ap lawful c.decode.ensures in
    sym (front ∙ ap (λ b. accept_if b Unlawful (Ok (account_from c.args.bytes.now))) (sym unlawful))

pub returns : goal.returns
returns c =
    let front = frame_passes c.args.bytes.now c.in_ok-counts.counts (sym c.in_ok-counts.ensures.value) in
    let lawfully : true ≡ lawful (account_from c.args.bytes.now) = c.in-Some.ensures.when ∙ ap lawful c.decode.ensures in
    ap (λ a. Ok (as_account a)) c.in-Some.ensures.value
    ∙ ap Ok c.decode.ensures
    ∙ sym (front ∙ ap (λ b. accept_if b Unlawful (Ok (account_from c.args.bytes.now))) (sym lawfully))
