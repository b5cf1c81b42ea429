-- A word of digits alone is text, and `parse` reads its number.
use Rattle.std.proofs.Common.{rules, ◌≡◌, ◌∙◌, true, sym}
use Rattle.std.specs.Char.{is_ascii_digit}
use Rattle.std.specs.List.{list_all}
use Rattle.script.proofs.NumberProofs.{digits_are_text, no_refusal, number_is, text_is}
use Rattle.script.proofs.number.number_in.Goals as goal

pub returns-in_err-text : goal.returns-in_err-text
returns-in_err-text c =
    let digits : list_all is_ascii_digit c.args.word.now ≡ true = search rules in
    absurd (no_refusal c.args.word.now _ c.from_utf8.result c.from_utf8.ensures.cases (digits_are_text _ digits) (sym c.ok.ensures.value ∙ c.in_err-text.was))

pub returns : goal.returns
returns c =
    let digits : list_all is_ascii_digit c.args.word.now ≡ true = search rules in
    let same = text_is c.args.word.now _ c.from_utf8.result c.in_ok-text.text c.from_utf8.ensures.cases (sym c.ok.ensures.value ∙ c.in_ok-text.was) in
    c.ok-2.ensures.value ∙ number_is c.args.word.now c.parse.result digits (rw same at c.parse.ensures.value.0)
