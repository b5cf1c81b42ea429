-- At the end every part of the line has been looked at.
use Rattle.std.proofs.Common.{rules, ap, ◌∙◌, take, filter, length, nat_lt, List, ℕ}
use Rattle.std.proofs.lemmas.Iterator.Consumers.{YieldsList-end}
use Rattle.std.proofs.lemmas.Iterator.Splits.{YieldsList-from_slice_split}
use Rattle.script.specs.Words.{is_space}
use Rattle.script.proofs.words.words_in.Goals as goal

pub returns : goal.returns
returns c =
    let all = YieldsList-end (YieldsList-from_slice_split _ is_space c.args.line.now (cc) (cc) (cc) (λ x b q k. search rules)) c.loop-word.yielded _ c.loop-word.yielded_by _ _ c.in-None.is c.next.ensures.steps in
    c.loop-word.invariant ∙ ap (λ (parts : List (List ℕ)). take 7 (filter (λ word. nat_lt 0 (length word)) parts)) all.0
