-- The words so far are the first of those in the parts so far.
use Rattle.std.proofs.Common.{◌≡◌, map, take, filter, length, nat_lt}
use Rattle.script.proofs.words.words_in.Given as goal

abbrev pub invariant-loop-word : goal.invariant-loop-word
invariant-loop-word l =
    map (λ word. word.now) l.words.items ≡ take 7 (filter (λ word. nat_lt 0 (length word)) (map (λ word. word.now) l.yielded))
