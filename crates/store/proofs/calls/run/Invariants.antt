-- What was answered and what is left of the calls give the answers to all of them, and there is room for the rest.
use Rattle.std.proofs.Common.{◌≡◌, ◌+◌, ◌≤◌, ◌++◌, length, drop, vec_items, vec_len, vec_capacity}
use Rattle.store.specs.Calls.{store_answers, after_store_calls}
use Rattle.store.proofs.calls.run.Given as goal

abbrev pub invariant-loop-call : goal.invariant-loop-call
invariant-loop-call g l =
    let depth = g.S.Store.DEPTH in
    let before = g.S.Reads.meaning l.initial.store in
    let here = g.S.Reads.meaning l.store in
    let rest = drop l.call-index l.calls in
    (vec_items l.answers ++ store_answers depth rest here ≡ vec_items l.initial.answers ++ store_answers depth l.calls before)
    × (after_store_calls depth rest here ≡ after_store_calls depth l.calls before)
    × (g.S.Store.loan l.store ≡ g.S.Store.loan l.initial.store)
    × (vec_len l.answers + length l.calls ≤ vec_capacity l.answers + l.call-index)
