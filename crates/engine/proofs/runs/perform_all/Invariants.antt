-- What was answered and what is left of the calls give the answers to all of them, and there is room for the rest.
use Rattle.std.proofs.Common.{◌≡◌, ◌+◌, ◌≤◌, ◌++◌, length, drop, vec_items, vec_len, vec_capacity}
use Rattle.engine.specs.Engines.{engine_over}
use Rattle.engine.specs.Performing.{engine_after_calls, answers_to}
use Rattle.engine.proofs.runs.perform_all.Given as goal

abbrev pub invariant-loop-call : goal.invariant-loop-call
invariant-loop-call g l =
    let depth = g.S.Store.DEPTH in
    let m = g.S.Reads.meaning in
    let before = engine_over (m l.initial.store) l.initial.state in
    let here = engine_over (m l.store) l.state in
    let rest = drop l.call-index l.calls in
    (vec_items l.answers ++ answers_to depth rest here ≡ vec_items l.initial.answers ++ answers_to depth l.calls before)
    × (engine_after_calls depth rest here ≡ engine_after_calls depth l.calls before)
    × (g.S.Store.loan l.store ≡ g.S.Store.loan l.initial.store)
    × (vec_len l.answers + length l.calls ≤ vec_capacity l.answers + l.call-index)
