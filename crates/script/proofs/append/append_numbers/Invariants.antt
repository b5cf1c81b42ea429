-- The numbers so far, which are the last, stand at the buffer's end.
use Rattle.std.proofs.Common.{◌≡◌, ◌+◌, ◌-◌, ◌*◌, ◌≤◌, length, drop}
use Rattle.script.specs.Shown.{numbers_text}
use Rattle.script.proofs.append.append_numbers.Given as goal

abbrev pub invariant-loop-left : goal.invariant-loop-left
invariant-loop-left l =
    (l.left ≤ length l.numbers) × (105 ≤ l.start + 21 * (length l.numbers - l.left)) × (l.start ≤ 105)
    × (drop l.start l.buffer ≡ numbers_text (drop l.left l.numbers))

abbrev pub decreases-loop-left : goal.decreases-loop-left
decreases-loop-left l = l.left
