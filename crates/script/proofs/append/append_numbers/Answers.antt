-- One number more is written before the others, and a space before it.
use Rattle.std.proofs.Common.{arith, ℕ, ◌≡◌, ◌+◌, ◌-◌, ◌≤◌, ◌++◌, ◌∙◌, ap, length, get_or, drop, decimal}
use Rattle.std.proofs.lemmas.Fmt.{length-decimal-le}
use Rattle.script.specs.Shown.{numbers_text}
use Rattle.script.proofs.ShownProofs.{one_more_written}
use Rattle.script.proofs.append.append_numbers.Goals as goal

pub write_digits-start-requires : goal.write_digits-start-requires
write_digits-start-requires c =
    let number : ℕ = get_or c.args.numbers.now (c.loop-left.left - 1) 0 in
    let short : length (decimal number) ≤ 20 = length-decimal-le 20 number (omega arith) (let f = (c.type_inv.numbers (c.loop-left.left - 1)).fits in omega (arith, f)) (c.type_inv.numbers (c.loop-left.left - 1)).fits in
    (omega (arith, short), omega arith)

pub overflow_sub-start : goal.overflow_sub-start
overflow_sub-start c =
    let number : ℕ = get_or c.args.numbers.now (c.loop-left.left - 1) 0 in
    let short : length (decimal number) ≤ 20 = length-decimal-le 20 number (omega arith) (let f = (c.type_inv.numbers (c.loop-left.left - 1)).fits in omega (arith, f)) (c.type_inv.numbers (c.loop-left.left - 1)).fits in
    omega (arith, short)

pub loop-left-preserved : goal.loop-left-preserved
loop-left-preserved c =
    let number : ℕ = get_or c.args.numbers.now (c.loop-left.left - 1) 0 in
    let short : length (decimal number) ≤ 20 = length-decimal-le 20 number (omega arith) (let f = (c.type_inv.numbers (c.loop-left.left - 1)).fits in omega (arith, f)) (c.type_inv.numbers (c.loop-left.left - 1)).fits in
    let last : c.loop-left.left - 1 + 1 ≡ c.loop-left.left = omega arith in
    let so_far : drop c.write_digits-start.result c.write_digits-start.new.buf ≡ decimal number ++ numbers_text (drop (c.loop-left.left - 1 + 1) c.args.numbers.now) = rw last (c.write_digits-start.ensures.written ∙ ap (λ ds. decimal number ++ ds) c.loop-left.invariant.3) in
    (omega arith, omega (arith, short), omega arith, one_more_written c.args.numbers.now c.write_digits-start.new.buf (c.loop-left.left - 1) c.write_digits-start.result (omega arith) (omega (arith, short)) (omega arith) so_far)
