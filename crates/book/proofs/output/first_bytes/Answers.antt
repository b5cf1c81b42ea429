use Rattle.std.proofs.Common.{rules}
use Rattle.book.proofs.Outputs.{known_whole, known_front}
use Rattle.book.proofs.output.first_bytes.Goals as goal

-- src/output.rt:66:9
pub returns-then-len-le-MOST_BYTES : goal.returns-then-len-le-MOST_BYTES
returns-then-len-le-MOST_BYTES g c = known_whole _ _ _ _ _ c.in_ok-read_to_end.ensures.bytes (search rules) (search rules) (search rules) (search rules)

-- src/output.rt:59:1
pub returns : goal.returns
returns g c = known_front _ _ _ _ _ _ c.in_ok-read_to_end.ensures.bytes (search rules) (search rules) (search rules) (search rules) (search rules)
