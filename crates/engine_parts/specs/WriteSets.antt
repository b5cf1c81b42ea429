-- What a leg's write set means in the model, and that it takes eight writes at most.
use Rattle.std.specs.Prelude.{if◌then◌else◌, List, length, Ok, Err, Result, nat_le}
use Rattle.snapshot.specs.Limits.{write_keys}
use Rattle.snapshot.specs.declared.account.Write.{Write}
use Rattle.snapshot.specs.declared.fault.Refusal.{Refusal}
use Rattle.snapshot.specs.declared.fault.Refusal.TheVariants.{WriteSetFull}
use Rattle.engine_parts.specs.Lists.{elements_of}
use Rattle.engine_parts.specs.declared.write_set.WriteSet.{WriteSet}

-- the writes, from the first to the last
abbrev pub writes_of : WriteSet → List Write
writes_of s = elements_of s.writes

-- more than eight writes are refused
abbrev pub fit_or_refused : List Write → Result (List Write) Refusal
fit_or_refused ws = if nat_le (length ws) write_keys then Ok ws else Err WriteSetFull
