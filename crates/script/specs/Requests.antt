-- The calls, each from the words behind its own, or why there is none.
use Rattle.std.specs.Prelude.{ℕ, ◌+◌, if◌then◌else◌, false, true, List, [], ◌∷◌, Option, Some, None, Result, Ok, Err, length, nat_le}
use Rattle.snapshot.specs.Limits.{chain_readings, write_keys}
use Rattle.engine_model.specs.declared.calls.Call.{Call}
use Rattle.engine_model.specs.declared.calls.Call.TheVariants.{Begin, Hand, Fork, Join, Read, Write, Commit, Abandon, Deliver, Discard, Count, Prune}
use Rattle.script.specs.declared.bad_line.BadLine.{BadLine}
use Rattle.script.specs.declared.bad_line.BadLine.TheVariants.{WordCount, NotANumber, OutOfRange}
use Rattle.script.specs.declared.bad_line.Wanted.{Wanted}
use Rattle.script.specs.declared.bad_line.Wanted.TheVariants.{Exactly, Either}
use Rattle.script.specs.declared.line.Request.{Request}
use Rattle.script.specs.declared.request.Operand.{Operand}
use Rattle.script.specs.Numbers.{parsed_number}

-- what follows from a value; what is wrong with it is wrong with the whole
abbrev pub and_then : {A B : Type 0} → Result A BadLine → (A → Result B BadLine) → Result B BadLine
and_then (Err bad) next = Err bad
and_then (Ok x) next = next x

-- too few words, or too many: the first one counts too
abbrev pub miscounted : List (List ℕ) → Wanted → BadLine
miscounted operands wanted = WordCount (length operands + 1) wanted

-- the number that the word at this place is
abbrev pub operand_with : ℕ → Option ℕ → Result Operand BadLine
operand_with place None = Err (NotANumber place)
operand_with place (Some n) = Ok (record { place = place; number = n })

abbrev pub operand : ℕ → List ℕ → Result Operand BadLine
operand place word = operand_with place (parsed_number word)

-- the number, which may be so much and no more
abbrev pub above : ℕ → Operand → BadLine
above most n = OutOfRange n.place most

abbrev pub up_to : ℕ → Operand → Result ℕ BadLine
up_to most n = if nat_le n.number most then Ok n.number else Err (above most n)

-- a place, a leg, a worker or a key
abbrev pub byte : Operand → Result ℕ BadLine
byte n = up_to 255 n

abbrev pub value : Operand → Result ℕ BadLine
value n = up_to 4294967295 n

-- Each call from its words: first they are counted, then each has to be a number, and then each number has to be in its range.

abbrev pub begin_of : List (List ℕ) → Result Call BadLine
begin_of (p ∷ w ∷ []) =
    and_then (operand 2 p) (λ p.
    and_then (operand 3 w) (λ w.
    and_then (byte p) (λ p.
    and_then (byte w) (λ w.
    Ok (Begin p w)))))
begin_of operands = Err (miscounted operands (Exactly 3))

abbrev pub hand_of : List (List ℕ) → Result Call BadLine
hand_of (p ∷ l ∷ w ∷ []) =
    and_then (operand 2 p) (λ p.
    and_then (operand 3 l) (λ l.
    and_then (operand 4 w) (λ w.
    and_then (byte p) (λ p.
    and_then (byte l) (λ l.
    and_then (byte w) (λ w.
    Ok (Hand p l w)))))))
hand_of operands = Err (miscounted operands (Exactly 4))

abbrev pub fork_of : List (List ℕ) → Result Call BadLine
fork_of (p ∷ l ∷ w ∷ v ∷ []) =
    and_then (operand 2 p) (λ p.
    and_then (operand 3 l) (λ l.
    and_then (operand 4 w) (λ w.
    and_then (operand 5 v) (λ v.
    and_then (byte p) (λ p.
    and_then (byte l) (λ l.
    and_then (byte w) (λ w.
    and_then (byte v) (λ v.
    Ok (Fork p l w v)))))))))
fork_of operands = Err (miscounted operands (Exactly 5))

abbrev pub join_of : List (List ℕ) → Result Call BadLine
join_of (p ∷ l ∷ m ∷ w ∷ []) =
    and_then (operand 2 p) (λ p.
    and_then (operand 3 l) (λ l.
    and_then (operand 4 m) (λ m.
    and_then (operand 5 w) (λ w.
    and_then (byte p) (λ p.
    and_then (byte l) (λ l.
    and_then (byte m) (λ m.
    and_then (byte w) (λ w.
    Ok (Join p l m w)))))))))
join_of operands = Err (miscounted operands (Exactly 5))

abbrev pub write_of : List (List ℕ) → Result Call BadLine
write_of (p ∷ l ∷ k ∷ x ∷ []) =
    and_then (operand 2 p) (λ p.
    and_then (operand 3 l) (λ l.
    and_then (operand 4 k) (λ k.
    and_then (operand 5 x) (λ x.
    and_then (byte p) (λ p.
    and_then (byte l) (λ l.
    and_then (byte k) (λ k.
    and_then (value x) (λ x.
    Ok (Write p l k x)))))))))
write_of operands = Err (miscounted operands (Exactly 5))

abbrev pub read_of : List (List ℕ) → Result Call BadLine
read_of (p ∷ l ∷ k ∷ []) =
    and_then (operand 2 p) (λ p.
    and_then (operand 3 l) (λ l.
    and_then (operand 4 k) (λ k.
    and_then (byte p) (λ p.
    and_then (byte l) (λ l.
    and_then (byte k) (λ k.
    Ok (Read p l k)))))))
read_of operands = Err (miscounted operands (Exactly 4))

abbrev pub abandon_of : List (List ℕ) → Result Call BadLine
abandon_of (p ∷ []) =
    and_then (operand 2 p) (λ p.
    and_then (byte p) (λ p.
    Ok (Abandon p)))
abandon_of operands = Err (miscounted operands (Exactly 2))

abbrev pub deliver_of : List (List ℕ) → Result Call BadLine
deliver_of (i ∷ []) =
    and_then (operand 2 i) (λ i.
    Ok (Deliver i.number))
deliver_of operands = Err (miscounted operands (Exactly 2))

abbrev pub discard_of : List (List ℕ) → Result Call BadLine
discard_of (i ∷ []) =
    and_then (operand 2 i) (λ i.
    Ok (Discard i.number))
discard_of operands = Err (miscounted operands (Exactly 2))

abbrev pub prune_of : List (List ℕ) → Result Call BadLine
prune_of (h ∷ []) =
    and_then (operand 2 h) (λ h.
    Ok (Prune h.number))
prune_of operands = Err (miscounted operands (Exactly 2))

abbrev pub count_of : List (List ℕ) → Result Call BadLine
count_of [] = Ok Count
count_of operands = Err (miscounted operands (Exactly 1))

-- a commit with no rooms named has room for all that a chain may hold
abbrev pub commit_of_all : List ℕ → List ℕ → List ℕ → Result Request BadLine
commit_of_all p l c =
    and_then (operand 2 p) (λ p.
    and_then (operand 3 l) (λ l.
    and_then (operand 4 c) (λ c.
    and_then (byte p) (λ p.
    and_then (byte l) (λ l.
    Ok (record { call = Commit p l c.number chain_readings write_keys; names_rooms = false }))))))

abbrev pub commit_into : List ℕ → List ℕ → List ℕ → List ℕ → List ℕ → Result Request BadLine
commit_into p l c r w =
    and_then (operand 2 p) (λ p.
    and_then (operand 3 l) (λ l.
    and_then (operand 4 c) (λ c.
    and_then (operand 5 r) (λ r.
    and_then (operand 6 w) (λ w.
    and_then (byte p) (λ p.
    and_then (byte l) (λ l.
    and_then (up_to chain_readings r) (λ r.
    and_then (up_to write_keys w) (λ w.
    Ok (record { call = Commit p l c.number r w; names_rooms = true }))))))))))

abbrev pub commit_of : List (List ℕ) → Result Request BadLine
commit_of (p ∷ l ∷ c ∷ []) = commit_of_all p l c
commit_of (p ∷ l ∷ c ∷ r ∷ w ∷ []) = commit_into p l c r w
commit_of operands = Err (miscounted operands (Either 4 6))
