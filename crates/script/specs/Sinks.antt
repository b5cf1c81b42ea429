-- The three outputs of a playing.
use Rattle.std.specs.Prelude.{ℕ, List, Option}
use Rattle.script.specs.declared.outputs.Outputs.{Outputs}

-- one of the outputs: the printed lines, the book, and the messages
pub data Sink : Type 0 where
  to_printed : Sink
  to_book : Sink
  to_messages : Sink

-- what belongs to each output
abbrev pub each_sink : {A : Type 0} → A → A → A → Sink → A
each_sink p b m to_printed = p
each_sink p b m to_book = b
each_sink p b m to_messages = m

-- the bytes that each output holds, where they are known; the first three tell them
abbrev pub held : {W B M : Type 0} → (W → Option (List ℕ)) → (B → Option (List ℕ)) → (M → Option (List ℕ)) → Outputs W B M → Sink → Option (List ℕ)
held printed book messages outputs = each_sink (printed outputs.printed) (book outputs.book) (messages outputs.messages)
