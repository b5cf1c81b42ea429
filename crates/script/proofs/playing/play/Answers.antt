-- Each output by itself.
use Rattle.script.specs.Sinks.{to_printed, to_book, to_messages}
use Rattle.script.proofs.playing.play.Goals as goal

pub returns-clause-prints : goal.returns-clause-prints
returns-clause-prints g c = rw c.new.ensures at (c.play_script.ensures to_printed)

pub returns-clause-books : goal.returns-clause-books
returns-clause-books g c = rw c.new.ensures at (c.play_script.ensures to_book)

pub returns-clause-tells : goal.returns-clause-tells
returns-clause-tells g c = rw c.new.ensures at (c.play_script.ensures to_messages)
