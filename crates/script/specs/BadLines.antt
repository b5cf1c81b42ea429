-- What is said of a bad line.
use Rattle.std.specs.Prelude.{ℕ, ◌==◌, if◌then◌else◌, List, ◌++◌, codes, decimal, nat_lt}
use Rattle.snapshot.specs.Shown.{line_break}
use Rattle.script.specs.declared.bad_line.BadLine.{BadLine}
use Rattle.script.specs.declared.bad_line.BadLine.TheVariants.{UnknownWord, WordCount, NotANumber, OutOfRange, LateStore}
use Rattle.script.specs.declared.bad_line.Wanted.{Wanted}
use Rattle.script.specs.declared.bad_line.Wanted.TheVariants.{Exactly, Either}

-- how many words are wanted
abbrev pub wanted_text : Wanted → List ℕ
wanted_text (Exactly n) = if n == 1 then codes "1 is" else decimal n ++ codes " are"
wanted_text (Either n m) = decimal n ++ (codes " or " ++ (decimal m ++ codes " are"))

-- how many words there are; seven stand for seven or more
abbrev pub words_text : ℕ → List ℕ
words_text n =
    if n == 1 then codes "1 word"
    else if nat_lt n 7 then decimal n ++ codes " words"
    else decimal n ++ codes " or more words"

-- why a line is bad
abbrev pub bad_text : BadLine → List ℕ
bad_text (UnknownWord place) = codes "unknown word (word " ++ (decimal place ++ codes ")")
bad_text (WordCount words wanted) = words_text words ++ (codes ", where " ++ (wanted_text wanted ++ codes " wanted"))
bad_text (NotANumber place) = codes "word " ++ (decimal place ++ codes " is not a number")
bad_text (OutOfRange place most) =
    codes "word " ++ (decimal place ++ (codes " is out of range (0 to " ++ (decimal most ++ codes ")")))
bad_text LateStore = codes "a store line stands once, before every call"

-- what is told of the line with this number
abbrev pub message : ℕ → BadLine → List ℕ
message number bad = codes "line " ++ (decimal number ++ (codes ": " ++ (bad_text bad ++ line_break)))
