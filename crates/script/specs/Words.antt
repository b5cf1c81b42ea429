-- The words of a line.
use Rattle.std.specs.Prelude.{ℕ, ◌-◌, ◌==◌, Bool, true, if◌then◌else◌, ◌&&◌, List, length, take, filter, slice_index, nat_lt}
use Rattle.std.specs.List.{slice_split}

-- a space or a tab
abbrev pub is_space : ℕ → Bool
is_space byte = if byte == 32 then true else byte == 9

-- the line up to its newline, or up to the carriage return right before it
abbrev pub last_is : ℕ → List ℕ → Bool
last_is byte line = nat_lt 0 (length line) && (slice_index line (length line - 1) == byte)

abbrev pub all_but_last : List ℕ → List ℕ
all_but_last line = take (length line - 1) line

abbrev pub without_return : List ℕ → List ℕ
without_return line = if last_is 13 line then all_but_last line else line

abbrev pub without_end : List ℕ → List ℕ
without_end line = if last_is 10 line then without_return (all_but_last line) else line

-- the words of a line without its end
abbrev pub words_of : List ℕ → List (List ℕ)
words_of line = filter (λ word. nat_lt 0 (length word)) (slice_split is_space line)

-- the first seven words: no line of a script has more than six, so that a line with seven is seen to have too many
abbrev pub first_words : List ℕ → List (List ℕ)
first_words line = take 7 (words_of (without_end line))
