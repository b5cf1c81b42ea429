-- The number that a word is.
use Rattle.std.specs.Prelude.{ℕ, ◌^◌, if◌then◌else◌, ◌&&◌, List, length, Option, Some, None, nat_lt}
use Rattle.std.specs.Char.{is_ascii_digit}
use Rattle.std.specs.List.{list_all}
use Rattle.std.specs.Str.Parse.{digits_value}

-- one decimal digit or more, and nothing else, and no more than 2^64 - 1
abbrev pub parsed_number : List ℕ → Option ℕ
parsed_number word =
    if list_all is_ascii_digit word && (nat_lt 0 (length word) && nat_lt (digits_value 10 word) (2 ^ 64))
    then Some (digits_value 10 word)
    else None
