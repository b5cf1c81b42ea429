-- The text of an account's five numbers, in decimal with single spaces, of a layer's name, and the end of a line.
use Rattle.std.specs.Prelude.{ℕ, List, [], ◌∷◌, ◌++◌, codes, decimal}
use Rattle.snapshot.specs.declared.account.AccountHead.{AccountHead}
use Rattle.snapshot.specs.declared.fault.Layer.{Layer}
use Rattle.snapshot.specs.declared.fault.Layer.TheVariants.{Chain, Store, Notices, Book}

-- a number, a space, and what follows
abbrev pub spaced : ℕ → List ℕ → List ℕ
spaced n rest = decimal n ++ (32 ∷ [] ++ rest)

abbrev pub head_text : AccountHead → List ℕ
head_text h =
    spaced h.interval.low
    (spaced h.interval.high (spaced h.timestamp (spaced h.readings (decimal h.writes))))

abbrev pub line_break : List ℕ
line_break = 10 ∷ []

abbrev pub layer_text : Layer → List ℕ
layer_text Chain = codes "chain"
layer_text Store = codes "store"
layer_text Notices = codes "notices"
layer_text Book = codes "book"
