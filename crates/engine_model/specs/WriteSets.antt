-- The write set of a leg: its writes in rising order of their keys, one for a key.
use Rattle.std.specs.Prelude.{ℕ, List, [], ◌∷◌, ◌==◌, nat_lt, Some, None, Option, slice_set, insert}
use Rattle.std.specs.List.{position_or_len}
use Rattle.snapshot.specs.Finding.{first_with}
use Rattle.snapshot.specs.declared.account.Write.{Write}

-- the place of the first write to a key, if there is one
abbrev pub place_of_write : ℕ → List Write → Option ℕ
place_of_write k ws = first_with (λ x. x.key == k) ws

-- the place of the first write to a higher key, or the end
abbrev pub place_by_order : ℕ → List Write → ℕ
place_by_order k ws = position_or_len (λ x. nat_lt k x.key) ws

-- a write comes into the place of one to its key, or where there is none before the first write to a higher key
abbrev pub written_at : Option ℕ → Write → List Write → List Write
written_at (Some i) w ws = slice_set ws i w
written_at None w ws = insert ws (place_by_order w.key ws) w

-- a write is made: it takes the place of the first one to its key, or else goes before the first write to a higher key
abbrev pub with_write : Write → List Write → List Write
with_write w ws = written_at (place_of_write w.key ws) w ws

-- two write sets become one: a key in both takes the second's value
abbrev pub united : List Write → List Write → List Write
united first [] = first
united first (w ∷ ws) = united (with_write w first) ws
