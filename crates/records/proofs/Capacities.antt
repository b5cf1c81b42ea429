-- The capacity of a store of records, and its room.
use Rattle.std.proofs.Common.{◌≡◌, ℕ, ◌≤◌, Bool, true, false, refl, arith}
use Rattle.snapshot.specs.Limits.{key_count}
use Rattle.records.specs.Layouts.{capacity_for, room_for}

-- is 64 or more
pub least : (fit : Bool) (size : ℕ) → (fit ≡ true → key_count ≤ size) → key_count ≤ capacity_for fit size
least true size enough = enough refl
least false size enough = omega arith

pub room_le : (fit : Bool) (size : ℕ) → room_for fit size ≤ size
room_le true size = omega arith
room_le false size = omega arith

-- where fit memory is no larger than this, there is no more room
pub room_bound : (fit : Bool) (size most : ℕ) → (fit ≡ true → size ≤ most) → room_for fit size ≤ most
room_bound true size most bound = bound refl
room_bound false size most bound = omega arith
