-- The limits, each named once, and which numbers lie within them.
use Rattle.std.specs.Prelude.{ℕ, ◌^◌, Bool, ◌&&◌, nat_le, nat_lt}

-- the open end: later than every timestamp, "no end known"
abbrev pub open_end : ℕ
open_end = 2 ^ 48

abbrev pub key_count : ℕ
key_count = 64

abbrev pub worker_count : ℕ
worker_count = 8

abbrev pub place_count : ℕ
place_count = 4

abbrev pub leg_count : ℕ
leg_count = 16

-- the most keys in a write set
abbrev pub write_keys : ℕ
write_keys = 8

-- the most readings of a chain
abbrev pub chain_readings : ℕ
chain_readings = 32

-- the most keys in a worker's cache
abbrev pub cache_keys : ℕ
cache_keys = 8

-- the most notices that wait
abbrev pub waiting_notices : ℕ
waiting_notices = 32

-- the fewest and the most records of a table store's memory
abbrev pub least_records : ℕ
least_records = 64

abbrev pub most_records : ℕ
most_records = 1024

-- a time is 0 to the open end
abbrev pub is_time : ℕ → Bool
is_time t = nat_le t open_end

-- a commit's timestamp is 1 to one below the open end
abbrev pub is_timestamp : ℕ → Bool
is_timestamp t = nat_le 1 t && nat_lt t open_end

abbrev pub is_key : ℕ → Bool
is_key k = nat_lt k key_count

abbrev pub is_worker : ℕ → Bool
is_worker w = nat_lt w worker_count

abbrev pub is_place : ℕ → Bool
is_place p = nat_lt p place_count

abbrev pub is_leg : ℕ → Bool
is_leg l = nat_lt l leg_count
