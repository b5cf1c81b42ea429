-- The refusals with their numbers, and what a fault holds.
use Rattle.std.specs.Prelude.{◌≡◌, ℕ, ◌-◌, ◌≤◌, List, [], ◌∷◌, Some, None, slice_index_or}
use Rattle.snapshot.specs.declared.fault.Refusal.{Refusal}
use Rattle.snapshot.specs.declared.fault.Refusal.TheVariants.{OutOfRange, PlaceOccupied, NotOpen, SameLeg, TooManyLegs, IntervalsApart, WriteSetFull, ReadingsFull, AnotherLegOpen, TooShort, UnfitWrites, ClockTooHigh, NoTimeLeft, CapacityExceeded, VersionGone, NoSuchNotice, UnfitMemory, AccountCut, WrongMark, WrongLastByte, Unlawful}
use Rattle.snapshot.specs.declared.fault.Layer.{Layer}
use Rattle.snapshot.specs.declared.fault.Layer.TheVariants.{Book}
use Rattle.snapshot.specs.declared.fault.Fault.{Fault}
use Rattle.snapshot.specs.declared.fault.BookFault.{BookFault}
use Rattle.snapshot.specs.declared.fault.EngineFault.{EngineFault}

-- the number of each refusal
abbrev pub refusal_number : Refusal → ℕ
refusal_number OutOfRange = 1
refusal_number PlaceOccupied = 2
refusal_number NotOpen = 3
refusal_number SameLeg = 4
refusal_number TooManyLegs = 5
refusal_number IntervalsApart = 6
refusal_number WriteSetFull = 7
refusal_number ReadingsFull = 8
refusal_number AnotherLegOpen = 9
refusal_number TooShort = 10
refusal_number UnfitWrites = 11
refusal_number ClockTooHigh = 12
refusal_number NoTimeLeft = 13
refusal_number CapacityExceeded = 14
refusal_number VersionGone = 15
refusal_number NoSuchNotice = 16
refusal_number UnfitMemory = 17
refusal_number AccountCut = 18
refusal_number WrongMark = 19
refusal_number WrongLastByte = 20
refusal_number Unlawful = 21

-- all refusals in the order of their numbers, which count from 1
abbrev pub refusals : List Refusal
refusals =
    OutOfRange ∷ PlaceOccupied ∷ NotOpen ∷ SameLeg ∷ TooManyLegs ∷ IntervalsApart ∷ WriteSetFull ∷ ReadingsFull
    ∷ AnotherLegOpen ∷ TooShort ∷ UnfitWrites ∷ ClockTooHigh ∷ NoTimeLeft ∷ CapacityExceeded ∷ VersionGone ∷ NoSuchNotice
    ∷ UnfitMemory ∷ AccountCut ∷ WrongMark ∷ WrongLastByte ∷ Unlawful ∷ []

-- a refusal stands in that list at its number, so that no two have the same
abbrev pub Numbered : Refusal → ℕ → Type 0
Numbered r n = (1 ≤ n) × ((d : Refusal) → slice_index_or refusals (n - 1) d ≡ r)

abbrev pub not_named : ℕ
not_named = 255

-- the fault of a call that names a key and nothing else
abbrev pub at_key : Refusal → Layer → ℕ → Fault
at_key r l k = record { refusal = r; layer = l; place = not_named; leg = not_named; key = k }

-- the fault of a call that names nothing
abbrev pub unnamed : Refusal → Layer → Fault
unnamed r l = at_key r l not_named

abbrev pub book_fault : Refusal → ℕ → BookFault
book_fault r at = record { fault = unnamed r Book; start = at }

abbrev pub own_fault : Fault → EngineFault
own_fault f = record { fault = f; of_store = None }

-- the refusal and the layer that refused first are the store's; place, leg and key are the engine's call's
abbrev pub around_store : Fault → ℕ → ℕ → ℕ → EngineFault
around_store f p l k =
    record {
      fault = record { refusal = f.refusal; layer = f.layer; place = p; leg = l; key = k };
      of_store = Some f;
    }
