-- Each refusal stands at its number in the list of all.
use Rattle.std.proofs.Common.{◌≡◌, ℕ, lit≤, refl, sym, subst}
use Rattle.snapshot.specs.Refusals.{Numbered, refusal_number}
use Rattle.snapshot.specs.declared.fault.Refusal.{Refusal}
use Rattle.snapshot.specs.declared.fault.Refusal.TheVariants.{OutOfRange, PlaceOccupied, NotOpen, SameLeg, TooManyLegs, IntervalsApart, WriteSetFull, ReadingsFull, AnotherLegOpen, TooShort, UnfitWrites, ClockTooHigh, NoTimeLeft, CapacityExceeded, VersionGone, NoSuchNotice, UnfitMemory, AccountCut, WrongMark, WrongLastByte, Unlawful}

numbered : (r : Refusal) → Numbered r (refusal_number r)
numbered OutOfRange = (lit≤ tt, λ d. refl)
numbered PlaceOccupied = (lit≤ tt, λ d. refl)
numbered NotOpen = (lit≤ tt, λ d. refl)
numbered SameLeg = (lit≤ tt, λ d. refl)
numbered TooManyLegs = (lit≤ tt, λ d. refl)
numbered IntervalsApart = (lit≤ tt, λ d. refl)
numbered WriteSetFull = (lit≤ tt, λ d. refl)
numbered ReadingsFull = (lit≤ tt, λ d. refl)
numbered AnotherLegOpen = (lit≤ tt, λ d. refl)
numbered TooShort = (lit≤ tt, λ d. refl)
numbered UnfitWrites = (lit≤ tt, λ d. refl)
numbered ClockTooHigh = (lit≤ tt, λ d. refl)
numbered NoTimeLeft = (lit≤ tt, λ d. refl)
numbered CapacityExceeded = (lit≤ tt, λ d. refl)
numbered VersionGone = (lit≤ tt, λ d. refl)
numbered NoSuchNotice = (lit≤ tt, λ d. refl)
numbered UnfitMemory = (lit≤ tt, λ d. refl)
numbered AccountCut = (lit≤ tt, λ d. refl)
numbered WrongMark = (lit≤ tt, λ d. refl)
numbered WrongLastByte = (lit≤ tt, λ d. refl)
numbered Unlawful = (lit≤ tt, λ d. refl)

pub numbered_as : (r : Refusal) (n : ℕ) → n ≡ refusal_number r → Numbered r n
numbered_as r n e = subst (Numbered r) (sym e) (numbered r)
