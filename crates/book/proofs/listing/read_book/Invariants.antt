-- What was added is the listing so far, and the list has not lost room; each turn goes on in the book.
use Rattle.std.proofs.Common.{◌-◌, ◌≤◌, length, vec_items, vec_capacity}
use Rattle.book.proofs.Listings.{Behind}
use Rattle.book.proofs.listing.read_book.Given as goal

abbrev pub invariant-loop-start : goal.invariant-loop-start
invariant-loop-start l =
    Behind (vec_items l.initial.heads) (vec_items l.heads) l.book l.start
    × (vec_capacity l.initial.heads ≤ vec_capacity l.heads)

abbrev pub decreases-loop-start : goal.decreases-loop-start
decreases-loop-start l = length l.book - l.start
