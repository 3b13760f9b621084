-- Check 4 decides its claim.
use mathlib.Core.List.{List}
use Prim.Native.Nat.{◌≤◌, ℕ}
use lib.ListN.{length}
use Rattle.base.proofs.Reflect.{reflect_and, reflect_as, reflect_le, reflect_lt}
use Rattle.base.specs.Reflect.{Reflects}
use Rattle.codec.proofs.Sizes.{place_whole, whole_place}
use Rattle.codec.specs.Codec.{place_of}
use Rattle.journal.specs.Journal.{Booked, is_booked, is_whole, slots}

pub reflect_whole : (version : ℕ) (journal : List ℕ) (booked : ℕ) → Reflects (is_whole version journal booked) (place_of version booked ≤ length journal)
reflect_whole version journal booked =
    reflect_as (reflect_le booked (slots version journal)) (whole_place version booked (length journal)) (place_whole version booked (length journal))

pub reflect_booked : (version : ℕ) (journal : List ℕ) (booked job : ℕ)
    → Reflects (is_booked version journal booked job) (Booked version journal booked job)
unfolding is_booked
reflect_booked version journal booked job =
    reflect_as
    (reflect_and (reflect_whole version journal booked) (reflect_lt job booked))
    (λ h. record { inside = h.0; below = h.1 })
    (λ h. (h.inside, h.below))
