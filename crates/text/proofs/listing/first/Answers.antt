-- The first bit of the low word, or of the high one where the low one has none.
use lib.Count.{trailing_le}
use native.Mathlib.Omega.{arith}
use Rattle.text.proofs.Members.{first_high, first_low}
use Rattle.text.proofs.listing.first.Goals as goal

pub returns-then-set-eq0 : goal.returns-then-set-eq0
returns-then-set-eq0 c =
    let s = c.args.set in
    (first_high s c.if-set-eq0.true, omega (arith, trailing_le 64 s.high))

pub returns-else-set-eq0 : goal.returns-else-set-eq0
returns-else-set-eq0 c =
    let s = c.args.set in (
      first_low s (record { low_fits = omega arith; high_fits = omega arith }) c.if-set-eq0.false,
      omega (arith, trailing_le 64 s.low),
    )
