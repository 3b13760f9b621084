-- The three verdicts are put together as `checks_of` does.
use Rattle.ranges.specs.Tighten.{checks_of}
use Rattle.estimates.proofs.check.Goals as goal

pub returns : goal.returns
unfolding checks_of
returns c = let found = c in
    simp (
      ← found.check-form.ensures,
      ← found.check_order-order.ensures,
      ← found.check_balance-balance.ensures,
      ← c.first_failing.ensures,
      c.first_failing-2.ensures,
    )
