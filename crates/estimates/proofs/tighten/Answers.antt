-- Each arm is one case of `settle`, and the match tells which; where all checks pass, 25 has.
use Rattle.ranges.proofs.Meets.{checks_balance}
use Rattle.ranges.specs.Tighten.{tighten_of}
use Rattle.estimates.proofs.tighten.Goals as goal

pub tightest-ranges-requires : goal.tightest-ranges-requires
unfolding tighten_of
tightest-ranges-requires c = checks_balance _ _ c.check.ensures c.in-Ok.is

pub returns-in-Err : goal.returns-in-Err
unfolding tighten_of
returns-in-Err c = simp (← c.check.ensures, c.in-Err.is)

pub returns-in-Ok : goal.returns-in-Ok
unfolding tighten_of
returns-in-Ok c = simp (← c.check.ensures, c.in-Ok.is, c.tightest-ranges.ensures)
