-- Each turn stores one range, and what is stored with what remains is the whole list; an accession's list is returned as it was.
use mathlib.Core.Path.{◌≡◌}
use native.Mathlib.Omega.{arith}
use lib.ListN.{length, length-set}
use borrow.Author.Tests.{eq-eqb, ne_eqb}
use Rattle.record.proofs.Eight.{length_mapped}
use Rattle.ranges.proofs.Lists.{list_end, list_next, list_start}
use Rattle.ranges.proofs.Meets.{meeting}
use Rattle.ranges.specs.Tighten.{tightest_at, tightest_of}
use Rattle.tightening.proofs.tightest.Goals as goal

pub returns-then-e-ne1 : goal.returns-then-e-ne1
unfolding tightest_of
returns-then-e-ne1 c = simp (ne_eqb _ _ c.if-e-ne1.true)

pub loop-i-init : goal.loop-i-init
loop-i-init c =
    let eight : length c.args.e.ranges ≡ 8 = search length_mapped in
    record {
      entry = omega arith;
      eight = eight;
      migration = c.if-e-ne1.false;
      in_is = c.inward-inward.ensures.value;
      out_is = c.outward-outward.ensures.value;
      meet =
          meeting _ _ _ c.inward-inward.ensures.value c.outward-outward.ensures.value c.if-e-ne1.false c.requires
          c.inward-inward.ensures.least_bound c.outward-outward.ensures.least_bound;
      rest = list_start _ 8 _ eight;
    }

pub loop-i-preserved : goal.loop-i-preserved
unfolding tightest_at
loop-i-preserved c =
    let l = c.loop-i in
    record {
      entry = omega arith;
      eight = simp length-set l.invariant.eight;
      migration = l.invariant.migration;
      in_is = l.invariant.in_is;
      out_is = l.invariant.out_is;
      meet = l.invariant.meet;
      rest =
          list_next _ l.i _ l.ranges _ _ c.loop-i-test.true
          (rw (← l.invariant.in_is, ← l.invariant.out_is) c.tightest_by.ensures) l.invariant.rest;
    }

pub returns : goal.returns
unfolding tightest_of
returns c =
    let l = c.loop-i in
    simp (eq-eqb _ _ l.invariant.migration, list_end _ l.i _ l.ranges _ c.loop-i-test.false l.invariant.rest)
