-- The vaults so far signed one of the jobs so far and a partner of it.
use native.Mathlib.Omega.{arith}
use Rattle.std.proofs.lemmas.Nat.{or_comm}
use borrow.Author.Rules.{rules}
use Rattle.equivocation.proofs.Gathering.{pairing, pairs_more}
use Rattle.equivocation.proofs.signed_pairs.Goals as goal

ruleset by = (pairing, rules)

pub loop-k-preserved : goal.loop-k-preserved
loop-k-preserved c =
    let found = c in
    let l = found.loop-k in (
      l.invariant.0,
      (
        omega arith,
        pairs_more _ _ _ _ _ _ l.k l.all _ _ _ _ l.invariant.1.1 found.rivals_of-rivals.ensures c.partners_of.ensures
            c.signers_among-others.ensures (or_comm l.all _),
      ),
    )

pub loop-k-init : goal.loop-k-init
loop-k-init c = search by depth 8

pub rivals_of-rivals-requires : goal.rivals_of-rivals-requires
rivals_of-rivals-requires c = search by

pub offset_bounds-votes-k : goal.offset_bounds-votes-k
offset_bounds-votes-k c = search by

pub bounds-votes-k : goal.bounds-votes-k
bounds-votes-k c = search by

pub partners_of-requires : goal.partners_of-requires
partners_of-requires c = search by

pub signers_among-others-requires : goal.signers_among-others-requires
signers_among-others-requires c = search by

pub overflow_step-k : goal.overflow_step-k
overflow_step-k c = search by

pub loop-k-smaller : goal.loop-k-smaller
loop-k-smaller c = search by

pub returns : goal.returns
returns c = search by depth 8
