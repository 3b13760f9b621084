-- The two words at the number.
use native.Mathlib.Omega.{arith}
use Rattle.index.specs.Sets.{set_of}
use Rattle.index.proofs.sets_at.set_of.Goals as goal

pub set_at-requires : goal.set_at-requires
set_at-requires c =
    let s = c in
    omega (arith, s.requires.2.small s.args.at s.requires.0, s.requires.2.sets_sized, c.number.ensures.0)

pub returns : goal.returns
unfolding set_of
returns c = simp (← c.number.ensures.0) c.set_at.ensures
