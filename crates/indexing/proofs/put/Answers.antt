-- Four stores at places that lie inside.
use native.Mathlib.Numerals.{add-one}
use native.Mathlib.Omega.{arith}
use lib.ListN.{length-set}
use Rattle.index.specs.Entering.{numbers_with}
use Rattle.indexing.proofs.put.Goals as goal

pub bounds-numbers-m-2 : goal.bounds-numbers-m-2
bounds-numbers-m-2 c = simp length-set (omega arith)

pub bounds-numbers-m-3 : goal.bounds-numbers-m-3
bounds-numbers-m-3 c = simp length-set (omega arith)

pub bounds-numbers-b-2 : goal.bounds-numbers-b-2
bounds-numbers-b-2 c = simp length-set (omega arith)

pub returns : goal.returns
unfolding numbers_with
returns c = simp add-one
