-- Two stores at places that lie inside.
use native.Mathlib.Numerals.{add-one}
use native.Mathlib.Omega.{arith}
use lib.ListN.{length-set}
use Rattle.index.specs.Records.{records_with}
use Rattle.index.proofs.records.file.Goals as goal

pub bounds-records-b-2 : goal.bounds-records-b-2
bounds-records-b-2 c = simp length-set (omega arith)

pub returns : goal.returns
unfolding records_with
returns c = rw (← c.sum-b.ensures.0, add-one)
