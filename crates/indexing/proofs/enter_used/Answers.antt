-- The two numbers of the place are stored and its job is marked at them.
use native.Mathlib.Omega.{arith}
use Rattle.index.proofs.Inside.{holds_before}
use Rattle.index.proofs.Tables.{entries_next, entries_numbered, numbers_sized, sets_sized}
use Rattle.indexing.proofs.enter_used.Goals as goal

pub numbers_of-own-requires : goal.numbers_of-own-requires
numbers_of-own-requires c = let p = c.requires in (holds_before _ _ _ p.0, entries_numbered _ _ _ _ p.2 (omega arith))

pub mark-requires : goal.mark-requires
mark-requires c = (omega arith, omega arith, omega arith, sets_sized _ _ _ _ c.requires.2 (omega arith))

pub put-requires : goal.put-requires
put-requires c =
    let p = c.requires in
    (omega arith, omega arith, omega arith, omega arith, numbers_sized _ _ _ _ p.2 (omega arith))

pub returns : goal.returns
returns c =
    let p = c.requires in
    entries_next _ _ _ _ p.2 _ _ _ _ _ _ _ p.1 c.numbers_of-own.ensures c.bucket.ensures c.put.ensures c.mark.ensures
