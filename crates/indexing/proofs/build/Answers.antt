-- The loop's head holds the index of the records so far.
use mathlib.Core.Path.{◌∙◌}
use Prim.Native.Nat.{◌-◌}
use borrow.Author.Rules.{rules}
use Rattle.index.proofs.Inside.{front_job_lem, inside_record, room_at}
use Rattle.index.proofs.Tables.{indexed_all, indexed_lengths, indexed_none}
use Rattle.indexing.proofs.build.Goals as goal

ruleset by = (indexed_none, indexed_all, rules)

pub enter-requires : goal.enter-requires
enter-requires c = (
  search (inside_record, rules),
  c.read.ensures ∙ front_job_lem _ _ _ _
      c.slot.ensures,
  c.loop-k.invariant.1,
)

pub shape_of-numbers : goal.shape_of-numbers
shape_of-numbers c = (indexed_lengths _ _ _ _ _ _ c.loop-k.invariant.1 _ _ _ c.requires.2).0

pub shape_of-sets : goal.shape_of-sets
shape_of-sets c = (indexed_lengths _ _ _ _ _ _ c.loop-k.invariant.1 _ _ _ c.requires.2).1

pub shape_of-records : goal.shape_of-records
shape_of-records c = (indexed_lengths _ _ _ _ _ _ c.loop-k.invariant.1 _ _ _ c.requires.2).2

pub loop-k-init : goal.loop-k-init
loop-k-init c = search by

pub slot-requires : goal.slot-requires
slot-requires c = search (room_at, rules)

pub returns : goal.returns
returns c = search by
