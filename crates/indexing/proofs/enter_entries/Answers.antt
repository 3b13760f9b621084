-- The loop's head holds the tables of the entries so far.
use mathlib.Core.Path.{◌∙◌, sym}
use Prim.Native.Nat.{◌-◌}
use native.Mathlib.Omega.{arith}
use borrow.Author.Rules.{rules}
use Rattle.index.proofs.Tables.{entries_all, entries_begin, entries_on, numbers_sized, sets_sized}
use Rattle.indexing.proofs.enter_entries.Goals as goal

ruleset by = (entries_begin, entries_on, entries_all, rules)

pub shape_of-numbers : goal.shape_of-numbers
shape_of-numbers c =
    let l = c in
    numbers_sized _ _ _ _ l.loop-e.invariant.1 (omega arith) ∙ sym (numbers_sized _ _ _ _ l.requires.2 (omega arith))

pub shape_of-sets : goal.shape_of-sets
shape_of-sets c =
    let l = c in
    sets_sized _ _ _ _ l.loop-e.invariant.1 (omega arith) ∙ sym (sets_sized _ _ _ _ l.requires.2 (omega arith))

pub loop-e-init : goal.loop-e-init
loop-e-init c = search by

pub enter_entry-requires : goal.enter_entry-requires
enter_entry-requires c = search by

pub loop-e-preserved : goal.loop-e-preserved
loop-e-preserved c = search by

pub returns : goal.returns
returns c = search by
