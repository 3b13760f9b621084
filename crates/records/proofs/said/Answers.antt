-- Each turn stores one entry, and what is stored with what remains is the whole list of entries.
use mathlib.Core.Path.{◌∙◌, refl}
use native.Mathlib.Omega.{arith}
use lib.ListN.{length-set}
use Rattle.codec.proofs.Jobs.{read_done, read_step}
use Rattle.codec.specs.Codec.{entries_at, job_of}
use Rattle.records.proofs.said.Goals as goal

pub loop-i-init : goal.loop-i-init
unfolding entries_at
loop-i-init c = (omega arith, (refl, refl))

pub loop-i-preserved : goal.loop-i-preserved
loop-i-preserved c =
    let l = c.loop-i in
    (omega arith, (simp length-set l.invariant.1.0, rw c.entry_at.ensures (read_step _ _ l.i c.loop-i-test.true ∙ l.invariant.1.1)))

pub returns : goal.returns
unfolding job_of
returns c =
    let d = c in
    let l = d.loop-i in
    let e = read_done _ _ l.i d.loop-i-test.false l.invariant.1.1 in
    let b = c in
    simp (c.number_at.ensures.0, c.byte_at-4.ensures, b.byte_at-3.ensures, b.byte_at-2.ensures, d.byte_at.ensures, e)
