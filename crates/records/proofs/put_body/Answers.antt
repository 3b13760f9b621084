-- Each turn stores one entry, and what is stored with what remains is the whole of the entries.
use mathlib.Core.Path.{◌∙◌, ◌≡◌}
use native.Mathlib.Omega.{arith}
use lib.ListN.{length}
use Rattle.record.proofs.Eight.{length_mapped}
use Rattle.codec.proofs.Jobs.{body_done, write_step}
use Rattle.codec.specs.Codec.{body_of}
use Rattle.records.proofs.put_body.Goals as goal

pub loop-i-preserved : goal.loop-i-preserved
loop-i-preserved c =
    let l = c.loop-i in
    let a = c.args in
    let p = c.put_entry in
    let n : length a.job.entries ≡ 8 = search length_mapped in
    (omega arith, (p.auto.out ∙ l.invariant.1.0, (l.invariant.1.1.0, rw p.ensures (write_step _ _ _ l.i (omega arith) ∙ l.invariant.1.1.1))))

pub returns : goal.returns
unfolding body_of
returns c =
    let l = c.loop-i in
    let a = c.args in
    let n : length a.job.entries ≡ 8 = search length_mapped in
    body_done a.out.now l.out a.job l.i c.loop-i-test.false n l.invariant.1.1.1
