-- By the index, as the jobs are rivals; the counts are those of the job's record.
use native.Mathlib.Omega.{arith}
use Rattle.rivalry.proofs.Opposes.{rivals_booked}
use Rattle.index.proofs.Tables.{indexed_tables}
use Rattle.rivalry.proofs.rivals_of.Goals as goal

pub rivals_by-requires : goal.rivals_by-requires
rivals_by-requires c =
    let p = c.requires in
    (omega (arith, p.0, p.1.few), indexed_tables _ _ _ _ _ p.1)

pub returns : goal.returns
returns c =
    let counts = c in
    let p = counts.requires in
    rivals_booked _ _ _ _ _ p.1 _ _ _ _ _ p.0 counts.lookup-part.ensures counts.inputs_of-inputs.ensures c.outputs_of-outputs.ensures
    c.rivals_by.ensures
