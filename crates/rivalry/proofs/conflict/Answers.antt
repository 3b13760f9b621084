-- By the index, as the two jobs conflict; the counts are those of the one job's record.
use mathlib.Core.Path.{◌∙◌, ap}
use native.Mathlib.Omega.{arith}
use Rattle.job_sets.specs.Jobs.{job_with}
use Rattle.job_sets.specs.declared.job_set.JobSet.{JobSet}
use Rattle.rivalry.proofs.Shares.{conflict_booked}
use Rattle.index.proofs.Tables.{indexed_tables}
use Rattle.rivalry.proofs.conflict.Goals as goal

pub conflicts_by-requires : goal.conflicts_by-requires
conflicts_by-requires c =
    let p = c.requires in
    (omega (arith, p.0, p.2.few), indexed_tables _ _ _ _ _ p.2)

pub returns : goal.returns
returns c =
    let one = c in
    let counts = one in
    let start = counts in
    let p = start.requires in
    let set = c.with.ensures ∙ ap (λ (s : JobSet). job_with s start.args.other) one.empty.ensures in
    conflict_booked _ _ _ _ _ p.2 _ _ _ _ _ _ _ p.0 p.1 counts.lookup-part.ensures counts.inputs_of-inputs.ensures
    one.outputs_of-outputs.ensures set c.conflicts_by.ensures
