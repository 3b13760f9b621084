-- By the index, as the vaults check the booked jobs; the counts are those of the job's record.
use native.Mathlib.Omega.{arith}
use borrow.Author.Rules.{rules}
use Rattle.index.proofs.Tables.{indexed_tables}
use Rattle.queries.proofs.Admits.{admission_booked}
use Rattle.queries.proofs.admission.Goals as goal

pub admission_by-requires : goal.admission_by-requires
admission_by-requires c = let p = c.requires in (omega (arith, p.0, p.1.few), indexed_tables _ _ _ _ _ p.1)

pub returns : goal.returns
returns c =
    let d = c in
    let s = d in
    let sets = s.well_formed.1.1.1.1.1 in
    admission_booked _ _ _ _ _ s.requires.1 _ _ (search (sets.0, rules)) (search (sets.1.0, rules)) _ _ _ _ _ s.requires.0
    d.lookup-part.ensures c.inputs_of-inputs.ensures c.outputs_of-outputs.ensures c.admission_by.ensures
