-- The certified jobs, those with few certified rivals, and the vaults that signed a job and a partner of it, one found from the other.
use Rattle.equivocation.proofs.Partners.{equivocators_found}
use Rattle.equivocation.proofs.equivocating.Goals as goal

pub returns : goal.returns
returns c =
    let few = c in
    let start = few in
    equivocators_found _ _ _ _ start.requires.few _ _ _ _ _ few.certified_jobs-certified.ensures few.few_excuses-few.ensures.0 few.few_excuses-few.ensures.1
    c.signed_pairs-all.ensures c.vaults_below.ensures
