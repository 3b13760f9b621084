use Rattle.progress.proofs.carried_out.Goals as goal

pub returns : goal.returns
returns c = simp c.empty.ensures
