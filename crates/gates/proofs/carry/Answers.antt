use Rattle.gates.proofs.carry.Goals as goal

pub returns : goal.returns
returns c = simp c.apply.ensures
