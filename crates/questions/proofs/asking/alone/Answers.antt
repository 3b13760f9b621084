use Rattle.questions.proofs.asking.alone.Goals as goal

pub returns : goal.returns
returns c = simp c.empty.ensures
