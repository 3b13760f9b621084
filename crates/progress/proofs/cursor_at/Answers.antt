use Rattle.progress.proofs.cursor_at.Goals as goal

pub returns : goal.returns
returns c = simp c.empty.ensures
