-- By the vault's answer.
use Rattle.preflights.proofs.decide.Goals as goal

pub returns-in-Already : goal.returns-in-Already
returns-in-Already c = simp (c.in-Already.is, ← c.size.ensures) c.answer.ensures

pub returns-in-Fresh : goal.returns-in-Fresh
returns-in-Fresh c = simp c.in-Fresh.is c.vote.ensures

pub returns-in-Denied : goal.returns-in-Denied
returns-in-Denied c = simp c.in-Denied.is c.refuse.ensures
