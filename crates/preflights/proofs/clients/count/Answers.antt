-- By the vault's answer.
use Rattle.preflights.proofs.clients.count.Goals as goal

pub returns-in-Already : goal.returns-in-Already
returns-in-Already c = simp (c.in-Already.is, ← c.size.ensures) c.note.ensures

pub returns-in-Fresh : goal.returns-in-Fresh
returns-in-Fresh c = simp (c.in-Fresh.is, ← c.enter-entered.ensures) c.vote.ensures

pub returns-in-Denied : goal.returns-in-Denied
returns-in-Denied c = simp c.in-Denied.is c.note-in-Denied.ensures
