-- The entries stand one after the other, eight of them.
use mathlib.Core.Path.{◌∙◌, sym}
use Rattle.codec.proofs.Jobs.{job_entry, no_entry_lem}
use Rattle.codec.proofs.entry_of.Goals as goal

pub returns-then-e-lt8 : goal.returns-then-e-lt8
returns-then-e-lt8 c = c.entry_at.ensures ∙ sym (job_entry _ _ c.if-e-lt8.true)

pub returns : goal.returns
returns c = no_entry_lem _ _ c.if-e-lt8.false
