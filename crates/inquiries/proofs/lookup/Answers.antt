-- Where check 1 passes, the journal's own `lookup`, at the ledger's count of booked records, shows what `record_at` says; else the part is empty.
use mathlib.Core.Path.{◌∙◌, sym}
use Rattle.ledger.specs.Steps.{shown_of}
use Rattle.inquiries.proofs.lookup.Goals as goal

pub returns-then-is_sane : goal.returns-then-is_sane
unfolding shown_of
returns-then-is_sane c = let asked = c in simp (sym asked.is_sane.ensures ∙ asked.if-is_sane.true, c.lookup.ensures)

pub returns : goal.returns
unfolding shown_of
returns c = let asked = c in simp (sym asked.is_sane.ensures ∙ asked.if-is_sane.false)
