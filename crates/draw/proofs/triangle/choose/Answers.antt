-- Past the row's end C is 0; in the row it is the triangle's entry.
use mathlib.Core.Path.{◌∙◌, sym}
use Rattle.binomials.proofs.Binomials.{choose_past}
use Rattle.binomials.proofs.Rows.{pascal}
use Rattle.draw.proofs.triangle.choose.Goals as goal

pub returns-then-n-k : goal.returns-then-n-k
returns-then-n-k c = sym (choose_past _ _ c.if-n-k.true)

pub returns-else-n-k : goal.returns-else-n-k
returns-else-n-k c = c.entry.ensures ∙ pascal.is_choose _ _ c.requires c.if-n-k.false
