-- Each page has the triangle's places at its own numbers; a place past the first page is in a row of the second.
use native.Mathlib.Omega.{arith}
use Rattle.binomials.proofs.Pages.{on_left, on_right}
use Rattle.draw.proofs.triangle.entry.Goals as goal

pub returns-then-place-lt9 : goal.returns-then-place-lt9
returns-then-place-lt9 c = on_left _ _ (omega arith) (omega arith)

pub returns-else-place-lt9 : goal.returns-else-place-lt9
returns-else-place-lt9 c = on_right _ _ (omega arith) (omega arith) (omega arith)
