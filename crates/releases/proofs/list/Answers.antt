-- What is written leaves the buffer as long as it was.
use mathlib.Core.List.{List}
use mathlib.Core.Path.{◌∙◌, ◌≡◌, ap}
use Prim.Native.Nat.{ℕ}
use lib.ListN.{length}
use lib.Seq.{length-sets}
use Rattle.digits.specs.Digits.{Put}
use borrow.Author.Rules.{rules}
use Rattle.releases.proofs.list.Goals as goal

as_long : {o p t : List ℕ} {at r : ℕ} → Put o at t p r → length p ≡ length o
as_long {o} {p} {t} {at} w = ap length w.wrote ∙ length-sets o at t

ruleset by = (as_long, rules)

pub slice_bounds-front-end : goal.slice_bounds-front-end
slice_bounds-front-end c = search by
