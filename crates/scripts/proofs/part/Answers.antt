-- What stands from a place on of the first bytes.
use mathlib.Core.List.{List}
use mathlib.Core.Path.{◌∙◌, ap}
use Prim.Native.Nat.{ℕ}
use lib.ListN.{drop}
use Rattle.scripts.proofs.part.Goals as goal

pub returns : goal.returns
returns c = c.from.ensures ∙ ap (λ (l : List ℕ). drop c.args.from l) c.front.ensures.0
