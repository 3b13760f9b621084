use mathlib.Core.Path.{refl}
use Rattle.generations.specs.Generations.{is_at}
use Rattle.arrivals.proofs.is_arrival.Goals as goal

pub returns : goal.returns
unfolding is_at
returns c = refl
