-- Each position is tested, in order.
use Rattle.std.proofs.Common.{rules}
use lib.Dec.{eqb}
use Rattle.generations.proofs.Positions.{first_of_slice}
use Rattle.generations.specs.Generations.{is_at}
use Rattle.generations.proofs.position.Goals as goal

pub returns : goal.returns
unfolding is_at
returns c = first_of_slice _ _ c.args.order.now _ (λ x. eqb x c.args.job) (cc) (λ x r q k. search rules) c.position.ensures.ran
