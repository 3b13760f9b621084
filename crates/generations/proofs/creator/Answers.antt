-- Each of the first positions is tested, in order.
use Rattle.std.proofs.Common.{rules}
use Rattle.job_sets.specs.Jobs.{job_has}
use Rattle.generations.proofs.Positions.{first_of_front, first_of_slice}
use Rattle.generations.specs.Memo.{is_maker}
use Rattle.generations.proofs.creator.Goals as goal

pub returns : goal.returns
unfolding is_maker
returns c =
    let a = c.args in
    first_of_front a.order.now a.p _ (job_has a.makers) c.requires
    (first_of_slice _ _ _ _ (job_has a.makers) (cc) (λ x r q k. search rules) c.position.ensures.ran)
