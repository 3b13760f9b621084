-- The header, then the steps of the plan that the first three draws make.
use mathlib.Core.Path.{◌≡◌}
use Rattle.load.proofs.Requests.{joined, planned}
use Rattle.load.specs.Plans.{plan_of}
use Rattle.load_writer.proofs.put_load.Goals as goal

pub returns : goal.returns
returns c = let p : c.choose-plan.result ≡ plan_of
    c.args.seed
    c.args.n
    c.args.b =
    planned _ _ _ _ _ _ _ _ _ _ c.advance-one.ensures c.advance-two.ensures c.advance-three.ensures
    c.draw.ensures
    c.draw-2.ensures
    c.draw-3.ensures
    c.choose-plan.ensures.0 in (
      joined c.args.seed c.args.n c.args.b _ _ _ (cc) p c.faulty.ensures
          c.put_header.ensures.1
          c.put_header.ensures.0 c.put_steps.ensures.0,
      c.put_steps.ensures.1,
    )
