-- The explanation's parts, the last one first.
use Rattle.telling.proofs.Parts.{step_put}
use native.Mathlib.Omega.{arith}
use Rattle.telling.proofs.put_step.Goals as goal

pub returns : goal.returns
returns c =
    let end = c in
    let answer = end in
    let colon = answer in
    let said = colon in
    let number = said in (
      step_put _ _ _ _ _ _ _ _ number.write_number-a.ensures.0 said.put_said-b.ensures.0 colon.put-c.ensures.0 answer.put_answer-d.ensures.0
          end.put.ensures.0,
      omega (
        arith,
        number.write_number-a.ensures.1,
        said.put_said-b.ensures.1,
        colon.put-c.ensures.1,
        answer.put_answer-d.ensures.1,
        end.put.ensures.1,
      ),
    )
