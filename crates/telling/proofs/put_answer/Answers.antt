-- A proposal is about its own record, and every other step about the job's that it names.
use Rattle.telling.proofs.Parts.{answer_named, answer_own}
use Rattle.telling.proofs.put_answer.Goals as goal

pub returns-then-kind-eq1 : goal.returns-then-kind-eq1
returns-then-kind-eq1 c =
    let put = c in
    let own = put in
    let way = own in
    let quorum = way in (
      answer_own _ _ _ _ _ _ _ _ _ _ quorum.byte_at-kind.ensures quorum.quorum-threshold.ensures put.put_answer.ensures.0 way.if-kind-eq1.true
          own.from-own.ensures,
      put.put_answer.ensures.1,
    )

pub returns : goal.returns
returns c =
    let put = c in
    let named = put in
    let job = named in
    let way = job in
    let quorum = way in (
      answer_named _ _ _ _ _ _ _ _ _ _ quorum.byte_at-kind.ensures quorum.quorum-threshold.ensures put.put_answer-2.ensures.0 _ way.if-kind-eq1.false
          job.byte_at-job.ensures named.lookup-named.ensures,
      put.put_answer-2.ensures.1,
    )
