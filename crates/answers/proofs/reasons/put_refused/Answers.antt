-- The refusal's row stands at the front of the buffer, and is filled in.
use Rattle.answers.proofs.Parts.{reason_few, refused_at, refused_few, row_made}
use native.Mathlib.Omega.{arith}
use borrow.Author.Rules.{rules}
use Rattle.answers.proofs.reasons.put_refused.Goals as goal

pub write_row-requires : goal.write_row-requires
write_row-requires c =
    let front = c in
    let row = front in
    let e = row_made (search rules) row.put_reason-n.ensures.1 row.put_reason-n.ensures.0 front.front.ensures.0 in (
      omega (arith, front.front.ensures.1, row.put_reason-n.ensures.1),
      omega (arith, reason_few _ _ e, row.requires),
    )

pub returns-then-number-eq16 : goal.returns-then-number-eq16
returns-then-number-eq16 c =
    let write = c in
    let front = write in
    let row = front in
    let e = row_made (search rules) row.put_reason-n.ensures.1 row.put_reason-n.ensures.0 front.front.ensures.0 in (
      refused_few _ _ _ _ _ e front.if-number-eq16.true write.write_row.ensures.0,
      omega (arith, reason_few _ _ e, write.write_row.ensures.1),
    )

pub write_row-requires-2 : goal.write_row-requires-2
write_row-requires-2 c =
    let front = c in
    let row = front in
    let e = row_made (search rules) row.put_reason-n.ensures.1 row.put_reason-n.ensures.0 front.front-2.ensures.0 in (
      omega (arith, front.front-2.ensures.1, row.put_reason-n.ensures.1),
      omega (arith, reason_few _ _ e, row.requires),
    )

pub returns : goal.returns
returns c =
    let write = c in
    let from = write in
    let front = from in
    let row = front in
    let e = row_made (search rules) row.put_reason-n.ensures.1 row.put_reason-n.ensures.0 front.front-2.ensures.0 in (
      refused_at _ _ _ _ _ e _ front.if-number-eq16.false from.from.ensures write.write_row-2.ensures.0,
      omega (arith, reason_few _ _ e, write.write_row-2.ensures.1),
    )
